-- A law of the refusals' numbers.
pub mod Numbers
