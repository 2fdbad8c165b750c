-- Laws of the tests of a day.
pub mod Ranges
pub mod FirstOut
