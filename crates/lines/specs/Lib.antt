-- Laws of the lines that a listing is made of.
pub mod Digits
pub mod Pages
pub mod Fields
