-- Laws of the plan file's bytes.
pub mod Parts
pub mod Rows
pub mod Stores
pub mod Writes
