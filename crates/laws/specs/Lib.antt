-- Laws of the definitions in crates/rules, for proofs to cite in place of the definitions' text.
pub mod Tests
pub mod Decimal
pub mod Stores
pub mod Rows
pub mod Found
pub mod Meant
