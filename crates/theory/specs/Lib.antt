-- The three demands as theorems about the definitions in crates/rules. Demands says what is proved, and Tried computes with it:
-- a customer reads these two. The rest are the definitions and laws on which the proofs in proofs/ stand, in the order in which
-- they lean on each other.
pub mod Demands
pub mod Tried
pub mod Lists
pub mod Test
pub mod DueOrder
pub mod Choice
pub mod Steps
pub mod Laid
pub mod Runs
pub mod Minutes
pub mod Fits
pub mod Free
pub mod Covers
pub mod Few
