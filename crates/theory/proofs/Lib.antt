-- The proofs, in the order in which they lean on each other.
pub mod Lists
pub mod Laid
pub mod Runs
pub mod Transfer
pub mod Fits
pub mod Free
pub mod Unmet
pub mod Few
pub mod Proved
pub mod Answers
