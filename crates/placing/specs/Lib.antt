-- What placing a job does to the lent lists, and the laws of the choice of boards.
pub mod Rows
pub mod Lent
pub mod Scans
pub mod Choice
pub mod Steps
pub mod Writes
