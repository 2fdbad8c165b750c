-- Due order by numbers: a job as one number, sorting, and sorting by blocks.
pub mod Records
pub mod Sorting
pub mod Merging
pub mod Blocks
pub mod Passes
pub mod DueRecords
