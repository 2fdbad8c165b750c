-- What the planner says, and the laws of the loop over the jobs and of the whole answer.
pub mod Said
pub mod Jobs
pub mod Days
