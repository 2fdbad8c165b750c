-- Laws that the checker's proofs cite. Answer has SaysPlans, the second clause of its contract; Agreed says that the
-- planner's table passes.
pub mod Alone
pub mod Minutes
pub mod InTurn
pub mod Keys
pub mod Answer
pub mod Agreed
