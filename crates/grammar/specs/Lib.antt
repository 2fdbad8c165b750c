-- What the contracts of a turn and of the answer say, and the laws that the proofs cite.
pub mod Turns
pub mod Laws
pub mod Steps
pub mod Ends
