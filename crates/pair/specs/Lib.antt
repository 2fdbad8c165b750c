-- What the contracts of the two readers say, and the laws that their proofs cite.
pub mod Moves
pub mod Laws
