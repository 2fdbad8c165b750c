-- What the contracts of a step and of a way of reading say, and the laws that the proofs cite.
pub mod Ways
pub mod Laws
