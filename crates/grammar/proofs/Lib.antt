-- What several of the crate's proofs cite of declared types.
pub mod Others
