-- What the lexer's contracts say, and the laws that its proofs cite.
pub mod Scan
pub mod Laws
