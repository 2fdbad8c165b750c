-- What the listing's function leaves in its buffer, and the laws that join the calls.
pub mod Listed
