-- Rows as the code goes through them: chunks of four numbers; and by their places.
pub mod Chunks
pub mod Places
