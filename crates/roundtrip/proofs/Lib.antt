-- The proofs of the round trip.
pub mod RoundTrip
