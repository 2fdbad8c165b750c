-- The plan file's round trip, as theorems on the reader's and the writer's definitions.
pub mod RoundTrip
