-- Lemmas of the round trip.
pub mod Typed
pub mod Asked
pub mod Decoded
