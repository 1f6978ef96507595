-- The proofs of specs/Theorems, and what they rest on.
pub mod Accepts
pub mod Value
pub mod RoundTrip
pub mod Lemmas
