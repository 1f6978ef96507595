-- The proofs of specs/Theorems, and what they rest on.
pub mod ExchangeV1
pub mod Examples
pub mod Lemmas
