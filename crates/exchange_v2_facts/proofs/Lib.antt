-- The proofs of specs/Theorems, and what they rest on.
pub mod ExchangeV2
pub mod Examples
pub mod Good
pub mod Lemmas
