-- The proofs of specs/Theorems, and what they rest on. Bridge ties each step of a sequence to the contract in the source.
pub mod Bridge
pub mod Claimed
pub mod Witness
pub mod Lemmas
