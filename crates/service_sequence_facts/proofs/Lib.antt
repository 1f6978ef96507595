-- The proofs of specs/Theorems, and what they rest on. Bridge ties each step of a run to the contracts in the source.
pub mod Bridge
pub mod OneCall
pub mod Streamed
pub mod Witness
