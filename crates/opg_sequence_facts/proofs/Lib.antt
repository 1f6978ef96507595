-- The proofs of specs/Theorems, and what ties the sequences to the functions' contracts.
pub mod Claimed
pub mod Witness
pub mod Bridge
