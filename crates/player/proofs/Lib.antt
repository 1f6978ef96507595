-- Lemmas for the play, and the proofs of specs/Theorems.
pub mod Advance
pub mod Turns
pub mod Sofar
pub mod PlaysAll
