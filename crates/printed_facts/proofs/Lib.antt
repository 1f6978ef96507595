-- The proofs of specs/Theorems, and what they rest on.
pub mod Printed
pub mod Fits
pub mod Sendable
