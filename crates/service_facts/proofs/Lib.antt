-- The proofs of specs/Theorems, and what they rest on.
pub mod Long
pub mod Cut
pub mod Delivered
pub mod Room
pub mod Called
