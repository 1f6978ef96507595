-- The proofs of specs/Theorems, and what they rest on. Sendable has what is known of the replies as frames.
pub mod DecidedV2
pub mod DecidedV1
pub mod Numbers
pub mod Letters
pub mod Sendable
pub mod Open
