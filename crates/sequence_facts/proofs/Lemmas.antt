-- Lemmas of the claim.
pub mod Settings
pub mod Requests
pub mod Line
pub mod Readings
pub mod Unlock
