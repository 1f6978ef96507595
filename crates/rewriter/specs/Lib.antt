-- Requests read and written again.
pub mod Again
