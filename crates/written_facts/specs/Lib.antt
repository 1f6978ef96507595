-- Document 01, "The master's side": typed requests that are written and read again. Same and Again say what the same request is,
-- Examples has worked cases, Theorems says what holds.
pub mod Same
pub mod Again
pub mod Examples
pub mod Theorems
