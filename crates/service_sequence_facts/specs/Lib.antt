-- A served stream of requests is a sequence of calls of the gauge (document 01, "What the promises have to say"). Calls says what one call of
-- `service::serve` is, Run what a stream in pieces is and what is claimed of it; Theorems says what holds.
pub mod Calls
pub mod Run
pub mod Theorems
