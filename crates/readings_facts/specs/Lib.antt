-- Document 01, "Settings and readings, V2" and V1's `M`: what holds of the readings and the bench, to lay beside the paper. Sound says which readings
-- the bench can set, Handed what a bench setting hands over, HalfUp how `M` rounds, Examples has worked cases, Theorems says what holds.
pub mod Sound
pub mod Handed
pub mod HalfUp
pub mod Examples
pub mod Theorems
