-- Document 01, "Settings and readings, V2": the readings and FS, the bench, and V1's measurement. Place and There say which source is meant, Theorems
-- says how each reading starts, that a bench setting is for the source that it names, and that the line shows each source's own reading.
pub mod Reading
pub mod Measure
pub mod Bench
pub mod Place
pub mod There
pub mod Theorems
