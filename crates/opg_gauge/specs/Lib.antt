-- Document 01, "OPG frames": the gauge's state, its bench, and what any bytes ask of it.
pub mod State
pub mod Judged
pub mod Inner
