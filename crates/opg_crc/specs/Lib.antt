-- Document 01, "OPG frames": the CRC. Theorems has the value published with it.
pub mod Crc
pub mod Theorems
pub mod Inner
