-- What the theorems rest on.
pub mod Good
pub mod Handed
pub mod Others
