-- What the theorems rest on.
pub mod Frames
pub mod Values
pub mod Alike
