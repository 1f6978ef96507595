-- What the theorems rest on.
pub mod Digits
pub mod Powers
pub mod Reader
pub mod Rows
pub mod Texts
