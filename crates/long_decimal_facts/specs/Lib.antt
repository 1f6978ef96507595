-- What is read of a decimal of document 01's form is its value.
pub mod Value
pub mod Theorems
