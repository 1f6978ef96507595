-- Calls written as bytes.
pub mod Number
pub mod Script
