-- Document 01, "Decimal numbers".
pub mod Exact
pub mod Form
pub mod Number
pub mod Digits
pub mod Inner
