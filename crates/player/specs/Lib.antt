-- What playing a script promises, and that every sequence of calls has a script.
pub mod Played
pub mod Inner
pub mod Encoded
pub mod Theorems
