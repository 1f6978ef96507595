-- Document 01, "The master's side": the value taken out of a reply of an OPG.
pub mod Kind
pub mod Taken
pub mod Theorems
