-- Any sequence of calls of the OPG (document 01, "What the promises have to say").
pub mod Model
pub mod Sequence
pub mod Witness
pub mod Theorems
