-- Document 01, "The master's side": the value taken out of a V2 reply. Theorems says what holds for every kind and every reply.
pub mod Kind
pub mod Taken
pub mod Theorems
