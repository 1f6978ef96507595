-- What follows from the definitions of the OPG. Accepted, Held and Examples say what the words of the statements mean.
pub mod Accepted
pub mod Held
pub mod Examples
pub mod Theorems
