-- The texts that requests and replies carry: what holds of them, to lay beside document 01. Printed says what bytes they have, Theorems what holds.
pub mod Theorems
