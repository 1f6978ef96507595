-- What the theorems rest on.
pub mod Formed
pub mod Good
pub mod Lacks
pub mod Lists
pub mod Numbers
pub mod Texts
