-- The text gauge's state, how typed V2 requests are decided and entered, and the bench of a profile. Theorems has FN written out.
pub mod State
pub mod RulesV2
pub mod BenchIn
pub mod Theorems
