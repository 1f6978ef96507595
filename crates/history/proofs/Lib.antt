-- A lemma that the proofs on sequences of calls share.
pub mod Latest
