-- What is proved here, each statement as a type; proofs/ has the proofs.
use Rattle.std.specs.Prelude.{◌≡◌, ℕ, eqb, Ok}
use Rattle.opg_replies.specs.Reply.{read_shown}
use Rattle.opg_replies.specs.declared.Reply.{Reply}
use Rattle.opg_reply_kinds.specs.Kind.{kind_of, expected, expected_shown}
use Rattle.opg_reply_kinds.specs.Taken.{taken_number, numbers_of, listed}

-- "A reply of another kind never yields a value.": one is taken out exactly of a reply of the expected kind
abbrev pub TakenExactly : Type 0
TakenExactly = (k : ℕ) (r : Reply) → eqb (taken_number k r) 20 ≡ eqb (kind_of r) k

-- and it is the reply's own
abbrev pub TakenValue : Type 0
TakenValue = (k : ℕ) (r : Reply) → kind_of r ≡ k → expected_shown (expected k r) ≡ read_shown (Ok r)

-- the numbers for a pressure and a unit, case by case
abbrev pub AsListed : Type 0
AsListed = (r : Reply) → numbers_of r ≡ listed r
