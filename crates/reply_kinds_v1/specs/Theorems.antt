-- What is proved here besides the contracts, each statement as a type; proofs/ has the proofs.
use Rattle.std.specs.Prelude.{◌≡◌, ℕ, eqb, Ok}
use Rattle.replies_v1.specs.declared.ReplyV1.{ReplyV1}
use Rattle.replies_v1.specs.ReplyV1.{read_shown_v1}
use Rattle.reply_kinds_v1.specs.Kind.{kind_of, expected}
use Rattle.reply_kinds_v1.specs.Taken.{taken_number, numbers_of, listed}

-- "A reply of another kind never yields a value.": a value is taken out exactly of a reply of the expected kind
abbrev pub TakenExactly : Type 0
TakenExactly = (k : ℕ) (r : ReplyV1) → eqb (taken_number k r) 0 ≡ eqb (kind_of r) k

-- and it is the reply's own
abbrev pub TakenValue : Type 0
TakenValue = (k : ℕ) (r : ReplyV1) → kind_of r ≡ k → read_shown_v1 (expected k r) ≡ read_shown_v1 (Ok r)

-- for each reply and each kind, "refusal 14, 10 or 11" is as listed
abbrev pub AsListed : Type 0
AsListed = (r : ReplyV1) → numbers_of r ≡ listed r
