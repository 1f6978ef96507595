-- Document 01: "A reply of another kind never yields a value": the number with which a value is taken out, and the list of them, on `read_shown_v1`.
use Rattle.std.specs.Prelude.{List, [], ◌∷◌, ℕ}
use Rattle.buffer.specs.Byte.{at}
use Rattle.replies_v1.specs.declared.ReplyV1.{ReplyV1}
use Rattle.replies_v1.specs.declared.ReplyV1.TheVariants.{Reads, UnderRange, OverRange, Factor, Unit, Done, Error}
use Rattle.replies_v1.specs.ReplyV1.{read_shown_v1}
use Rattle.reply_kinds_v1.specs.Kind.{expected}

-- the number with which a value is taken out
abbrev pub taken_number : ℕ → ReplyV1 → ℕ
taken_number k r = at (read_shown_v1 (expected k r)) 0

-- the three numbers, for a reading, a factor and a unit
abbrev pub numbers_of : ReplyV1 → List ℕ
numbers_of r = taken_number 1 r ∷ taken_number 4 r ∷ taken_number 5 r ∷ []

-- "refusal 14, 10 or 11", beside each reply
abbrev pub listed : ReplyV1 → List ℕ
listed (Reads mantissa exponent) = 0 ∷ 14 ∷ 14 ∷ []
listed UnderRange = 11 ∷ 14 ∷ 14 ∷ []
listed OverRange = 11 ∷ 14 ∷ 14 ∷ []
listed (Factor n) = 14 ∷ 0 ∷ 14 ∷ []
listed (Unit u) = 14 ∷ 14 ∷ 0 ∷ []
listed Done = 14 ∷ 14 ∷ 14 ∷ []
listed (Error e) = 10 ∷ 10 ∷ 10 ∷ []
