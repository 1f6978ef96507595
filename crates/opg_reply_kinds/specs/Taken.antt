-- Document 01: "A reply of another kind never yields a value": the number with which a value is taken out of a reply, on `expected_shown`.
use Rattle.std.specs.Prelude.{List, [], ◌∷◌, ℕ, ◌+◌}
use Rattle.buffer.specs.Byte.{at}
use Rattle.opg_replies.specs.declared.Reply.{Reply}
use Rattle.opg_replies.specs.declared.Reply.TheVariants.{Pressure, Unit, Done, Error}
use Rattle.opg_reply_kinds.specs.Kind.{expected, expected_shown}

-- the number with which a value of the kind k is taken out
abbrev pub taken_number : ℕ → Reply → ℕ
taken_number k r = at (expected_shown (expected k r)) 0

-- the two numbers, for a pressure and a unit
abbrev pub numbers_of : Reply → List ℕ
numbers_of r = taken_number 1 r ∷ taken_number 2 r ∷ []

-- and what they have to be
abbrev pub listed : Reply → List ℕ
listed (Pressure p) = 20 ∷ 26 ∷ []
listed (Unit u) = 26 ∷ 20 ∷ []
listed Done = 26 ∷ 26 ∷ []
listed (Error e) = (1000 + e) ∷ (1000 + e) ∷ []
