-- Document 01: "A reply of another kind never yields a value": the number with which a value is taken out, and the list of them, on `read_shown_v2`.
use Rattle.std.specs.Prelude.{List, [], ◌∷◌, ℕ}
use Rattle.buffer.specs.Byte.{at}
use Rattle.replies_v2_values.specs.declared.ReplyV2.{ReplyV2}
use Rattle.replies_v2_values.specs.declared.ReplyV2.TheVariants.{Measured, UnderRange, OverRange, Degrees, FilamentNumber, StatusNumber, Holds, Done, Error}
use Rattle.replies_v2.specs.ReplyV2.{read_shown_v2}
use Rattle.reply_kinds_v2.specs.Kind.{expected}

-- the number with which a value is taken out
abbrev pub taken_number : ℕ → ReplyV2 → ℕ
taken_number k r = at (read_shown_v2 (expected k r)) 0

-- the five numbers, for MV, T2, FN, FS and a setting
abbrev pub numbers_of : ReplyV2 → List ℕ
numbers_of r = taken_number 1 r ∷ taken_number 4 r ∷ taken_number 5 r ∷ taken_number 6 r ∷ taken_number 7 r ∷ []

-- "refusal 14, 10 or 11", beside each reply
abbrev pub listed : ReplyV2 → List ℕ
listed (Measured n) = 0 ∷ 14 ∷ 14 ∷ 14 ∷ 14 ∷ []
listed UnderRange = 11 ∷ 14 ∷ 14 ∷ 14 ∷ 14 ∷ []
listed OverRange = 11 ∷ 14 ∷ 14 ∷ 14 ∷ 14 ∷ []
listed (Degrees negative h) = 14 ∷ 0 ∷ 14 ∷ 14 ∷ 14 ∷ []
listed (FilamentNumber d) = 14 ∷ 14 ∷ 0 ∷ 14 ∷ 14 ∷ []
listed (StatusNumber d) = 14 ∷ 14 ∷ 14 ∷ 0 ∷ 14 ∷ []
listed (Holds x) = 14 ∷ 14 ∷ 14 ∷ 14 ∷ 0 ∷ []
listed Done = 14 ∷ 14 ∷ 14 ∷ 14 ∷ 14 ∷ []
listed (Error e) = 10 ∷ 10 ∷ 10 ∷ 10 ∷ 10 ∷ []
