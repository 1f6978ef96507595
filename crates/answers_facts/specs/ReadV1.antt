-- Document 01, "The master's side": the number of the V1 reader's answer to any bytes, "2 (V2 frames too), 3, 4, 5, 14 (another letter and not
-- `NO_DEF`), 10, 11", and 0 for a reply that was read.
use Rattle.std.specs.Prelude.{Bool, true, false, not, ◌&&◌, ◌||◌, List, [], ◌∷◌, ℕ, ltb, leb, Err, Ok, Result}
use Rattle.buffer.specs.First.{◌⇒◌, first}
use Rattle.buffer.specs.Byte.{at, within, same_text, numeral}
use Rattle.buffer.specs.Quoted.{bytes}
use Rattle.frames.specs.Frame.{wrong_sum, wrong_address, data_from}
use Rattle.error_texts.specs.declared.ErrorText.TheVariants.{Logic, NoDef, Range}
use Rattle.settings.specs.Limits.{is_factor}
use Rattle.requests.specs.AskV1.{six_digits}
use Rattle.requests.specs.declared.RequestV1.{RequestV1}
use Rattle.requests.specs.declared.RequestV1.TheVariants.{Measure, ReadFactor, Unlock, SetFactor, ReadUnit, SetUnit}
use Rattle.request_texts.specs.RequestText.{data_v1}
use Rattle.replies_v1.specs.declared.ReplyV1.{ReplyV1}
use Rattle.replies_v1.specs.ReplyV1.{mantissa_in, exponent_in, not_v1, other_address, other_letter, error_at, read_shown_v1}
use Rattle.refusals.specs.declared.Refusal.{Refusal}

-- document 01's number for an answer, and whether a reply was read
unfoldable pub read_number : Result ReplyV1 Refusal → ℕ
read_number x = at (read_shown_v1 x) 0

unfoldable pub is_read : Result ReplyV1 Refusal → Bool
is_read (Ok x) = true
is_read (Err k) = false

-- what `M` may send besides a number: the error `1`, `000000` and `999999`
unfoldable pub special : List ℕ → Bool
special d = same_text d (bytes "1") || same_text d (bytes "000000") || same_text d (bytes "999999")

-- 10: not six digits, "a reading's mantissa below 1000", "a set reply not repeating the request"
unfoldable pub bad_data : RequestV1 → List ℕ → Bool
bad_data Measure d = not (special d) && (not (six_digits d) || ltb (mantissa_in d) 1000)
bad_data ReadFactor d = not (six_digits d)
bad_data ReadUnit d = not (six_digits d)
bad_data Unlock d = not (same_text d (data_v1 Unlock))
bad_data (SetFactor n) d = not (same_text d (data_v1 (SetFactor n)))
bad_data (SetUnit u) d = not (same_text d (data_v1 (SetUnit u)))

-- 11: "its exponent outside 11 to 30"; the table's limits of a factor and a unit
unfoldable pub outside : RequestV1 → List ℕ → Bool
outside Measure d = not (special d) && not (within 11 30 (exponent_in d))
outside ReadFactor d = not (is_factor (numeral d))
outside ReadUnit d = leb 3 (numeral d)
outside Unlock d = false
outside (SetFactor n) d = false
outside (SetUnit u) d = false

-- the first that applies
abbrev pub number_rows : ℕ → RequestV1 → List ℕ → ℕ
number_rows address r s =
    first
    (not_v1 s ⇒ 2
    ∷ wrong_sum s ⇒ 3
    ∷ wrong_address s ⇒ 4
    ∷ other_address address s ⇒ 5
    ∷ error_at 3 NoDef s ⇒ 0
    ∷ other_letter r s ⇒ 14
    ∷ error_at 4 Logic s ⇒ 0
    ∷ error_at 4 Range s ⇒ 0
    ∷ bad_data r (data_from 4 s) ⇒ 10
    ∷ outside r (data_from 4 s) ⇒ 11
    ∷ [])
    0
