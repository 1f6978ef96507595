-- Document 01, "The master's side": any bytes read as the V1 reply to a request, or the first refusal that applies.
use Rattle.std.specs.Prelude.{Bool, not, ◌||◌, List, [], ◌∷◌, ℕ, eqb, ltb, take, drop, Err, Ok, Result}
use Rattle.buffer.specs.First.{Row, ◌⇒◌, first}
use Rattle.buffer.specs.Byte.{at, within, same_text, numeral}
use Rattle.buffer.specs.Quoted.{bytes}
use Rattle.frames.specs.Frame.{is_letter, misshapen, wrong_sum, wrong_address, address_of, data_from}
use Rattle.error_texts.specs.Texts.{error_bytes}
use Rattle.error_texts.specs.declared.ErrorText.{ErrorText}
use Rattle.error_texts.specs.declared.ErrorText.TheVariants.{Logic, NoDef, Range, Error1}
use Rattle.settings.specs.Limits.{is_factor}
use Rattle.settings.specs.Units.{unit_named, unit_code}
use Rattle.settings.specs.declared.PressureUnit.{PressureUnit}
use Rattle.requests.specs.AskV1.{six_digits}
use Rattle.requests.specs.declared.RequestV1.{RequestV1}
use Rattle.requests.specs.declared.RequestV1.TheVariants.{Measure, ReadFactor, Unlock, SetFactor, ReadUnit, SetUnit}
use Rattle.request_texts.specs.RequestText.{letter_v1, data_v1}
use Rattle.replies_v1.specs.declared.ReplyV1.{ReplyV1}
use Rattle.replies_v1.specs.declared.ReplyV1.TheVariants.{Reads, UnderRange, OverRange, Factor, Unit, Done, Error}
use Rattle.refusals.specs.Number.{refusal_number}
use Rattle.refusals.specs.declared.Refusal.{Refusal}

-- ---- the data that answer a request

-- "four mantissa digits and exponent plus 20"
abbrev pub mantissa_in : List ℕ → ℕ
mantissa_in d = numeral (take 4 d)

abbrev pub exponent_in : List ℕ → ℕ
exponent_in d = numeral (drop 4 d)

-- "A reading's mantissa below 1000 is 10", "its exponent outside 11 to 30 is 11"
unfoldable pub pressure_v1 : List ℕ → Result ReplyV1 Refusal
pressure_v1 d =
    first
    (not (six_digits d) ⇒ Err Refusal.Syntax
    ∷ ltb (mantissa_in d) 1000 ⇒ Err Refusal.Syntax
    ∷ not (within 11 30 (exponent_in d)) ⇒ Err Refusal.Range
    ∷ [])
    (Ok (Reads (mantissa_in d) (exponent_in d)))

-- "`M` with `1`" is an error; "`000000` under, `999999` over"
unfoldable pub measure_v1 : List ℕ → Result ReplyV1 Refusal
measure_v1 d =
    first
    (same_text d (bytes "1") ⇒ Ok (Error Error1)
    ∷ same_text d (bytes "000000") ⇒ Ok UnderRange
    ∷ same_text d (bytes "999999") ⇒ Ok OverRange
    ∷ [])
    (pressure_v1 d)

-- "C1 in hundredths as six digits", "20 to 800"
unfoldable pub factor_v1 : List ℕ → Result ReplyV1 Refusal
factor_v1 d =
    first
    (not (six_digits d) ⇒ Err Refusal.Syntax
    ∷ not (is_factor (numeral d)) ⇒ Err Refusal.Range
    ∷ [])
    (Ok (Factor (numeral d)))

-- "000000 mbar, 000001 Torr, 000002 hPa, else RANGE"
unfoldable pub unit_at : ℕ → Result ReplyV1 Refusal
unit_at n = unit_named (λ (u : PressureUnit). Ok (Unit u)) (Err Refusal.Range) n

unfoldable pub unit_v1 : List ℕ → Result ReplyV1 Refusal
unit_v1 d = first (not (six_digits d) ⇒ Err Refusal.Syntax ∷ []) (unit_at (numeral d))

-- "A set reply not repeating the request is 10."
unfoldable pub echo_v1 : RequestV1 → List ℕ → Result ReplyV1 Refusal
echo_v1 r d = first (not (same_text d (data_v1 r)) ⇒ Err Refusal.Syntax ∷ []) (Ok Done)

unfoldable pub value_v1 : RequestV1 → List ℕ → Result ReplyV1 Refusal
value_v1 Measure d = measure_v1 d
value_v1 ReadFactor d = factor_v1 d
value_v1 ReadUnit d = unit_v1 d
value_v1 Unlock d = echo_v1 Unlock d
value_v1 (SetFactor n) d = echo_v1 (SetFactor n) d
value_v1 (SetUnit u) d = echo_v1 (SetUnit u) d

-- ---- any bytes

-- no V1 frame: byte 3 is no letter, as in a V2 frame, or the form is wrong
unfoldable pub not_v1 : List ℕ → Bool
not_v1 s = not (is_letter (at s 3)) || misshapen s

-- not from the address that the request was sent to
unfoldable pub other_address : ℕ → List ℕ → Bool
other_address address s = not (eqb (address_of s) address)

unfoldable pub other_letter : RequestV1 → List ℕ → Bool
other_letter r s = not (eqb (at s 3) (letter_v1 r))

-- an error text from byte `start` to before the checksum
unfoldable pub error_at : ℕ → ErrorText → List ℕ → Bool
error_at start e s = same_text (data_from start s) (error_bytes e)

-- "2 (V2 frames too), 3, 4, 5, 14 (another letter and not `NO_DEF`), 10, 11; `NO_DEF`, the letter with `_LOGIC` or `_RANGE` .. are errors
-- read." `NO_DEF` stands for letter and data, from byte 3 on; the other two for the data, from byte 4 on.
abbrev pub rows_v1 : ℕ → RequestV1 → List ℕ → List (Row (Result ReplyV1 Refusal))
rows_v1 address r s =
    not_v1 s ⇒ Err Refusal.Shape
    ∷ wrong_sum s ⇒ Err Refusal.Checksum
    ∷ wrong_address s ⇒ Err Refusal.Address
    ∷ other_address address s ⇒ Err Refusal.Other
    ∷ error_at 3 NoDef s ⇒ Ok (Error NoDef)
    ∷ other_letter r s ⇒ Err Refusal.Mismatch
    ∷ error_at 4 Logic s ⇒ Ok (Error Logic)
    ∷ error_at 4 Range s ⇒ Ok (Error Range)
    ∷ []

unfoldable pub read_v1 : ℕ → RequestV1 → List ℕ → Result ReplyV1 Refusal
read_v1 address r s = first (rows_v1 address r s) (value_v1 r (data_from 4 s))

-- document 01's number and values for each answer: a refusal's number; or 0, the kind (1 a reading, 2 under range, 3 over range, 4 a factor,
-- 5 a unit, 6 a done, 7 an error) and the values: mantissa and exponent plus 20, hundredths, V1's number of the unit, the error's text
unfoldable pub read_shown_v1 : Result ReplyV1 Refusal → List ℕ
read_shown_v1 (Err k) = refusal_number k ∷ []
read_shown_v1 (Ok (Reads mantissa exponent)) = 0 ∷ 1 ∷ mantissa ∷ exponent ∷ []
read_shown_v1 (Ok UnderRange) = 0 ∷ 2 ∷ []
read_shown_v1 (Ok OverRange) = 0 ∷ 3 ∷ []
read_shown_v1 (Ok (Factor n)) = 0 ∷ 4 ∷ n ∷ []
read_shown_v1 (Ok (Unit u)) = 0 ∷ 5 ∷ unit_code u ∷ []
read_shown_v1 (Ok Done) = 0 ∷ 6 ∷ []
read_shown_v1 (Ok (Error e)) = 0 ∷ 7 ∷ error_bytes e
