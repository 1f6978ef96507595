-- Document 01, "The master's side": the number of the V2 reader's answer to any bytes, "in the order 2 (V1 frames too), 3, 4, 5, 6, 14 ..,
-- 10, 11 (by table and bench limits)", then 12 for SM's list (document 02), and 0 for a reply that was read.
use Rattle.std.specs.Prelude.{Bool, true, false, cond, not, ◌&&◌, ◌||◌, List, [], ◌∷◌, ℕ, ◌-◌, eqb, ltb, length, Err, None, Ok, Option, Result, Some}
use Rattle.buffer.specs.First.{◌⇒◌, first}
use Rattle.buffer.specs.Byte.{at, is_digit, same_text}
use Rattle.buffer.specs.Quoted.{bytes}
use Rattle.frames.specs.Frame.{wrong_sum, wrong_address, wrong_length, head_v2, data_from}
use Rattle.decimal.specs.Form.{number_of, parsed_number}
use Rattle.decimal.specs.Number.{hundredths_of}
use Rattle.readings.specs.Bench.{takes, outside_degrees}
use Rattle.settings.specs.Limits.{ProfileLimits, bench_limits}
use Rattle.forms.specs.Judged.{verdict_of, verdict_number}
use Rattle.settings.specs.declared.Key.TheVariants.{SM}
use Rattle.requests.specs.Command.{command_text}
use Rattle.requests.specs.declared.Command.{Command}
use Rattle.requests.specs.declared.Command.TheVariants.{MV, T2, FN, FS, Of}
use Rattle.requests.specs.declared.RequestV2.{RequestV2}
use Rattle.requests.specs.declared.RequestV2.TheVariants as request
use Rattle.replies_v2_values.specs.declared.ReplyV2.{ReplyV2}
use Rattle.replies_v2.specs.ReplyV2.{not_v2, error_code, mismatched, read_shown_v2}
use Rattle.readings.specs.Reading.{under_text, over_text}
use Rattle.decimal.specs.declared.Number.{Number}
use Rattle.decimal.specs.declared.NumberError.{NumberError}
use Rattle.refusals.specs.declared.Refusal.{Refusal}

-- document 01's number for an answer, and whether a reply was read
unfoldable pub read_number : Result ReplyV2 Refusal → ℕ
read_number x = at (read_shown_v2 x) 0

unfoldable pub is_read : Result ReplyV2 Refusal → Bool
is_read (Ok x) = true
is_read (Err k) = false

-- ---- the data of a reply that does not refuse

-- `UR` and `OR`
unfoldable pub unmeasured : List ℕ → Bool
unmeasured d = same_text d under_text || same_text d over_text

abbrev pub one_digit : List ℕ → Bool
one_digit d = eqb (length d) 1 && is_digit (at d 0)

-- 10: the data are not of the command's form. A setting's are judged as those of a write
unfoldable pub bad_value : ProfileLimits → Command → List ℕ → Bool
bad_value limits MV d = not (unmeasured d) && eqb (parsed_number (number_of d)) 10
bad_value limits T2 d = eqb (parsed_number (number_of d)) 10
bad_value limits FN d = not (one_digit d)
bad_value limits FS d = not (one_digit d)
bad_value limits (Of key) d = eqb (verdict_number (verdict_of limits key d)) 10

-- 11: of the form, and outside. "0, 1, 2, 6 above zero"; "temperatures whole hundredths from -40.00 to 125.00"; FN `1`-`2`; FS `0`-`3`.
-- (ST's F and T in any order are read: this reader has 12 for SM's list only.)
unfoldable pub too_low : Result Number NumberError → Bool
too_low (Ok n) = not (takes 0 n)
too_low (Err NumberError.Syntax) = false
too_low (Err NumberError.Range) = true

unfoldable pub beyond : Bool → Option ℕ → Bool
beyond negative (Some h) = outside_degrees negative h
beyond negative None = true

unfoldable pub no_degrees : Result Number NumberError → Bool
no_degrees (Ok n) = beyond n.negative (hundredths_of n)
no_degrees (Err NumberError.Syntax) = false
no_degrees (Err NumberError.Range) = true

unfoldable pub outside : ProfileLimits → Command → List ℕ → Bool
outside limits MV d = not (unmeasured d) && too_low (number_of d)
outside limits T2 d = no_degrees (number_of d)
outside limits FN d = ltb bench_limits.filament_high (at d 0 - 48) || ltb (at d 0 - 48) bench_limits.filament_low
outside limits FS d = ltb bench_limits.status_high (at d 0 - 48)
outside limits (Of key) d = eqb (verdict_number (verdict_of limits key d)) 11

-- 12: "a repeat or a listed `0` is 12 LOGIC, after RANGE, at the writer and the V2 reply reader too"
unfoldable pub repeated : ProfileLimits → Command → List ℕ → Bool
repeated limits c d = same_text (command_text c) (bytes "SM") && eqb (verdict_number (verdict_of limits SM d)) 12

-- ---- any data; a is the access code

-- "one of the table's six error texts"
unfoldable pub error_text : List ℕ → Bool
error_text d =
    first
    (same_text d (bytes "LENGTH") ⇒ true
    ∷ same_text d (bytes "_LOGIC") ⇒ true
    ∷ same_text d (bytes "NO_DEF") ⇒ true
    ∷ same_text d (bytes "SYNTAX") ⇒ true
    ∷ same_text d (bytes "_RANGE") ⇒ true
    ∷ same_text d (bytes "ERROR1") ⇒ true
    ∷ [])
    false

-- "Write and default replies carry no data."
unfoldable pub bad_data : ProfileLimits → RequestV2 → List ℕ → Bool
bad_data limits (request.Read c) d = bad_value limits c d
bad_data limits (request.Restore c) d = not (eqb (length d) 0)
bad_data limits (request.Set x) d = not (eqb (length d) 0)

unfoldable pub outside_data : ProfileLimits → RequestV2 → List ℕ → Bool
outside_data limits (request.Read c) d = outside limits c d
outside_data limits (request.Restore c) d = false
outside_data limits (request.Set x) d = false

unfoldable pub repeated_data : ProfileLimits → RequestV2 → List ℕ → Bool
repeated_data limits (request.Read c) d = repeated limits c d
repeated_data limits (request.Restore c) d = false
repeated_data limits (request.Set x) d = false

-- the first that applies
abbrev pub number_rows : ProfileLimits → ℕ → RequestV2 → List ℕ → ℕ
number_rows limits address r s =
    let refuses = eqb (head_v2 s).access error_code in
    let d = data_from 8 s in
    first
    (not_v2 s ⇒ 2
    ∷ wrong_sum s ⇒ 3
    ∷ wrong_address s ⇒ 4
    ∷ not (eqb (head_v2 s).address address) ⇒ 5
    ∷ wrong_length s ⇒ 6
    ∷ mismatched r (head_v2 s) ⇒ 14
    ∷ cond refuses (not (error_text d)) (bad_data limits r d) ⇒ 10
    ∷ (not refuses && outside_data limits r d) ⇒ 11
    ∷ (not refuses && repeated_data limits r d) ⇒ 12
    ∷ [])
    0
