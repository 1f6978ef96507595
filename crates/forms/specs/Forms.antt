-- The data of each setting: its form, else 10 SYNTAX; its numbers and sources, else 11 RANGE; F below T, and each source once, else 12 LOGIC.
use Rattle.std.specs.Prelude.{Bool, not, ◌&&◌, ◌||◌, List, [], ◌∷◌, ℕ, ◌+◌, ◌-◌, ltb, leb, eqb, length, take, drop, Err, None, Ok, Option, Result, Some}
use Rattle.buffer.specs.First.{◌⇒◌, first}
use Rattle.buffer.specs.Byte.{at, within, is_digit, every, same_text, until_of, numeral, leading, starts_with}
use Rattle.decimal.specs.Form.{number_of, refusal_of}
use Rattle.decimal.specs.Number.{below_of, hundredths_of}
use Rattle.sources.specs.Entries.{entries_number}
use Rattle.settings.specs.Limits.{ProfileLimits, standard, is_factor}
use Rattle.settings.specs.Sent.{unit_text}
use Rattle.settings.specs.declared.PressureUnit.TheVariants.{Mbar, Torr, HPa}
use Rattle.settings.specs.declared.Transition.TheVariants.{Direct, Between}
use Rattle.settings.specs.declared.Setting.{Setting}
use Rattle.settings.specs.declared.Setting.TheVariants.{Address, PressureIn, Factor, Switch, Stream}
use Rattle.forms.specs.declared.Ends.{Ends}
use Rattle.forms.specs.declared.Ends.TheVariants.{One, Two}
use Rattle.decimal.specs.declared.Number.{Number}
use Rattle.decimal.specs.declared.NumberError.{NumberError}
use Rattle.refusals.specs.Number.{refusal_number}
use Rattle.refusals.specs.declared.Refusal.{Refusal}

-- DA: "`001` to `016`"; "DA without three digits" is SYNTAX
unfoldable pub address_data : List ℕ → Result Setting Refusal
address_data s =
    first
    (not (eqb (length s) 3) ⇒ Err Refusal.Syntax
    ∷ not (every is_digit s) ⇒ Err Refusal.Syntax
    ∷ not (within standard.address_low standard.address_high (numeral s)) ⇒ Err Refusal.Range
    ∷ [])
    (Ok (Address (numeral s)))

-- DU: "`mbar`, `Torr`, `hPa`"; "Other texts for DU" are SYNTAX
unfoldable pub unit_data : List ℕ → Result Setting Refusal
unit_data s =
    first
    (same_text s (unit_text Mbar) ⇒ Ok (PressureIn Mbar)
    ∷ same_text s (unit_text Torr) ⇒ Ok (PressureIn Torr)
    ∷ same_text s (unit_text HPa) ⇒ Ok (PressureIn HPa)
    ∷ [])
    (Err Refusal.Syntax)

-- C1: "a number, whole hundredths, 0.20 to 8.00, else RANGE"
unfoldable pub factor_in : Option ℕ → Result Setting Refusal
factor_in (Some h) = first (not (is_factor h) ⇒ Err Refusal.Range ∷ []) (Ok (Factor h))
factor_in None = Err Refusal.Range

unfoldable pub factor_of : Result Number NumberError → Result Setting Refusal
factor_of (Err e) = Err (refusal_of e)
factor_of (Ok n) = first (n.negative ⇒ Err Refusal.Range ∷ []) (factor_in (hundredths_of n))

-- "One-digit settings: any other digit is RANGE, anything else SYNTAX": the largest digit is `most`
unfoldable pub digit_data : ℕ → List ℕ → Result ℕ Refusal
digit_data most s =
    first
    (not (eqb (length s) 1) ⇒ Err Refusal.Syntax
    ∷ not (is_digit (at s 0)) ⇒ Err Refusal.Syntax
    ∷ ltb most (at s 0 - 48) ⇒ Err Refusal.Range
    ∷ [])
    (Ok (at s 0 - 48))

-- CM, CC and FC
unfoldable pub digit_of : (ℕ → Setting) → Result ℕ Refusal → Result Setting Refusal
digit_of setting (Ok d) = Ok (setting d)
digit_of setting (Err k) = Err k

-- a number of ST: "each 1 to 20"; VSH's and VSM's "lies from 4E-4 to 1E-2 mbar (VSH) and from 4E-4 to 2E-3 mbar (VSM)"
unfoldable pub limited_of : ProfileLimits → Result Number NumberError → Result Number Refusal
limited_of limits (Err e) = Err (refusal_of e)
limited_of limits (Ok n) =
    first
    (below_of n limits.transition_low ⇒ Err Refusal.Range
    ∷ below_of limits.transition_high n ⇒ Err Refusal.Range
    ∷ [])
    (Ok n)

unfoldable pub direct_of : Result Number Refusal → Result Setting Refusal
direct_of (Ok n) = Ok (Switch (Direct n))
direct_of (Err k) = Err k

-- the one of two refusals with the lesser number
unfoldable pub earlier : Refusal → Refusal → Refusal
earlier j k = first (ltb (refusal_number j) (refusal_number k) ⇒ j ∷ []) k

-- SYNTAX of either number comes before RANGE of the other. "ST's F must lie strictly below T, else LOGIC."
unfoldable pub between_of : Result Number Refusal → Result Number Refusal → Result Setting Refusal
between_of (Ok low) (Ok high) = first (not (below_of low high) ⇒ Err Refusal.Logic ∷ []) (Ok (Switch (Between low high)))
between_of (Ok low) (Err k) = Err k
between_of (Err j) (Ok high) = Err j
between_of (Err j) (Err k) = Err (earlier j k)

-- ST: "`D` number, or `F` number `T` number", each judged by itself; VSH and VSM "accept only the `D` form"
unfoldable pub ends_of : ProfileLimits → List ℕ → Ends Refusal
ends_of limits s =
    let t = drop 1 s in
    let k = until_of 84 t in
    first
    (starts_with 68 s ⇒ One (limited_of limits (number_of t))
    ∷ not (starts_with 70 s && limits.between_form) ⇒ Ends.None
    ∷ leb (length t) k ⇒ Ends.None
    ∷ [])
    (Two (limited_of limits (number_of (take k t))) (limited_of limits (number_of (drop (k + 1) t))))

unfoldable pub transition_of : Ends Refusal → Result Setting Refusal
transition_of Ends.None = Err Refusal.Syntax
transition_of (One n) = direct_of n
transition_of (Two low high) = between_of low high

unfoldable pub transition_data : ProfileLimits → List ℕ → Result Setting Refusal
transition_data limits s = transition_of (ends_of limits s)

-- SM: "`0` off, or `4` and" a list of sources. "`0` with a list is SYNTAX"
unfoldable pub idle_list : List ℕ → Bool
idle_list s = starts_with 48 s && leb 2 (length s)

-- "other one-digit modes (list or none) are RANGE"
unfoldable pub known_mode : List ℕ → Bool
known_mode s = starts_with 48 s || starts_with 52 s

-- the mode stands before the entries, which are judged with n; "a repeat or a listed `0` is 12 LOGIC, after RANGE"
unfoldable pub stream_of : List ℕ → ℕ → Result Setting Refusal
stream_of s n =
    first
    (eqb (leading s) 0 ⇒ Err Refusal.Syntax
    ∷ eqb n 10 ⇒ Err Refusal.Syntax
    ∷ idle_list s ⇒ Err Refusal.Syntax
    ∷ not (known_mode s) ⇒ Err Refusal.Range
    ∷ eqb n 11 ⇒ Err Refusal.Range
    ∷ eqb n 12 ⇒ Err Refusal.Logic
    ∷ [])
    (Ok (Stream (starts_with 52 s)))

-- "an absent source stays 11 RANGE"
unfoldable pub stream_data : ProfileLimits → List ℕ → Result Setting Refusal
stream_data limits s = stream_of s (entries_number limits.source_codes (drop 1 s))
