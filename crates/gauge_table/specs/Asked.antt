-- What the bytes of a request ask, and the tests of the table's rows on them, for each protocol.
use Rattle.std.specs.Prelude.{Bool, true, false, cond, not, ◌&&◌, ◌||◌, List, [], ◌∷◌, ℕ, ◌-◌, leb, eqb, length, Err, None, Ok, Option, Result, Some}
use Rattle.buffer.specs.First.{◌⇒◌, first}
use Rattle.buffer.specs.Byte.{at, is_digit, numeral}
use Rattle.frames.specs.Frame.{is_letter, data_from, head_v2}
use Rattle.settings.specs.Limits.{ProfileLimits, is_factor}
use Rattle.readings.specs.Reading.{faulty_pressure}
use Rattle.forms.specs.Judged.{verdict_of, verdict_number}
use Rattle.requests.specs.Command.{write_code, is_access, lacks_access}
use Rattle.requests.specs.AskV2.{ask_v2}
use Rattle.requests.specs.AskV1.{six_digits, ask_v1}
use Rattle.requests.specs.declared.Command.TheVariants.{MV, T2, FN, FS, Of}
use Rattle.gauge_rules.specs.State.{State}
use Rattle.gauge_rules.specs.RulesV2.{changes_cathode, reads_faulty}
use Rattle.refusals.specs.declared.Refusal.{Refusal}
use Rattle.requests.specs.declared.Command.{Command}
use Rattle.requests.specs.declared.RequestV2.{RequestV2}
use Rattle.requests.specs.declared.RequestV1.{RequestV1}

-- "Byte 3 decides"
abbrev pub is_v1 : List ℕ → Bool
is_v1 s = is_letter (at s 3)

-- what a V2 and a V1 frame ask
abbrev pub asked_v2 : ProfileLimits → List ℕ → Result RequestV2 Refusal
asked_v2 limits s = ask_v2 limits (head_v2 s) (data_from 8 s)

abbrev pub asked_v1 : List ℕ → Result RequestV1 Refusal
asked_v1 s = ask_v1 (at s 3) (data_from 4 s)

-- ---- V2: a is the access code, n the command, d the data, limits those of the gauge's profile

-- 7 CODE: "V2: access not 0, 2 or 4"
abbrev pub wrong_code : ℕ → Bool
wrong_code a = not (is_access a)

-- 8 NO_DEF: "command unknown"
unfoldable pub unknown_command : Option Command → Bool
unknown_command (Some c) = false
unknown_command None = true

-- 9 ACCESS: "V2: command lacks this access"
unfoldable pub lacks : ℕ → Option Command → Bool
lacks a (Some c) = lacks_access a c
lacks a None = false

-- how the data of a write are judged
unfoldable pub data_number : ProfileLimits → Option Command → List ℕ → ℕ
data_number limits (Some MV) d = 0
data_number limits (Some T2) d = 0
data_number limits (Some FN) d = 0
data_number limits (Some FS) d = 0
data_number limits (Some (Of key)) d = verdict_number (verdict_of limits key d)
data_number limits None d = 0

-- 10 SYNTAX: "data not of the command's form; V2: data with a read or default, none with a write"
unfoldable pub bad_form_v2 : ProfileLimits → ℕ → Option Command → List ℕ → Bool
bad_form_v2 limits a n d = cond (eqb a write_code) (eqb (length d) 0 || eqb (data_number limits n d) 10) (not (eqb (length d) 0))

-- 11 RANGE: "form right, a number outside"
unfoldable pub outside_v2 : ProfileLimits → ℕ → Option Command → List ℕ → Bool
outside_v2 limits a n d = eqb a write_code && eqb (data_number limits n d) 11

-- 12 LOGIC in the data: "ST's F must lie strictly below T, else LOGIC."; in SM's list "a repeat or a listed `0` is 12 LOGIC"
unfoldable pub against_logic : ProfileLimits → ℕ → Option Command → List ℕ → Bool
against_logic limits a n d = eqb a write_code && eqb (data_number limits n d) 12

-- 12 LOGIC: "CC written or restored while CM is 1 is LOGIC."
unfoldable pub breaks_rule : State → Result RequestV2 Refusal → Bool
breaks_rule g (Ok r) = changes_cathode r && eqb g.settings.control 1
breaks_rule g (Err k) = false

-- 13 FAULT: "the sensor asked for is faulty"
unfoldable pub asks_faulty : State → Result RequestV2 Refusal → Bool
asks_faulty g (Ok r) = reads_faulty g.readings r
asks_faulty g (Err k) = false

-- ---- V1: l is the letter, d the data

-- 8 NO_DEF: the letters are `M`, `C`, `c`, `U` and `u`
unfoldable pub unknown_letter : ℕ → Bool
unknown_letter l = not (eqb l 77 || eqb l 67 || eqb l 99 || eqb l 85 || eqb l 117)

abbrev pub one_digit : List ℕ → Bool
one_digit d = eqb (length d) 1 && is_digit (at d 0)

-- 10 SYNTAX: `M` and `U` have no data, `C` one digit, `c` one digit or six, `u` six
unfoldable pub bad_form_v1 : ℕ → List ℕ → Bool
bad_form_v1 l d =
    first
    (eqb l 77 ⇒ not (eqb (length d) 0)
    ∷ eqb l 67 ⇒ not (one_digit d)
    ∷ eqb l 99 ⇒ not (six_digits d || one_digit d)
    ∷ eqb l 85 ⇒ not (eqb (length d) 0)
    ∷ [])
    (not (six_digits d))

-- 12 LOGIC, before 11: "`c` with six digits, if unlocked, writes 20 to 800; locked is LOGIC, checked before the number."
unfoldable pub locked_write : State → ℕ → List ℕ → Bool
locked_write g l d = (eqb l 99 && six_digits d) && not g.unlocked

-- 11 RANGE: `C` and `c` "with one digit: 1 only, else RANGE"; `c` "20 to 800"; `u` "else RANGE"
unfoldable pub outside_v1 : ℕ → List ℕ → Bool
outside_v1 l d =
    first
    (eqb l 67 ⇒ not (eqb (at d 0 - 48) 1)
    ∷ (eqb l 99 && six_digits d) ⇒ not (is_factor (numeral d))
    ∷ eqb l 99 ⇒ not (eqb (at d 0 - 48) 1)
    ∷ eqb l 117 ⇒ leb 3 (numeral d)
    ∷ [])
    false

-- 13 FAULT
unfoldable pub measures_faulty : State → ℕ → Bool
measures_faulty g l = eqb l 77 && faulty_pressure g.readings.p0
