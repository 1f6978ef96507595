-- What the bytes of an accepted request write or restore, from the bytes alone: the access code, the command's two characters or V1's letter, and
-- what the data spell. No reader of requests or of a setting's data is used here.
use Rattle.std.specs.Prelude.{Bool, true, false, cond, ◌&&◌, List, [], ◌∷◌, ℕ, ◌+◌, ◌-◌, ◌/◌, ◌^◌, eqb, length, take, drop, Err, Ok, Result}
use Rattle.std.proofs.Math.Option.{Option, none, some}
use Rattle.buffer.specs.First.{◌⇒◌, first, pick}
use Rattle.buffer.specs.Byte.{at, same_text, until_of, numeral}
use Rattle.buffer.specs.Quoted.{bytes}
use Rattle.frames.specs.Frame.{data_from}
use Rattle.decimal.specs.Exact.{units, zero_number}
use Rattle.decimal.specs.Form.{number_of}
use Rattle.decimal.specs.declared.Number.{Number}
use Rattle.settings.specs.Limits.{ProfileLimits}
use Rattle.settings.specs.Settings.{Held, factory}
use Rattle.settings.specs.declared.PressureUnit.TheVariants.{Mbar, Torr, HPa}
use Rattle.settings.specs.declared.Transition.TheVariants.{Direct, Between}
use Rattle.settings.specs.declared.Key.{Key}
use Rattle.settings.specs.declared.Key.TheVariants.{DA, DU, C1, CM, CC, FC, ST, SM}
use Rattle.settings.specs.declared.Setting.{Setting}
use Rattle.settings.specs.declared.Setting.TheVariants.{Address, PressureIn, Factor, Control, Cathode, Filament, Switch, Stream}
use Rattle.decimal.specs.declared.NumberError.{NumberError}

-- what a setting holds: its value, and SM's list beside it
abbrev pub Value : Type 0
Value = Setting × List ℕ

unfoldable pub holding : Key → Held → Value
holding DA h = (Address h.address, [])
holding DU h = (PressureIn h.unit, [])
holding C1 h = (Factor h.factor, [])
holding CM h = (Control h.control, [])
holding CC h = (Cathode h.cathode, [])
holding FC h = (Filament h.filament, [])
holding ST h = (Switch h.transition, [])
holding SM h = (Stream h.streaming, h.list)

-- the value, with no list beside it
abbrev pub plain : Setting → Option Value
plain x = some (x, [])

-- ---- V2: the data d of an accepted write

-- the number that a text is; zero where it is none
unfoldable pub number_in : Result Number NumberError → Number
number_in (Ok n) = n
number_in (Err e) = zero_number

-- DU: "`mbar`, `Torr`, `hPa`"
unfoldable pub unit_named : List ℕ → Option Value
unit_named d =
    first
    (same_text d (bytes "mbar") ⇒ plain (PressureIn Mbar)
    ∷ same_text d (bytes "Torr") ⇒ plain (PressureIn Torr)
    ∷ same_text d (bytes "hPa") ⇒ plain (PressureIn HPa)
    ∷ [])
    none

-- ST: "`D` number, or `F` number `T` number"
unfoldable pub transition_in : List ℕ → Option Value
transition_in d =
    let t = drop 1 d in
    let k = until_of 84 t in
    first
    (eqb (at d 0) 68 ⇒ plain (Switch (Direct (number_in (number_of t))))
    ∷ eqb (at d 0) 70 ⇒ plain (Switch (Between (number_in (number_of (take k t))) (number_in (number_of (drop (k + 1) t)))))
    ∷ [])
    none

-- the source at the front of a text, by its code: `T2` is 8, `T6` is 9, a digit is itself
unfoldable pub source_at : List ℕ → ℕ
source_at s = first ((eqb (at s 0) 84 && eqb (at s 1) 50) ⇒ 8 ∷ (eqb (at s 0) 84 && eqb (at s 1) 54) ⇒ 9 ∷ []) (at s 0 - 48)

-- "each entry is `D` and a source": the source after each `D`, in order
unfoldable pub entries : List ℕ → List ℕ
entries [] = []
entries (x ∷ s) = cond (eqb x 68) (source_at s ∷ entries s) (entries s)

-- SM: "`0` off, or `4` and" a list of sources
unfoldable pub stream_in : List ℕ → Option Value
stream_in d = first (eqb (at d 0) 48 ⇒ some (Stream false, []) ∷ eqb (at d 0) 52 ⇒ some (Stream true, entries d) ∷ []) none

-- the column "Data": DA's digits spell the address; a number's units are 10^-14, so that a hundredth has 10^12; a digit is its character less 48
unfoldable pub written_v2 : Key → List ℕ → Option Value
written_v2 DA d = plain (Address (numeral d))
written_v2 DU d = unit_named d
written_v2 C1 d = plain (Factor (units (number_in (number_of d)) / 10 ^ 12))
written_v2 CM d = plain (Control (at d 0 - 48))
written_v2 CC d = plain (Cathode (at d 0 - 48))
written_v2 FC d = plain (Filament (at d 0 - 48))
written_v2 ST d = transition_in d
written_v2 SM d = stream_in d

-- ---- V1: the letter and the data of an accepted request

-- "000000 mbar, 000001 Torr, 000002 hPa"
unfoldable pub unit_numbered : ℕ → Option Value
unit_numbered n = first (eqb n 0 ⇒ plain (PressureIn Mbar) ∷ eqb n 1 ⇒ plain (PressureIn Torr) ∷ eqb n 2 ⇒ plain (PressureIn HPa) ∷ []) none

-- "`c` with six digits .. writes" the factor in hundredths; "`u` with six digits writes" the unit
unfoldable pub written_v1 : Key → ℕ → List ℕ → Option Value
written_v1 DA letter d = none
written_v1 DU letter d = pick (eqb letter 117) (unit_numbered (numeral d)) none
written_v1 C1 letter d = pick (eqb letter 99 && eqb (length d) 6) (plain (Factor (numeral d))) none
written_v1 CM letter d = none
written_v1 CC letter d = none
written_v1 FC letter d = none
written_v1 ST letter d = none
written_v1 SM letter d = none

-- ---- any request

-- the column "CMD"
unfoldable pub name_of : Key → List ℕ
name_of DA = bytes "DA"
name_of DU = bytes "DU"
name_of C1 = bytes "C1"
name_of CM = bytes "CM"
name_of CC = bytes "CC"
name_of FC = bytes "FC"
name_of ST = bytes "ST"
name_of SM = bytes "SM"

-- byte 3 is this access code, and bytes 4 and 5 are the setting's command
unfoldable pub asks_for : ℕ → Key → List ℕ → Bool
asks_for access key s = eqb (at s 3) access && same_text (at s 4 ∷ at s 5 ∷ []) (name_of key)

-- what the bytes of an accepted request write to a setting: access `2` writes what the data say, `4` restores the profile's factory value
unfoldable pub writes : ProfileLimits → Key → List ℕ → Option Value
writes limits key s =
    first
    (asks_for 50 key s ⇒ written_v2 key (data_from 8 s)
    ∷ asks_for 52 key s ⇒ some (holding key (factory limits))
    ∷ [])
    (written_v1 key (at s 3) (data_from 4 s))
