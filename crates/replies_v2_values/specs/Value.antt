-- The data of a reply to a read: its value by the column "Data", 10 SYNTAX where they are not of the command's form, 11 RANGE where a number
-- lies outside the limits of the table or the bench or a source is unknown, 12 LOGIC for a repeat or a listed `0` in SM's list.
use Rattle.std.specs.Prelude.{Bool, not, List, [], ◌∷◌, ℕ, ltb, Err, None, Ok, Option, Result, Some}
use Rattle.buffer.specs.First.{◌⇒◌, first}
use Rattle.buffer.specs.Byte.{same_text}
use Rattle.decimal.specs.Form.{number_of, refusal_of}
use Rattle.decimal.specs.Number.{hundredths_of}
use Rattle.sources.specs.Beside.{Beside}
use Rattle.sources.specs.declared.WithSources.{WithSources}
use Rattle.settings.specs.declared.Key.{Key}
use Rattle.settings.specs.declared.Key.TheVariants.{DA, DU, C1, CM, CC, FC, ST, SM}
use Rattle.settings.specs.declared.Setting.{Setting}
use Rattle.settings.specs.declared.Setting.TheVariants.{Switch}
use Rattle.settings.specs.declared.Transition.TheVariants.{Between}
use Rattle.settings.specs.Limits.{ProfileLimits, bench_limits}
use Rattle.readings.specs.Reading.{under_text, over_text}
use Rattle.readings.specs.Bench.{takes, outside_degrees}
use Rattle.forms.specs.Forms.{digit_data, direct_of, earlier, ends_of}
use Rattle.forms.specs.Judged.{verdict_of, list_in}
use Rattle.forms.specs.declared.Ends.{Ends}
use Rattle.requests.specs.declared.Command.{Command}
use Rattle.requests.specs.declared.Command.TheVariants.{MV, T2, FN, FS, Of}
use Rattle.replies_v2_values.specs.declared.ReplyV2.{ReplyV2}
use Rattle.replies_v2_values.specs.declared.ReplyV2.TheVariants.{Measured, UnderRange, OverRange, Degrees, FilamentNumber, StatusNumber, Holds}
use Rattle.decimal.specs.declared.Number.{Number}
use Rattle.decimal.specs.declared.NumberError.{NumberError}
use Rattle.refusals.specs.declared.Refusal.{Refusal}

-- MV: "reading of source 0", which the bench sets "above zero", else 11
unfoldable pub measured_reply : Result Number NumberError → Result ReplyV2 Refusal
measured_reply (Err e) = Err (refusal_of e)
measured_reply (Ok n) = first (not (takes 0 n) ⇒ Err Refusal.Range ∷ []) (Ok (Measured n))

-- "or `UR`, `OR`"
unfoldable pub pressure_reply : List ℕ → Result ReplyV2 Refusal
pressure_reply s =
    first
    (same_text s under_text ⇒ Ok UnderRange
    ∷ same_text s over_text ⇒ Ok OverRange
    ∷ [])
    (measured_reply (number_of s))

-- T2: "temperatures whole hundredths from -40.00 to 125.00", else 11
unfoldable pub degrees_reply : Bool → Option ℕ → Result ReplyV2 Refusal
degrees_reply negative (Some h) = first (outside_degrees negative h ⇒ Err Refusal.Range ∷ []) (Ok (Degrees negative h))
degrees_reply negative None = Err Refusal.Range

unfoldable pub temperature_reply : Result Number NumberError → Result ReplyV2 Refusal
temperature_reply (Err e) = Err (refusal_of e)
temperature_reply (Ok n) = degrees_reply n.negative (hundredths_of n)

-- FN: "`1`-`2`"
unfoldable pub filament_reply : Result ℕ Refusal → Result ReplyV2 Refusal
filament_reply (Ok d) = first (ltb d bench_limits.filament_low ⇒ Err Refusal.Range ∷ []) (Ok (FilamentNumber d))
filament_reply (Err k) = Err k

-- FS: "`0`-`3`"
unfoldable pub status_reply : Result ℕ Refusal → Result ReplyV2 Refusal
status_reply (Ok d) = Ok (StatusNumber d)
status_reply (Err k) = Err k

-- a setting: the value that a write with these data would set
unfoldable pub held_reply : Result Setting Refusal → Result ReplyV2 Refusal
held_reply (Ok x) = Ok (Holds x)
held_reply (Err k) = Err k

-- ST: the profile's numbers, in any order: this reader has 12 for lists only. SYNTAX of either number comes before RANGE of the other
unfoldable pub both_ends : Result Number Refusal → Result Number Refusal → Result ReplyV2 Refusal
both_ends (Ok low) (Ok high) = Ok (Holds (Switch (Between low high)))
both_ends (Ok low) (Err k) = Err k
both_ends (Err j) (Ok high) = Err j
both_ends (Err j) (Err k) = Err (earlier j k)

-- "`D` number, or `F` number `T` number"
unfoldable pub transition_reply : Ends Refusal → Result ReplyV2 Refusal
transition_reply Ends.None = Err Refusal.Syntax
transition_reply (Ends.One n) = held_reply (direct_of n)
transition_reply (Ends.Two low high) = both_ends low high

unfoldable pub setting_reply : ProfileLimits → Key → List ℕ → Result ReplyV2 Refusal
setting_reply limits DA s = held_reply (verdict_of limits DA s)
setting_reply limits DU s = held_reply (verdict_of limits DU s)
setting_reply limits C1 s = held_reply (verdict_of limits C1 s)
setting_reply limits CM s = held_reply (verdict_of limits CM s)
setting_reply limits CC s = held_reply (verdict_of limits CC s)
setting_reply limits FC s = held_reply (verdict_of limits FC s)
setting_reply limits ST s = transition_reply (ends_of limits s)
setting_reply limits SM s = held_reply (verdict_of limits SM s)

-- the column "Data", a line for each command
unfoldable pub value_reply : ProfileLimits → Command → List ℕ → Result ReplyV2 Refusal
value_reply limits MV s = pressure_reply s
value_reply limits T2 s = temperature_reply (number_of s)
value_reply limits FN s = filament_reply (digit_data bench_limits.filament_high s)
value_reply limits FS s = status_reply (digit_data bench_limits.status_high s)
value_reply limits (Of key) s = setting_reply limits key s

-- the sources that an accepted read of SM lists; none otherwise
unfoldable pub value_list : ProfileLimits → Command → List ℕ → List ℕ
value_list limits MV s = []
value_list limits T2 s = []
value_list limits FN s = []
value_list limits FS s = []
value_list limits (Of key) s = list_in limits key s

-- the value, and beside it the sources of a read of SM
abbrev pub Values : ProfileLimits → Command → List ℕ → WithSources (Result ReplyV2 Refusal) → Type 0
Values limits c s r = Beside (value_reply limits c s) (value_list limits c s) r
