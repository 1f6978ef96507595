-- Document 01, "The master's side": the values of typed requests, judged "by the rules above": 9, 10, 11 or 12.
use Rattle.std.specs.Prelude.{Bool, not, ◌&&◌, List, [], ◌∷◌, ℕ, ltb, leb, eqb, length, Err, Ok, Result, Some}
use Rattle.buffer.specs.First.{◌⇒◌, first, pick}
use Rattle.buffer.specs.Byte.{within, every}
use Rattle.decimal.specs.Exact.{normal_of}
use Rattle.decimal.specs.declared.Number.{Number}
use Rattle.decimal.specs.declared.Exact.{Exact}
use Rattle.sources.specs.Source.{among, stand_once, list_of}
use Rattle.sources.specs.declared.Sources.{Sources}
use Rattle.settings.specs.Limits.{ProfileLimits, standard, is_factor}
use Rattle.settings.specs.declared.Transition.{Transition}
use Rattle.settings.specs.declared.Transition.TheVariants.{Direct, Between}
use Rattle.settings.specs.declared.Setting.{Setting}
use Rattle.settings.specs.declared.Setting.TheVariants.{Address, PressureIn, Factor, Control, Cathode, Filament, Switch, Stream}
use Rattle.forms.specs.Forms.{factor_in, limited_of, transition_of}
use Rattle.forms.specs.declared.Ends.{Ends}
use Rattle.forms.specs.declared.Ends.TheVariants.{None, One, Two}
use Rattle.requests.specs.Command.{restore_code, lacks_access}
use Rattle.requests.specs.AskV2.{set_of}
use Rattle.requests.specs.declared.RequestV2.{RequestV2}
use Rattle.requests.specs.declared.RequestV2.TheVariants.{Read, Restore, Set}
use Rattle.requests.specs.declared.RequestV1.{RequestV1}
use Rattle.requests.specs.declared.RequestV1.TheVariants.{Measure, ReadFactor, Unlock, SetFactor, ReadUnit, SetUnit}
use Rattle.refusals.specs.declared.Refusal.{Refusal}

-- a number's value: mantissa * 10 ^ place / 10 ^ 14
abbrev pub exactly : Number → Exact
exactly n = record { negative = n.negative; digits = n.mantissa; up = n.place; down = 14 }

-- a number of ST; "a number needing over six digits is 10"
unfoldable pub limited_number : ProfileLimits → Number → Result Number Refusal
limited_number limits n = limited_of limits (normal_of (exactly n))

-- VSH and VSM "accept only the `D` form of ST": the other one is none of theirs
unfoldable pub ends_in : ProfileLimits → Transition → Ends Refusal
ends_in limits (Direct n) = One (limited_number limits n)
ends_in limits (Between low high) = pick limits.between_form (Two (limited_number limits low) (limited_number limits high)) None

-- "One-digit settings: any other digit is RANGE, anything else SYNTAX"
unfoldable pub typed_digit : ℕ → ℕ → Result ℕ Refusal
typed_digit most d = first (leb 10 d ⇒ Err Refusal.Syntax ∷ ltb most d ⇒ Err Refusal.Range ∷ []) (Ok d)

-- the setting x, whose digit is judged
unfoldable pub judged_digit : Setting → Result ℕ Refusal → Result Setting Refusal
judged_digit x (Ok d) = Ok x
judged_digit x (Err k) = Err k

-- DA; the type holds three digits at most
unfoldable pub typed_address : ℕ → Result Setting Refusal
typed_address a = first (not (within standard.address_low standard.address_high a) ⇒ Err Refusal.Range ∷ []) (Ok (Address a))

-- SM: "`0` with a list is SYNTAX"; a source that is not among the profile's is RANGE; "a repeat or a listed `0` is 12 LOGIC, after RANGE, at the
-- writer .. too"
unfoldable pub typed_stream : ProfileLimits → Bool → List ℕ → Result Setting Refusal
typed_stream limits on list =
    first
    ((not on && not (eqb (length list) 0)) ⇒ Err Refusal.Syntax
    ∷ not (every (among limits.source_codes) list) ⇒ Err Refusal.Range
    ∷ not (stand_once list) ⇒ Err Refusal.Logic
    ∷ [])
    (Ok (Stream on))

-- a typed write: the setting with its numbers canonical, or the first refusal that applies. The list counts for SM only
unfoldable pub typed_verdict : ProfileLimits → Setting → Sources → Result Setting Refusal
typed_verdict limits (Address a) q = typed_address a
typed_verdict limits (PressureIn u) q = Ok (PressureIn u)
typed_verdict limits (Factor h) q = factor_in (Some h)
typed_verdict limits (Control d) q = judged_digit (Control d) (typed_digit standard.control_high d)
typed_verdict limits (Cathode d) q = judged_digit (Cathode d) (typed_digit standard.cathode_high d)
typed_verdict limits (Filament d) q = judged_digit (Filament d) (typed_digit standard.filament_high d)
typed_verdict limits (Switch t) q = transition_of (ends_in limits t)
typed_verdict limits (Stream on) q = typed_stream limits on (list_of q)

-- a typed V2 request: 9 where the command lacks the access
unfoldable pub formed_v2 : ProfileLimits → RequestV2 → Sources → Result RequestV2 Refusal
formed_v2 limits (Read c) q = Ok (Read c)
formed_v2 limits (Restore c) q = first (lacks_access restore_code c ⇒ Err Refusal.Access ∷ []) (Ok (Restore c))
formed_v2 limits (Set x) q = set_of (typed_verdict limits x q)

-- a typed V1 request: `c` writes six digits, "20 to 800"
unfoldable pub formed_v1 : RequestV1 → Result RequestV1 Refusal
formed_v1 Measure = Ok Measure
formed_v1 ReadFactor = Ok ReadFactor
formed_v1 Unlock = Ok Unlock
formed_v1 (SetFactor n) = first (leb 1000000 n ⇒ Err Refusal.Syntax ∷ not (is_factor n) ⇒ Err Refusal.Range ∷ []) (Ok (SetFactor n))
formed_v1 ReadUnit = Ok ReadUnit
formed_v1 (SetUnit u) = Ok (SetUnit u)
