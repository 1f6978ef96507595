-- "the bytes before the checksum are 32 to 126": so are all data that requests and replies carry.
use mathlib.Core.Path.{◌≡◌, refl}
use mathlib.Core.Bool.{Bool, true, false, cond, ◌&&◌}
use mathlib.Core.List.{List, [], ◌∷◌, ◌++◌}
use Prim.Native.Nat.{ℕ, ◌-◌, ◌/◌, ◌≤◌}
use native.Mathlib.Omega.{arith}
use lib.Dec.{eqb, ltb}
use lib.ListN.{length}
use Rattle.buffer.specs.Byte.{within, every, digit, digits2, digits3, Printed}
use Rattle.buffer.proofs.Laws.{within_in}
use Rattle.buffer.proofs.Rules.{each}
use Rattle.error_texts.specs.Texts.{error_bytes}
use Rattle.error_texts.specs.declared.ErrorText.TheVariants.{Length, Logic, NoDef, Syntax, Range, Error1}
use Rattle.decimal.specs.declared.Number.{Number}
use Rattle.decimal_text.specs.Written.{sign_text, trimmed, pointed, digits5, exponent_text, written_of, whole_text, two_decimals}
use Rattle.sources.specs.Source.{source_text, list_text}
use Rattle.settings.specs.Sent.{unit_text, transition_text, stream_text, read_text}
use Rattle.settings.specs.declared.PressureUnit.{PressureUnit}
use Rattle.settings.specs.declared.PressureUnit.TheVariants.{Mbar, Torr, HPa}
use Rattle.settings.specs.declared.Transition.{Transition}
use Rattle.settings.specs.declared.Transition.TheVariants.{Direct, Between}
use Rattle.settings.specs.declared.Key.TheVariants.{DA, DU, C1, CM, CC, FC, ST, SM}
use Rattle.readings.specs.Reading.{pressure_text, temperature_text}
use Rattle.readings.specs.Measure.{six_of, rounded_text, measure_text}
use Rattle.readings.specs.declared.Pressure.{Pressure}
use Rattle.readings.specs.declared.Pressure.TheVariants.{Measured, UnderRange, OverRange}
use Rattle.readings.specs.declared.Temperature.{Temperature}
use Rattle.readings.specs.declared.Temperature.TheVariants.{Degrees}
use Rattle.requests.specs.declared.RequestV2.TheVariants.{Read, Restore, Set}
use Rattle.requests.specs.declared.RequestV1.TheVariants.{Measure, ReadFactor, Unlock, SetFactor, ReadUnit, SetUnit}
use Rattle.request_texts.specs.RequestText.{digits6, data_v2, data_v1}
use Rattle.settings.specs.Units.{unit_code}
use Rattle.printed_facts.specs.Theorems.{ErrorPrinted, ReadPrinted, PressurePrinted, TemperaturePrinted, MeasurePrinted, DataV2Printed, DataV1Printed}

pub join : (s t : List ℕ) → Printed s → Printed t → Printed (s ++ t)
unfolding every
join [] t h k = k
join (x ∷ s) t h k = go (within 32 126 x) h (λ (p : Printed s). join s t p k)
  where
    go : (b : Bool) → (b && every (within 32 126) s) ≡ true → (Printed s → Printed (s ++ t)) → (b && every (within 32 126) (s ++ t)) ≡ true
    go true e f = f e
    go false e f = e

pub one : (x : ℕ) → 32 ≤ x → x ≤ 126 → Printed (x ∷ [])
unfolding every
one x h k = rw (within_in 32 126 x h k)

pub next : (x : ℕ) (s : List ℕ) → 32 ≤ x → x ≤ 126 → Printed s → Printed (x ∷ s)
unfolding every
next x s h k p = rw (within_in 32 126 x h k) p

none : Printed []
unfolding every
none = refl

-- ---- digits

pub digit_printed : (n : ℕ) (s : List ℕ) → Printed s → Printed (digit n ∷ s)
digit_printed n s p = next (digit n) s (omega arith) (omega arith) p

pub digits2_printed : (n : ℕ) → Printed (digits2 n)
digits2_printed n = digit_printed (n / 10) _ (digit_printed n [] none)

pub digits3_printed : (n : ℕ) → Printed (digits3 n)
digits3_printed n = digit_printed (n / 100) _ (digits2_printed n)

pub digits6_printed : (n : ℕ) → Printed (digits6 n)
digits6_printed n = join (digits3 (n / 1000)) (digits3 n) (digits3_printed (n / 1000)) (digits3_printed n)

-- ---- numbers

sign_printed : (negative : Bool) → Printed (sign_text negative)
unfolding sign_text
sign_printed true = one 45 (omega arith) (omega arith)
sign_printed false = none

-- a part of a printed text
rest_printed : (x : ℕ) (s : List ℕ) → Printed (x ∷ s) → (within 32 126 x ≡ true) × Printed s
unfolding every
rest_printed x s h = go (within 32 126 x) h
  where
    go : (b : Bool) → (b && every (within 32 126) s) ≡ true → (b ≡ true) × Printed s
    go true e = (refl, e)
    go false e = absurd (let z : ◌≡◌ {A = ℕ} 0 1 = cc in omega arith)

trimmed_printed : (s : List ℕ) → Printed s → Printed (trimmed s)
unfolding trimmed every
trimmed_printed [] h = h
trimmed_printed (x ∷ s) h =
    let w = rest_printed x s h in
    go (eqb x 48 && eqb (length (trimmed s)) 0) w.0 (trimmed_printed s w.1)
  where
    go : (b : Bool) → within 32 126 x ≡ true → Printed (trimmed s) → Printed (cond b [] (x ∷ trimmed s))
    go true e p = none
    go false e p = rw e p

pointed_printed : (s : List ℕ) → Printed s → Printed (pointed s)
unfolding pointed
pointed_printed [] h = h
pointed_printed (x ∷ s) h = next 46 (x ∷ s) (omega arith) (omega arith) h

digits5_printed : (m : ℕ) → Printed (digits5 m)
digits5_printed m = digit_printed (m / 10000) _ (digit_printed (m / 1000) _ (digits3_printed m))

exponent_printed : (place : ℕ) → Printed (exponent_text place)
unfolding exponent_text
exponent_printed place = go (ltb place 9)
  where
    go : (b : Bool) → Printed (cond b (45 ∷ digit (9 - place) ∷ []) (digit (place - 9) ∷ []))
    go true = next 45 _ (omega arith) (omega arith) (digit_printed (9 - place) [] none)
    go false = digit_printed (place - 9) [] none

pub written_printed : (n : Number) → Printed (written_of n)
unfolding written_of
written_printed n =
    each Printed _ _ _ (λ _. one 48 (omega arith) (omega arith))
    (λ _. join _ _ (join _ _ (join _ _ (join _ _ (sign_printed n.negative) (digit_printed (n.mantissa / 100000) [] none)) (pointed_printed _ (trimmed_printed _ (digits5_printed n.mantissa))))
    (one 101 (omega arith) (omega arith))) (exponent_printed n.place))

whole_printed : (n : ℕ) → Printed (whole_text n)
unfolding whole_text
whole_printed n = each Printed _ _ _ (λ _. digit_printed n [] none) (λ _. each Printed _ _ _ (λ _. digits2_printed n) (λ _. digits3_printed n))

pub two_printed : (negative : Bool) (h : ℕ) → Printed (two_decimals negative h)
unfolding two_decimals
two_printed negative h =
    join _ _ (join _ _ (join _ _ (go (eqb h 0)) (whole_printed (h / 100))) (one 46 (omega arith) (omega arith))) (digits2_printed h)
  where
    go : (b : Bool) → Printed (cond b [] (sign_text negative))
    go true = none
    go false = sign_printed negative

-- ---- settings

unit_printed : (u : PressureUnit) → Printed (unit_text u)
unfolding unit_text every within
unit_printed Mbar = refl
unit_printed Torr = refl
unit_printed HPa = refl

transition_printed : (t : Transition) → Printed (transition_text t)
unfolding transition_text
transition_printed (Direct n) = join _ _ (one 68 (omega arith) (omega arith)) (written_printed n)
transition_printed (Between low high) =
    join _ _ (join _ _ (join _ _ (one 70 (omega arith) (omega arith)) (written_printed low)) (one 84 (omega arith) (omega arith))) (written_printed high)

source_printed : (c : ℕ) → Printed (source_text c)
unfolding source_text every within
source_printed c = each Printed _ _ _ (λ _. refl) (λ _. each Printed _ _ _ (λ _. refl) (λ _. digit_printed c [] none))

list_printed : (cs : List ℕ) → Printed (list_text cs)
unfolding list_text
list_printed [] = none
list_printed (c ∷ cs) = join _ _ (join _ _ (one 68 (omega arith) (omega arith)) (source_printed c)) (list_printed cs)

stream_printed : (on : Bool) (list : List ℕ) → Printed (stream_text on list)
unfolding stream_text
stream_printed true list = join _ _ (one 52 (omega arith) (omega arith)) (list_printed list)
stream_printed false list = one 48 (omega arith) (omega arith)

-- what a read of a setting sends, whatever the settings hold
pub read_printed : ReadPrinted
unfolding read_text
read_printed DA h = digits3_printed h.address
read_printed DU h = unit_printed h.unit
read_printed C1 h = two_printed false h.factor
read_printed CM h = digit_printed h.control [] none
read_printed CC h = digit_printed h.cathode [] none
read_printed FC h = digit_printed h.filament [] none
read_printed ST h = transition_printed h.transition
read_printed SM h = stream_printed h.streaming h.list

-- ---- readings and errors

pub error_printed : ErrorPrinted
unfolding error_bytes every within
error_printed Length = refl
error_printed Logic = refl
error_printed NoDef = refl
error_printed Syntax = refl
error_printed Range = refl
error_printed Error1 = refl

pub pressure_printed : PressurePrinted
unfolding pressure_text
pressure_printed (Measured n) = written_printed n
pressure_printed UnderRange = next 85 _ (omega arith) (omega arith) (one 82 (omega arith) (omega arith))
pressure_printed OverRange = next 79 _ (omega arith) (omega arith) (one 82 (omega arith) (omega arith))
pressure_printed Pressure.Faulty = error_printed Error1

pub temperature_printed : TemperaturePrinted
unfolding temperature_text
temperature_printed (Degrees negative h) = two_printed negative h
temperature_printed Temperature.Faulty = error_printed Error1

six_printed : (m e : ℕ) → Printed (six_of m e)
unfolding six_of
six_printed m e = join _ _ (digit_printed (m / 1000) _ (digits3_printed m)) (digits2_printed e)

pub measure_printed : MeasurePrinted
unfolding measure_text rounded_text
measure_printed (Measured n) = each Printed _ _ _ (λ _. six_printed _ _) (λ _. six_printed _ _)
measure_printed UnderRange = six_printed 0 0
measure_printed OverRange = six_printed 9999 99
measure_printed Pressure.Faulty = one 49 (omega arith) (omega arith)

-- ---- requests

pub data_v2_printed : DataV2Printed
unfolding data_v2
data_v2_printed (Read c) list = none
data_v2_printed (Restore c) list = none
data_v2_printed (Set x) list = read_printed _ _

pub data_v1_printed : DataV1Printed
unfolding data_v1
data_v1_printed Measure = none
data_v1_printed ReadFactor = one 49 (omega arith) (omega arith)
data_v1_printed Unlock = one 49 (omega arith) (omega arith)
data_v1_printed (SetFactor n) = digits6_printed n
data_v1_printed ReadUnit = none
data_v1_printed (SetUnit u) = digits6_printed (unit_code u)
