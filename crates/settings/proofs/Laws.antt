-- Laws of factors and of units, lengths of the texts that reads send, and of the longest line.
use mathlib.Core.Path.{◌≡◌, refl}
use mathlib.Core.Bool.{Bool, true, false, cond}
use Prim.Native.Nat.{ℕ, ◌<◌, ◌≤◌}
use native.Mathlib.Omega.{arith}
use lib.ListN.{length, length-append}
use lib.Dec.{eqb}
use Rattle.std.specs.Prelude.{None, Option, Some}
use Rattle.buffer.specs.First.{pick}
use Rattle.buffer.proofs.Laws.{within_true, within_in}
use Rattle.decimal.specs.declared.Number.{Number}
use Rattle.decimal_text.specs.Written.{written_of}
use Rattle.decimal_text.proofs.Laws.{written_le}
use Rattle.sources.specs.Source.{among, capacity, sources_of, total}
use Rattle.sources.specs.declared.Profile.{Profile}
use Rattle.sources.specs.declared.Profile.TheVariants.{Standard, Vsh, Vsm}
use Rattle.sources.proofs.Profiles.{few, zero_in}
use Rattle.settings.specs.Limits.{standard, limits_of, is_factor, width_of, longest_line}
use Rattle.settings.specs.Units.{unit_named}
use Rattle.settings.specs.Sent.{transition_text}
use Rattle.settings.specs.declared.PressureUnit.{PressureUnit}
use Rattle.settings.specs.declared.PressureUnit.TheVariants.{Mbar, Torr, HPa}
use Rattle.settings.specs.declared.Transition.{Transition}
use Rattle.settings.specs.declared.Transition.TheVariants.{Direct, Between}
use Rattle.settings.specs.Theorems.{LongestIs}

-- a written number has at most eleven characters
eleven : (n : Number) → length (written_of n) ≤ 11
eleven n = omega (arith, written_le n, one n.negative)
  where
    one : (b : Bool) → cond b 1 0 ≤ 1
    one true = omega arith
    one false = omega arith

pub transition_le : (t : Transition) → length (transition_text t) ≤ 24
unfolding transition_text
transition_le (Direct n) = simp length-append (omega (arith, eleven n))
transition_le (Between a b) = simp length-append (omega (arith, eleven a, eleven b))

pub longest_is : LongestIs
unfolding limits_of longest_line total width_of pick
longest_is = (refl, refl, refl)

-- the sources of a profile's limits are the profile's
pub codes_are : (p : Profile) → (limits_of p).source_codes ≡ sources_of p
unfolding limits_of
codes_are Standard = refl
codes_are Vsh = refl
codes_are Vsm = refl

-- the sources of a profile: `0` is one of them, and each has a place in a list
pub zero_here : (p : Profile) → among (limits_of p).source_codes 0 ≡ true
zero_here p = rw codes_are (zero_in p)

pub few_here : (p : Profile) → length (limits_of p).source_codes ≤ capacity
few_here p = rw codes_are (few p)

-- ---- the factor

-- within its limits, and below 2 ^ 16
pub factor_true : (n : ℕ) → is_factor n ≡ true → (standard.factor_low ≤ n) × (n ≤ standard.factor_high)
factor_true n e = within_true standard.factor_low standard.factor_high n e

pub factor_is : (n : ℕ) → standard.factor_low ≤ n → n ≤ standard.factor_high → is_factor n ≡ true
factor_is n h k = within_in standard.factor_low standard.factor_high n h k

pub factor_small : (n : ℕ) → is_factor n ≡ true → n < 65536
factor_small n e = omega (arith, (factor_true n e).1)

-- ---- the units

-- what is made of a unit that a number names, by the unit
abbrev pub named_by : {A : Type 0} (f : PressureUnit → A) (d : A) → Option PressureUnit → A
named_by f d (Some u) = f u
named_by f d None = d

pub unit_by : {A : Type 0} (f : PressureUnit → A) (d : A) (n : ℕ) → unit_named f d n ≡ named_by f d (unit_named Some None n)
unfolding pick
unit_by f d n = go (eqb n 0) (eqb n 1) (eqb n 2)
  where
    go : (a b c : Bool) → pick a (f Mbar) (pick b (f Torr) (pick c (f HPa) d)) ≡ named_by f d (pick a (Some Mbar) (pick b (Some Torr) (pick c (Some HPa) None)))
    go true b c = refl
    go false true c = refl
    go false false true = refl
    go false false false = refl
