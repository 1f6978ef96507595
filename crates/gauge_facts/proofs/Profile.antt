-- The profile: what its bench takes, and that no call changes it.
use mathlib.Core.Path.{◌≡◌, refl, sym, ap, subst}
use mathlib.Core.Bool.{Bool, true, false, not}
use mathlib.Core.Option as math
use Prim.Native.Nat.{ℕ}
use native.Mathlib.Omega.{arith}
use Rattle.std.specs.Prelude.{None, Option, Some}
use Rattle.buffer.specs.First.{pick}
use Rattle.sources.specs.Source.{among}
use Rattle.sources.specs.declared.Profile.TheVariants.{Standard, Vsh, Vsm}
use Rattle.settings.specs.Limits.{ProfileLimits, limits_of}
use Rattle.readings.specs.Bench.{bench_of}
use Rattle.readings.specs.There.{names}
use Rattle.gauge_rules.specs.State.{State}
use Rattle.gauge_rules.specs.BenchIn.{lacked, bench_in}
use Rattle.gauge_table.specs.After.{afterwards, next_of, benched}
use Rattle.gauge_facts.specs.Theorems.{BenchExactly, ProfileStays, LimitsTell}
use Rattle.readings.specs.declared.Reading.{Reading}

-- a source that is not lacked is one of the profile's, and the reverse
offered : (limits : ProfileLimits) (o : math.Option ℕ) → lacked limits o ≡ false → (code : ℕ) → o ≡ math.some code → among limits.source_codes code ≡ true
unfolding lacked
offered limits o e code k = is_true (among limits.source_codes code) (subst (λ (o : math.Option ℕ). lacked limits o ≡ false) k e)
  where
    is_true : (t : Bool) → not t ≡ false → t ≡ true
    is_true true e = refl
    is_true false e = sym e

not_lacked : (limits : ProfileLimits) (o : math.Option ℕ) → ((code : ℕ) → o ≡ math.some code → among limits.source_codes code ≡ true) → lacked limits o ≡ false
unfolding lacked
not_lacked limits math.none h = refl
not_lacked limits (math.some code) h = rw (h code refl)

-- a setting of a source that the profile has, judged as before
pub bench_exactly : BenchExactly
unfolding bench_in pick
bench_exactly limits b x = (
  λ e.
      let w = to (lacked limits (names b)) e in
      (offered limits (names b) w.0, w.1),
  λ w. rw (not_lacked limits (names b) w.0) w.1,
)
  where
    to : (t : Bool) → pick t None (bench_of b) ≡ Some x → (t ≡ false) × (bench_of b ≡ Some x)
    to true e = absurd (let z : ◌≡◌ {A = ℕ} 0 1 = cc in omega arith)
    to false e = (refl, e)

bench_stays : (g : State) (x : Option Reading) → (benched g x).limits ≡ g.limits
unfolding benched
bench_stays g (Some r) = refl
bench_stays g None = refl

pub profile_stays : ProfileStays
unfolding next_of afterwards
profile_stays = (λ g room s. refl, λ g b. bench_stays g (bench_in g.limits b))

-- the upper ends of ST differ
place : ProfileLimits → ℕ
place limits = limits.transition_high.place

pub limits_tell : LimitsTell
unfolding limits_of place
limits_tell Standard Standard e = refl
limits_tell Vsh Vsh e = refl
limits_tell Vsm Vsm e = refl
limits_tell Standard Vsh e = absurd (omega (arith, ap place e))
limits_tell Standard Vsm e = absurd (omega (arith, ap place e))
limits_tell Vsh Standard e = absurd (omega (arith, ap place e))
limits_tell Vsh Vsm e = absurd (omega (arith, ap place e))
limits_tell Vsm Standard e = absurd (omega (arith, ap place e))
limits_tell Vsm Vsh e = absurd (omega (arith, ap place e))
