-- Laws of V1's rules.
use mathlib.Core.Path.{◌≡◌, refl}
use mathlib.Core.Bool.{Bool, true, false, not}
use Prim.Native.Nat.{ℕ}
use native.Mathlib.Omega.{arith}
use Rattle.buffer.specs.First.{pick}
use Rattle.settings.specs.Limits.{is_factor}
use Rattle.gauge_rules_v1.specs.RulesV1.{factor_number}

-- an accepted factor is within its limits
pub factor_in_lem : (u : Bool) (n : ℕ) → factor_number u n ≡ 0 → is_factor n ≡ true
unfolding factor_number pick
factor_in_lem false n e = absurd (omega arith)
factor_in_lem true n e = go (is_factor n) refl e
  where
    go : (b : Bool) → is_factor n ≡ b → pick {A = ℕ} (not b) 11 0 ≡ 0 → is_factor n ≡ true
    go true t f = t
    go false t f = absurd (omega arith)

-- the same either way
pub either : {A : Type 0} (b : Bool) (a : A) → a ≡ pick b a a
unfolding pick
either true a = refl
either false a = refl
