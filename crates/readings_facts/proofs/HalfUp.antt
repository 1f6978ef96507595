-- Document 01, "V1 on the same settings": "rounded half up to four digits".
use mathlib.Core.Path.{◌≡◌, refl, ◌∙◌}
use mathlib.Core.Bool.{Bool, true, false}
use mathlib.Core.List.{[], ◌∷◌}
use mathlib.Core.Logic.{inl, inr}
use Prim.Native.Nat.{ℕ, ◌+◌, ◌*◌, ◌/◌, ◌%◌, ◌<◌}
use native.Mathlib.Omega.{arith}
use borrow.Author.Tests.{leb-true, leb-false}
use lib.Dec.{leb}
use Rattle.buffer.specs.First.{pick}
use Rattle.buffer.specs.Byte.{numeral_from, numeral}
use Rattle.readings.specs.Measure.{six_of, rounded_text}
use Rattle.readings_facts.specs.HalfUp.{Digits}
use Rattle.readings_facts.specs.Theorems.{HalfUp}

-- a number of six digits is sent as the nearest four, with "exponent plus 20": place 9 is the exponent 0
pub half_up : HalfUp
unfolding rounded_text pick
half_up n f = (q, record { low = omega arith; high = omega arith }, omega (arith, f.low), go (leb 10000 q) refl)
  where
    q : ℕ
    q = (n.mantissa + 50) / 100

    go : (b : Bool) → leb 10000 q ≡ b → Digits q (n.place + 11) (rounded_text n)
    go false h = inl (omega (arith, leb-false 10000 q h), rw h)
    go true h = let e : q ≡ 10000 = omega (arith, leb-true 10000 q h, f.high) in inr (e, rw (h, e))

three : (k : ℕ) → k < 1000 → (k / 100 % 10 * 10 + k / 10 % 10) * 10 + k % 10 ≡ k
three k h = omega arith

four : (q : ℕ) → q < 10000 → ((q / 1000 % 10 * 10 + q / 100 % 10) * 10 + q / 10 % 10) * 10 + q % 10 ≡ q
four q h =
    let a : q / 1000 ≡ q / 10 / 100 = omega arith in
    let b : q / 100 ≡ q / 10 / 10 = omega arith in
    rw (a, b, three (q / 10) (omega arith)) (omega arith)

two : (e : ℕ) → e < 100 → e / 10 % 10 * 10 + e % 10 ≡ e
two e h = omega arith

six : (a b c d e f : ℕ) → numeral ((a + 48) ∷ (b + 48) ∷ (c + 48) ∷ (d + 48) ∷ (e + 48) ∷ (f + 48) ∷ []) ≡ (((a * 10 + b) * 10 + c) * 10 + d) * 100 + (e * 10 + f)
unfolding numeral_from
six a b c d e f = omega arith

-- six digits spell the four and the two
pub six_spells : (q e : ℕ) → q < 10000 → e < 100 → numeral (six_of q e) ≡ q * 100 + e
unfolding six_of
six_spells q e h k = six (q / 1000 % 10) (q / 100 % 10) (q / 10 % 10) (q % 10) (e / 10 % 10) (e % 10) ∙ rw (four q h, two e k)
