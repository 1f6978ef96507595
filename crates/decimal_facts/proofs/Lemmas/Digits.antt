-- Lemmas on digits, numerals and ordered tests.
use mathlib.Core.Path.{◌≡◌, refl, sym, ◌∙◌}
use mathlib.Core.Bool.{Bool, true, false, cond, ◌&&◌, true≢false}
use mathlib.Core.List.{List, [], ◌∷◌, ◌++◌}
use Prim.Native.Nat.{ℕ, ◌+◌, ◌*◌, ◌^◌, ◌≤◌}
use native.Mathlib.Numerals.{add-one}
use native.Mathlib.Omega.{arith}
use borrow.Author.Tests.{leb-true}
use lib.Dec.{leb}
use lib.ListN.{length, take, length-take}
use Rattle.buffer.specs.First.{pick}
use Rattle.buffer.specs.Byte.{at, within, is_digit, every, numeral, leading}
use Rattle.buffer.proofs.Laws.{leading_le}
use Rattle.decimal.proofs.Laws.{numeral_on, numeral_after}

-- ---- tests

pub both_left : (a b : Bool) → (a && b) ≡ true → a ≡ true
both_left true b e = refl
both_left false b e = e

pub both_right : (a b : Bool) → (a && b) ≡ true → b ≡ true
both_right true b e = e
both_right false b e = absurd (true≢false (sym e))

-- ---- digits

pub digit_low : (x : ℕ) → is_digit x ≡ true → 48 ≤ x
unfolding within
digit_low x e = leb-true 48 x (both_left (leb 48 x) (leb x 57) e)

pub every_append : (a b : List ℕ) → every is_digit a ≡ true → every is_digit b ≡ true → every is_digit (a ++ b) ≡ true
unfolding every
every_append [] b e f = f
every_append (x ∷ a) b e f = rw (both_left (is_digit x) (every is_digit a) e) (every_append a b (both_right (is_digit x) (every is_digit a) e) f)

-- ---- the digits at the front

-- digits, and then something else
pub leading_at : (a t : List ℕ) → every is_digit a ≡ true → is_digit (at t 0) ≡ false → leading (a ++ t) ≡ length a
unfolding leading every
leading_at [] [] e f = refl
leading_at [] (x ∷ t) e f = rw f
leading_at (x ∷ a) t e f = rw (both_left (is_digit x) (every is_digit a) e, leading_at a t (both_right (is_digit x) (every is_digit a) e) f) (add-one (length a))

-- what stands at the front is digits
pub leading_digits : (s : List ℕ) → every is_digit (take (leading s) s) ≡ true
unfolding leading every
leading_digits [] = refl
leading_digits (x ∷ s) = go (is_digit x) refl (leading_digits s)
  where
    go : (b : Bool) → is_digit x ≡ b → every is_digit (take (leading s) s) ≡ true → every is_digit (take (cond b (leading s + 1) 0) (x ∷ s)) ≡ true
    go true e h = rw (add-one (leading s), e) h
    go false e h = refl

pub leading_length : (s : List ℕ) → length (take (leading s) s) ≡ leading s
leading_length s = simp length-take (omega (arith, leading_le s))

-- ---- numerals

pub numeral_append : (a b : List ℕ) → numeral (a ++ b) ≡ numeral a * 10 ^ length b + numeral b
numeral_append a b = numeral_on 0 a b ∙ numeral_after (numeral a) b

-- ---- ordered tests

-- rows that gave r, where a test that holds gives something else
pub passed : {A : Type 0} (t : Bool) (a b r : A) → (a ≡ r → ⊥) → pick t a b ≡ r → (t ≡ false) × (b ≡ r)
unfolding pick
passed true a b r n e = absurd (n e)
passed false a b r n e = (refl, e)
