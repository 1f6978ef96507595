-- Laws of the numbers that digits at the front of a text spell.
use mathlib.Core.Path.{◌≡◌, refl, ap, ◌∙◌}
use mathlib.Core.Bool.{Bool, true, false, cond}
use mathlib.Core.List.{List, [], ◌∷◌, ◌++◌}
use Prim.Native.Nat.{ℕ, zero, suc, ◌+◌, ◌-◌, ◌*◌, ◌^◌, ◌<◌, ◌≤◌}
use native.Mathlib.Nat.{pow-suc, mul-le-mul_right, mul_assoc, mul_comm}
use native.Mathlib.Omega.{arith}
use borrow.Author.Tests.{lt-ltb, eq-eqb, ne_eqb}
use lib.Dec.{ltb, eqb}
use lib.ListN.{length, get_or, take, length-take}
use lib.Seq.{take_all}
use Rattle.buffer.specs.Byte.{is_digit, leading, numeral_from, numeral}
use Rattle.buffer.specs.First.{pick}
use Rattle.buffer.proofs.Laws.{within_true, leading_le}
use Rattle.buffer.proofs.Rules.{each}
use Rattle.decimal.specs.Digits.{significant}

-- a digit stands for 0 to 9
pub digit_low : (x : ℕ) → is_digit x ≡ true → x - 48 < 10
digit_low x e = let h = within_true 48 57 x e in omega arith

tens : (v p : ℕ) → (v * 10 + 10) * p ≡ (v + 1) * (p * 10)
tens v p =
    let e : v * 10 + 10 ≡ (v + 1) * 10 = omega arith in
    rw e (mul_assoc (v + 1) 10 p ∙ ap (λ (k : ℕ). (v + 1) * k) (mul_comm 10 p))

-- n leading digits spell a number below 10 ^ n
pub numeral_front : (s : List ℕ) (v n : ℕ) → n ≤ leading s → numeral_from v (take n s) < (v + 1) * 10 ^ n
unfolding numeral_from leading
numeral_front s v zero h = omega arith
numeral_front [] v (suc n) h = omega arith
numeral_front (x ∷ s) v (suc n) h = go (is_digit x) refl h (numeral_front s (v * 10 + (x - 48)) n)
  where
    go : (b : Bool) → is_digit x ≡ b → suc n ≤ cond b (leading s + 1) 0
        → (n ≤ leading s → numeral_from (v * 10 + (x - 48)) (take n s) < (v * 10 + (x - 48) + 1) * 10 ^ n)
        → numeral_from (v * 10 + (x - 48)) (take n s) < (v + 1) * 10 ^ suc n
    go true e k ih =
        let m : (v * 10 + (x - 48) + 1) * 10 ^ n ≤ (v * 10 + 10) * 10 ^ n = mul-le-mul_right (10 ^ n) (omega (arith, digit_low x e)) in
        rw (pow-suc 10 n, ← (tens v (10 ^ n))) (omega (arith, ih (omega arith), m))
    go false e k ih = omega arith

-- at most six leading digits are all that `numeral_of` reads
pub six : (s : List ℕ) (n : ℕ) → n ≤ 6 → take 6 (take n s) ≡ take n s
six s n h = take_all 6 (take n s) (simp length-take (omega arith))

pub numeral_low : (s : List ℕ) (n : ℕ) → n ≤ leading s → n ≤ 6 → numeral (take 6 (take n s)) < 10 ^ n
numeral_low s n h k = rw (six s n k) (omega (arith, numeral_front s 0 n h))

-- digits spelled after other digits, and after a number
pub numeral_on : (v : ℕ) (a b : List ℕ) → numeral_from v (a ++ b) ≡ numeral_from (numeral_from v a) b
unfolding numeral_from
numeral_on v [] b = refl
numeral_on v (x ∷ a) b = numeral_on (v * 10 + (x - 48)) a b

pub numeral_after : (v : ℕ) (b : List ℕ) → numeral_from v b ≡ v * 10 ^ length b + numeral b
unfolding numeral_from
numeral_after v [] = omega arith
numeral_after v (x ∷ b) = rw (numeral_after (v * 10 + (x - 48)) b, numeral_after (0 + (x - 48)) b, pow-suc 10 (length b)) (omega arith)

pub ruleset front_digits = (six, numeral_low, leading_le)

-- ---- the digits up to the last that is not `0`

pub significant_none : (s : List ℕ) → ((k : ℕ) → k < length s → get_or s k 0 ≡ 48) → significant s ≡ 0
unfolding significant pick
significant_none [] h = refl
significant_none (x ∷ s) h = rw (significant_none s (λ k i. h (suc k) (omega arith)), eq-eqb x 48 (h 0 (omega arith)))

pub significant_upto : (s : List ℕ) (i : ℕ) → i < length s → (get_or s i 0 ≡ 48 → ⊥) → ((k : ℕ) → i + 1 ≤ k → k < length s → get_or s k 0 ≡ 48)
    → significant s ≡ i + 1
unfolding significant pick
significant_upto [] i l n h = absurd (omega arith)
significant_upto (x ∷ s) zero l n h = rw (significant_none s (λ k i. h (suc k) (omega arith) (omega arith)), ne_eqb x 48 n)
significant_upto (x ∷ s) (suc i) l n h =
    let e = significant_upto s i (omega arith) n (λ k j m. h (suc k) (omega arith) (omega arith)) in rw (e, lt-ltb 0 (i + 1) (omega arith)) (omega arith)

pub significant_le : (s : List ℕ) → significant s ≤ length s
unfolding significant
significant_le [] = omega arith
significant_le (x ∷ s) =
    each (λ (n : ℕ). n ≤ suc (length s)) (ltb 0 (significant s)) _ _ (λ e. omega (arith, significant_le s))
    (λ e. each (λ (n : ℕ). n ≤ suc (length s)) (eqb x 48) 0 1 (λ f. omega arith) (λ f. omega arith))
