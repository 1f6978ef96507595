-- Laws of trailing zeros, and of texts that grow.
use mathlib.Core.Path.{◌≡◌, refl}
use mathlib.Core.Bool.{Bool, true, false, cond, ◌&&◌}
use mathlib.Core.List.{List, [], ◌∷◌, ◌++◌}
use Prim.Native.Nat.{ℕ, zero, suc, ◌+◌, ◌-◌, ◌/◌, ◌%◌, ◌<◌, ◌≤◌}
use native.Mathlib.Omega.{arith}
use borrow.Author.Tests.{lt-ltb, ne_eqb, eqb-true, ltb-false}
use lib.Dec.{eqb, ltb}
use lib.ListN.{length, take, length-append, length-take}
use Rattle.std.proofs.lemmas.Bool.Decides.{nat_tests}
use mathlib.Core.List.{append_assoc}
use Rattle.buffer.proofs.Laws.{cut_cut, cut_fits}
use Rattle.buffer.specs.First.{pick}
use Rattle.buffer.specs.Byte.{digit, digits2, digits3}
use Rattle.buffer.proofs.Rules.{each}
use Rattle.decimal.specs.Digits.{significant}
use Rattle.decimal.proofs.Laws.{significant_le}
use Rattle.decimal.specs.declared.Number.{Number}
use Rattle.decimal_text.specs.Written.{sign_text, trimmed, pointed, digits5, exponent_text, written_of, whole_text, two_decimals}

never : (b : Bool) → b && false ≡ false
never true = refl
never false = refl

-- what is left is the front, as far as its last character that is no zero
pub trim_front : (s : List ℕ) → trimmed s ≡ take (significant s) s
unfolding trimmed significant pick
trim_front [] = refl
trim_front (x ∷ s) = go (eqb x 48) (significant s) (significant_le s) (trim_front s)
  where
    go : (b : Bool) (n : ℕ) → n ≤ length s → trimmed s ≡ take n s
        → cond (b && eqb (length (trimmed s)) 0) [] (x ∷ trimmed s) ≡ take (pick (ltb 0 n) (n + 1) (pick b 0 1)) (x ∷ s)
    go true zero h e = rw e
    go false zero h e = rw e
    go b (suc n) h e =
        let f : length (trimmed s) ≡ suc n = rw e (simp length-take (omega arith)) in
        let i : b && eqb (length (trimmed s)) 0 ≡ false = rw (ne_eqb (length (trimmed s)) 0 (omega arith)) (never b) in
        let o : suc n + 1 ≡ suc (suc n) = omega arith in
        rw (i, e, lt-ltb 0 (suc n) (omega arith), o)

pub pointed_some : (x : ℕ) (s : List ℕ) (k : ℕ) → 0 < k → pointed (take k (x ∷ s)) ≡ 46 ∷ take k (x ∷ s)
unfolding pointed
pointed_some x s zero h = absurd (omega arith)
pointed_some x s (suc k) h = refl

-- a text with no significant digit: its first is `0`, and no other is significant
none_significant : (x : ℕ) (s : List ℕ) → significant (x ∷ s) ≡ 0 → (x ≡ 48) × (significant s ≡ 0)
unfolding significant
none_significant x s =
    each (λ (n : ℕ). n ≡ 0 → (x ≡ 48) × (significant s ≡ 0)) (ltb 0 (significant s)) (significant s + 1) (pick (eqb x 48) 0 1)
    (λ _ e. absurd (omega arith))
    (λ t. each (λ (n : ℕ). n ≡ 0 → (x ≡ 48) × (significant s ≡ 0)) (eqb x 48) 0 1 (λ u _. (eqb-true x 48 u, omega (arith, ltb-false 0 (significant s) t))) (λ _ e. absurd (omega arith)))

-- a mantissa whose last five digits make 0 has none left, any other has some
pub none_left : (m : ℕ) → m % 100000 ≡ 0 → trimmed (digits5 m) ≡ []
unfolding trimmed
none_left m h =
    let a : digit (m / 10000) ≡ 48 = omega arith in
    let b : digit (m / 1000) ≡ 48 = omega arith in
    let c : digit (m / 100) ≡ 48 = omega arith in
    let d : digit (m / 10) ≡ 48 = omega arith in
    let e : digit m ≡ 48 = omega arith in
    rw (a, b, c, d, e)

pub some_left : (m : ℕ) → (m % 100000 ≡ 0 → ⊥) → 0 < significant (digits5 m)
some_left m h = go (significant (digits5 m)) refl
  where
    go : (n : ℕ) → significant (digits5 m) ≡ n → 0 < n
    go (suc n) e = omega arith
    go zero e =
        let a = none_significant (digit (m / 10000)) _ e in
        let b = none_significant (digit (m / 1000)) _ a.1 in
        let c = none_significant (digit (m / 100)) _ b.1 in
        let d = none_significant (digit (m / 10)) _ c.1 in
        let f = none_significant (digit m) [] d.1 in
        absurd (h (omega (arith, a.0, b.0, c.0, d.0, f.0)))

-- 0 is its first digit alone
pub zero_sent : (digit (0 / 100000) ∷ []) ++ pointed (trimmed (digits5 0)) ≡ 48 ∷ []
unfolding trimmed pointed
zero_sent = refl

-- ---- lengths

pub trim_le : (s : List ℕ) → length (trimmed s) ≤ length s
trim_le s = rw (trim_front s) (rw (length-take (significant s) s) (omega arith))

point_le : (s : List ℕ) → length (pointed s) ≤ length s + 1
unfolding pointed
point_le [] = omega arith
point_le (x ∷ s) = omega arith

exponent_le : (p : ℕ) → length (exponent_text p) ≤ 2
unfolding exponent_text
exponent_le p = go (ltb p 9)
  where
    go : (b : Bool) → length (cond b (45 ∷ digit (9 - p) ∷ []) (digit (p - 9) ∷ [])) ≤ 2
    go true = omega arith
    go false = omega arith

sign_le : (b : Bool) → length (sign_text b) ≡ cond b 1 0
unfolding sign_text
sign_le true = refl
sign_le false = refl

sign_one : (b c : Bool) → length (cond b [] (sign_text c)) ≤ 1
unfolding sign_text
sign_one true c = omega arith
sign_one false true = omega arith
sign_one false false = omega arith

-- the written form has at most ten characters, and one more if the number is negative
pub written_le : (n : Number) → length (written_of n) ≤ 10 + cond n.negative 1 0
unfolding written_of
written_le n = go (eqb n.mantissa 0)
  where
    full : List ℕ
    full = sign_text n.negative ++ (digit (n.mantissa / 100000) ∷ []) ++ pointed (trimmed (digits5 n.mantissa)) ++ (101 ∷ []) ++ exponent_text n.place

    all : length full ≤ 10 + cond n.negative 1 0
    all = simp length-append (omega (arith, sign_le n.negative, point_le (trimmed (digits5 n.mantissa)), trim_le (digits5 n.mantissa), exponent_le n.place))

    go : (b : Bool) → length (pick b (48 ∷ []) full) ≤ 10 + cond n.negative 1 0
    go b = each (λ (l : List ℕ). length l ≤ 10 + cond n.negative 1 0) b (48 ∷ []) full (λ _. omega arith) (λ _. all)

pub written_fits : (n : Number) → length (written_of n) ≤ 24
written_fits n = omega (arith, written_le n, one n.negative)
  where
    one : (b : Bool) → cond b 1 0 ≤ 1
    one true = omega arith
    one false = omega arith

whole_le : (n : ℕ) → length (whole_text n) ≤ 3
unfolding whole_text
whole_le n =
    each (λ (l : List ℕ). length l ≤ 3) (ltb n 10) (digit n ∷ []) (pick (ltb n 100) (digits2 n) (digits3 n)) (λ _. omega arith)
    (λ _. each (λ (l : List ℕ). length l ≤ 3) (ltb n 100) (digits2 n) (digits3 n) (λ _. omega arith) (λ _. omega arith))

-- the form with two decimals has at most seven characters
pub two_le : (negative : Bool) (h : ℕ) → length (two_decimals negative h) ≤ 7
unfolding two_decimals
two_le negative h = simp length-append (omega (arith, whole_le (h / 100), sign_one (eqb h 0) negative))

-- for a text that grows
pub ruleset grown = (nat_tests, cut_cut, cut_fits, append_assoc)

pub ruleset fraction = (nat_tests, cut_cut, append_assoc, trim_front, pointed_some, none_left, some_left, significant_le, length-take)
