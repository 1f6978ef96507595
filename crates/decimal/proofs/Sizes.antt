-- Laws of powers of ten, sizes and comparison.
use mathlib.Core.Path.{◌≡◌, refl, sym, ap, ◌∙◌}
use mathlib.Core.Bool.{Bool, true, false, not}
use mathlib.Core.Logic.{inl, inr}
use Prim.Native.Nat.{ℕ, zero, suc, ◌+◌, ◌-◌, ◌*◌, ◌/◌, ◌%◌, ◌^◌, ◌<◌, ◌≤◌}
use lib.Pow.{pow-add}
use native.Mathlib.Nat.{one-le-pow, mul_assoc, mul-le-mul, mul-le-mul_right, mul-lt-mul_of_pos_right, mul-mod_left, mul-div_left, mul-div-mul_right, dvd_of_mod-eq-zero, mod-eq-zero_of_dvd, dvd_of_mul-dvd-mul_right, mul-dvd-mul_right, zero-mul, mul-pos, suc-mul, mul-one}
use native.Mathlib.Omega.{arith}
use borrow.Author.Tests.{lt-ltb, le-ltb, le-leb, lt-leb, eq-eqb, ne_eqb, ltb-true, ltb-false, leb-true, leb-false, eqb-true, eqb-false}
use lib.Dec.{ltb, leb, eqb, eqb-suc-zero}
use Rattle.std.specs.Prelude.{None, Some, Result, Ok, Err, min}
use Rattle.std.specs.Result.{OkIff, result_ok}
use Rattle.std.proofs.lemmas.Bool.Decides.{nat_tests}
use Rattle.buffer.specs.First.{pick}
use Rattle.buffer.proofs.Laws.{ten_step, ten_max}
use Rattle.decimal.specs.Exact.{digits_in, size_of}
use Rattle.decimal.specs.Number.{counted_of}
use Rattle.decimal.specs.Inner.{Scaled}

pub ten_pos : (k : ℕ) → 0 < 10 ^ k
ten_pos k = one-le-pow k 10 (omega arith)

-- 10 ^ q in two parts
pub ten_split : (m p q : ℕ) → p ≤ q → m * 10 ^ q ≡ m * 10 ^ (q - p) * 10 ^ p
ten_split m p q h =
    let e : q ≡ q - p + p = omega arith in
    ap (λ (k : ℕ). m * 10 ^ k) e ∙ ap (λ (k : ℕ). m * k) (pow-add 10 (q - p) p) ∙ sym (mul_assoc m (10 ^ (q - p)) (10 ^ p))

-- a product with a power of ten of ten digits or more is beyond a u32
pub beyond : (m d : ℕ) → 1 ≤ m → 10 ≤ d → 4294967296 ≤ m * 10 ^ d
beyond m d h k = omega (arith, mul-le-mul h (ten_max 10 d k))

-- two tests that hold together
pub ltb_same : (a b c d : ℕ) → (a < b → c < d) → (b ≤ a → d ≤ c) → ltb a b ≡ ltb c d
ltb_same a b c d f g = go (ltb a b) refl
  where
    go : (t : Bool) → ltb a b ≡ t → ltb a b ≡ ltb c d
    go true e = e ∙ sym (lt-ltb c d (f (ltb-true a b e)))
    go false e = e ∙ sym (le-ltb c d (g (ltb-false a b e)))

-- sizes are compared at the smaller place
less_at : (a x p : ℕ) → ltb a x ≡ ltb (a * 10 ^ p) (x * 10 ^ p)
less_at a x p = ltb_same a x (a * 10 ^ p) (x * 10 ^ p) (λ h. mul-lt-mul_of_pos_right h (ten_pos p)) (λ h. mul-le-mul_right (10 ^ p) h)

pub less_right : (a b p q r : ℕ) → p ≤ q → a < 4294967296 → Scaled b (q - p) r → ltb a r ≡ ltb (a * 10 ^ p) (b * 10 ^ q)
less_right a b p q r h k (inl e) = rw (ten_split b p q h, e) (less_at a (b * 10 ^ (q - p)) p)
less_right a b p q r h k (inr w) =
    lt-ltb a r (omega (arith, w.0)) ∙ sym (lt-ltb a (b * 10 ^ (q - p)) (omega (arith, w.1))) ∙ rw (ten_split b p q h) (less_at a (b * 10 ^ (q - p)) p)

pub less_left : (a b p q r : ℕ) → q ≤ p → b < 4294967296 → Scaled a (p - q) r → ltb r b ≡ ltb (a * 10 ^ p) (b * 10 ^ q)
less_left a b p q r h k (inl e) = rw (ten_split a q p h, e) (less_at (a * 10 ^ (p - q)) b q)
less_left a b p q r h k (inr w) =
    le-ltb r b (omega (arith, w.0)) ∙ sym (le-ltb (a * 10 ^ (p - q)) b (omega (arith, w.1))) ∙ rw (ten_split a q p h) (less_at (a * 10 ^ (p - q)) b q)

-- both at the smaller place
at_place : (m d r : ℕ) → d ≡ 0 → m < 4294967296 → Scaled m d r → r ≡ m
at_place m d r z h (inl e) = rw z at e ∙ mul-one m
at_place m d r z h (inr w) = absurd (omega (arith, w.1, rw z at w.1))

pub less_at_min : (a b p q k r s : ℕ) → k ≡ min p q → a < 4294967296 → b < 4294967296 → Scaled a (p - k) r → Scaled b (q - k) s
    → ltb r s ≡ ltb (a * 10 ^ p) (b * 10 ^ q)
less_at_min a b p q k r s e f g x y = go (leb p q) refl
  where
    go : (t : Bool) → leb p q ≡ t → ltb r s ≡ ltb (a * 10 ^ p) (b * 10 ^ q)
    go true l =
        let h = leb-true p q l in
        let i : k ≡ p = omega arith in
        rw (at_place a (p - k) r (omega arith) f x) (less_right a b p q s h f (rw i at y))
    go false l =
        let h = leb-false p q l in
        let i : k ≡ q = omega arith in
        rw (at_place b (q - k) s (omega arith) g y) (less_left a b p q r (omega arith) g (rw i at x))

-- a product that saturates is the product, or beyond a u32 as the product is
pub saturates : (m d p r : ℕ) → p ≡ min (10 ^ d) 18446744073709551615 → r ≡ min (m * p) 18446744073709551615 → Scaled m d r
saturates zero d p r e f = inl (rw (zero-mul p) at f ∙ sym (zero-mul (10 ^ d)))
saturates (suc m) d p r e f = go (leb (10 ^ d) 18446744073709551615) refl (leb (suc m * 10 ^ d) 18446744073709551615) refl
  where
    go : (t : Bool) → leb (10 ^ d) 18446744073709551615 ≡ t → (u : Bool) → leb (suc m * 10 ^ d) 18446744073709551615 ≡ u → Scaled (suc m) d r
    go true h u g =
        let k = leb-true (10 ^ d) 18446744073709551615 h in
        let q : p ≡ 10 ^ d = omega arith in
        product u g (rw q at f)
      where
        product : (u : Bool) → leb (suc m * 10 ^ d) 18446744073709551615 ≡ u → r ≡ min (suc m * 10 ^ d) 18446744073709551615 → Scaled (suc m) d r
        product true g f = inl (omega (arith, leb-true (suc m * 10 ^ d) 18446744073709551615 g))
        product false g f = let k = leb-false (suc m * 10 ^ d) 18446744073709551615 g in inr (omega arith, omega arith)
    go false h u g =
        let k = leb-false (10 ^ d) 18446744073709551615 h in
        let q : p ≡ 18446744073709551615 = omega arith in
        inr (omega (arith, rw q at f), omega (arith, suc-mul m (10 ^ d)))

-- a size is 0 exactly where its mantissa is
pub units_pos : (m p : ℕ) → 0 < m → 0 < m * 10 ^ p
units_pos m p h = mul-pos h (ten_pos p)

-- ---- hundredths

large : (h : ℕ) → 4294967296 ≤ h → counted_of h ≡ None
unfolding counted_of pick
large h k = rw (le-leb 4294967296 h k)

-- the count that a conversion to a u32 gives
pub converted : {E : Type 0} (r : Result ℕ E) (v : ℕ) → OkIff r (v < 4294967296) v → result_ok r ≡ counted_of v
unfolding counted_of pick
converted (Ok x) v w = rw (lt-leb 4294967296 v w.0) (ap Some w.1)
converted (Err x) v w = sym (large v (omega (arith, w)))

-- what is scaled beyond a u32 is no count that it can hold
pub counted_scaled : (m d r : ℕ) → Scaled m d r → counted_of r ≡ counted_of (m * 10 ^ d)
counted_scaled m d r (inl e) = ap counted_of e
counted_scaled m d r (inr w) = large r (omega (arith, w.0)) ∙ sym (large (m * 10 ^ d) (omega (arith, w.1)))

-- 10 ^ 12 hundredths and more: whole
pub whole_above : (m p : ℕ) → 12 ≤ p → m * 10 ^ p % 10 ^ 12 ≡ 0
whole_above m p h = rw (ten_split m 12 p h) (mul-mod_left (m * 10 ^ (p - 12)) (10 ^ 12))

pub count_above : (m p : ℕ) → 12 ≤ p → m * 10 ^ p / 10 ^ 12 ≡ m * 10 ^ (p - 12)
count_above m p h = rw (ten_split m 12 p h) (mul-div_left (m * 10 ^ (p - 12)) (ten_pos 12))

twelve : (p : ℕ) → p ≤ 12 → 10 ^ 12 ≡ 10 ^ (12 - p) * 10 ^ p
twelve p h = let e : 12 ≡ 12 - p + p = omega arith in ap (λ (k : ℕ). 10 ^ k) e ∙ pow-add 10 (12 - p) p

-- below that, whole exactly where the mantissa divides
pub whole_below : (m p : ℕ) → p ≤ 12 → eqb (m * 10 ^ p % 10 ^ 12) 0 ≡ eqb (m % 10 ^ (12 - p)) 0
whole_below m p h = go (eqb (m % 10 ^ (12 - p)) 0) refl
  where
    go : (t : Bool) → eqb (m % 10 ^ (12 - p)) 0 ≡ t → eqb (m * 10 ^ p % 10 ^ 12) 0 ≡ eqb (m % 10 ^ (12 - p)) 0
    go true e =
        let d = mul-dvd-mul_right (10 ^ (12 - p)) (dvd_of_mod-eq-zero (10 ^ (12 - p)) (eqb-true (m % 10 ^ (12 - p)) 0 e)) (10 ^ p) in
        eq-eqb (m * 10 ^ p % 10 ^ 12) 0 (rw (twelve p h) (mod-eq-zero_of_dvd (10 ^ (12 - p) * 10 ^ p) d)) ∙ sym e
    go false e =
        ne_eqb (m * 10 ^ p % 10 ^ 12) 0 (λ z. eqb-false _ _ e
        (mod-eq-zero_of_dvd (10 ^ (12 - p)) (dvd_of_mul-dvd-mul_right (10 ^ (12 - p)) (ten_pos p) (dvd_of_mod-eq-zero (10 ^ (12 - p) * 10 ^ p) (rw (twelve p h) at z))))) ∙ sym e

pub count_below : (m p : ℕ) → p ≤ 12 → m * 10 ^ p / 10 ^ 12 ≡ m / 10 ^ (12 - p)
count_below m p h =
    rw (twelve p h) (mul-div-mul_right m (10 ^ (12 - p)) (ten_pos p))

pub ruleset hundredths = (nat_tests, ten_pos, counted_scaled, converted, whole_above, count_above, whole_below, count_below)

-- ---- how many digits

-- with steps enough: n is below 10 ^ z, and not below 10 ^ (z - 1)
high_in : (k : ℕ) (b : Bool) (n : ℕ) → ltb n 10 ≡ b → n ≤ k → n < 10 ^ digits_in k b n
high_in zero b n e h = omega arith
high_in (suc k) true n e h = ltb-true n 10 e
high_in (suc k) false n e h =
    rw (ten_step (digits_in k (ltb (n / 10) 10) (n / 10))) (omega (arith, high_in k (ltb (n / 10) 10) (n / 10) refl (omega (arith, ltb-false n 10 e))))

low_in : (k : ℕ) (b : Bool) (n : ℕ) → ltb n 10 ≡ b → 0 < n → 10 ^ digits_in k b n ≤ n * 10
low_in zero b n e h = omega arith
low_in (suc k) true n e h = omega arith
low_in (suc k) false n e h =
    rw (ten_step (digits_in k (ltb (n / 10) 10) (n / 10))) (omega (arith, low_in k (ltb (n / 10) 10) (n / 10) refl (omega (arith, ltb-false n 10 e))))

pub size_high : (n : ℕ) → n < 10 ^ size_of n
unfolding size_of
size_high n = high_in n (ltb n 10) n refl (omega arith)

pub size_low : (n : ℕ) → 0 < n → 10 ^ size_of n ≤ n * 10
unfolding size_of
size_low n h = low_in n (ltb n 10) n refl h

-- a number below 10 has one digit
pub size_one : (n : ℕ) → n < 10 → size_of n ≡ 1
unfolding size_of
size_one zero h = refl
size_one (suc n) h = rw (lt-ltb (suc n) 10 h)

-- a smaller power of ten is smaller
less_power : (a b : ℕ) → 10 ^ a < 10 ^ b → a < b
less_power a b h = go (ltb a b) refl
  where
    go : (t : Bool) → ltb a b ≡ t → a < b
    go true e = ltb-true a b e
    go false e = absurd (omega (arith, ten_max b a (ltb-false a b e)))

-- a number that is not 0 and below 10 ^ z has at most z digits
pub size_most : (n z : ℕ) → 0 < n → n < 10 ^ z → size_of n ≤ z
size_most n z h k = omega (arith, less_power (size_of n) (z + 1) (rw (ten_step z) (omega (arith, size_low n h))))

-- and z + 1 where it is from 10 ^ z to below ten times that: no other number of digits does
pub size_is : (n z : ℕ) → 10 ^ z ≤ n → n < 10 * 10 ^ z → size_of n ≡ z + 1
size_is n z h k =
    omega (arith, size_most n (z + 1) (omega (arith, ten_pos z)) (rw (ten_step z) (omega arith)), less_power z (size_of n) (omega (arith, size_high n)))

-- a size is not 0 exactly where its mantissa is not
pub some_size : (m p : ℕ) → not (eqb m 0) ≡ ltb 0 (m * 10 ^ p)
some_size zero p = sym (ap (ltb 0) (zero-mul (10 ^ p)))
some_size (suc m) p = ap not (eqb-suc-zero m) ∙ sym (lt-ltb 0 (suc m * 10 ^ p) (units_pos (suc m) p (omega arith)))

pub ruleset some_units = (nat_tests, units_pos, some_size)

-- ---- two groups of digits as one

pub joined_low : (d v n k : ℕ) → d < 10 ^ n → v < 10 ^ k → d * 10 ^ k + v < 10 ^ (n + k)
joined_low d v n k h g = rw (pow-add 10 n k) (omega (arith, rw (suc-mul d (10 ^ k)) at (mul-le-mul_right (10 ^ k) h)))

-- at most six digits fit a u32
pub joined_six : (d v n k : ℕ) → d < 10 ^ n → v < 10 ^ k → n + k ≤ 6 → d * 10 ^ k + v < 1000000
joined_six d v n k h g m = omega (arith, joined_low d v n k h g, ten_max (n + k) 6 m)
