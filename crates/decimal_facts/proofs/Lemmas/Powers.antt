-- Lemmas on powers of ten and on how many digits a number has.
use mathlib.Core.Path.{◌≡◌, refl, sym, ap, ◌∙◌}
use mathlib.Core.Bool.{Bool, true, false}
use Prim.Native.Nat.{ℕ, suc, ◌+◌, ◌-◌, ◌*◌, ◌^◌, ◌%◌, ◌<◌, ◌≤◌}
use native.Mathlib.Nat.{le_of_mul-le-mul_right, lt_of_mul-lt-mul_right, mul-lt-mul_of_pos_right, mul-le-mul_right, mul-mod_left, mul_assoc, eq_of_mul-eq-mul_right, le-mul_of_pos_right}
use native.Mathlib.Omega.{arith}
use borrow.Author.Tests.{leb-true, leb-false}
use lib.Dec.{leb}
use lib.Pow.{pow-add}
use Rattle.buffer.proofs.Laws.{ten_max}
use Rattle.decimal.specs.Exact.{size_of}
use Rattle.decimal.proofs.Sizes.{ten_pos, ten_split, size_low}
use Rattle.decimal_facts.specs.Canonical.{SixDigits}

-- ---- how many digits

-- d of z digits, and its six digits m
module _ (d z m : ℕ) (q : m * 10 ^ z ≡ d * 10 ^ 6) where
  pub six_low : 10 ^ z ≤ d * 10 → 100000 ≤ m
  six_low h = le_of_mul-le-mul_right (omega arith) (ten_pos z)

  pub six_high : d < 10 ^ z → m < 1000000
  six_high h = lt_of_mul-lt-mul_right (10 ^ z) (omega arith)

  pub six_same : (up down : ℕ) → down ≤ z + 8 + up → m * 10 ^ (z + 8 + up - down) * 10 ^ down ≡ d * 10 ^ up * 10 ^ 14
  six_same up down h =
      let e : m * 10 ^ z * 10 ^ up ≡ d * 10 ^ 6 * 10 ^ up = ap (λ (k : ℕ). k * 10 ^ up) q in
      sym (ten_split m down (z + 8 + up) h) ∙ rw (pow-add 10 (z + 8) up, pow-add 10 z 8) (omega arith)

-- the same value at two places, the first of at most six digits
pub six_equal : (m a d b : ℕ) → m < 10 ^ 6 → m * 10 ^ a ≡ d * 10 ^ b → SixDigits d
six_equal m a d b h q = go (leb b a) refl
  where
    go : (t : Bool) → leb b a ≡ t → SixDigits d
    go true e =
        let w : m * 10 ^ (a - b) * 10 ^ b ≡ d * 10 ^ b = sym (ten_split m b a (leb-true b a e)) ∙ q in
        (m, a - b, h, sym (eq_of_mul-eq-mul_right (10 ^ b) (ten_pos b) (m * 10 ^ (a - b)) d w))
    go false e =
        let l : a ≤ b = omega (arith, leb-false b a e) in
        let w : m * 10 ^ a ≡ d * 10 ^ (b - a) * 10 ^ a = q ∙ ten_split d a b l in
        (d, 0, omega (arith, le-mul_of_pos_right d (ten_pos (b - a)), eq_of_mul-eq-mul_right (10 ^ a) (ten_pos a) m (d * 10 ^ (b - a)) w), omega arith)

-- a number of at most six digits, and zeros, has a size of at most six more than the zeros
size_six : (z d m k : ℕ) → 10 ^ z ≤ d * 10 → m < 10 ^ 6 → d ≡ m * 10 ^ k → z ≤ k + 6
size_six z d m k h l q = go (leb (k + 7) z) refl
  where
    go : (b : Bool) → leb (k + 7) z ≡ b → z ≤ k + 6
    go true e = omega (arith, mul-lt-mul_of_pos_right l (ten_pos k), pow-add 10 k 7, ten_max (k + 7) z (leb-true (k + 7) z e))
    go false e = omega (arith, leb-false (k + 7) z e)

pub six_divides : (d : ℕ) → 0 < d → SixDigits d → d * 10 ^ 6 % 10 ^ size_of d ≡ 0
six_divides d h w =
    let z = size_of d in
    let m = w.0 in
    let k = w.1 in
    let q : d ≡ m * 10 ^ k = w.3 in
    let l : z ≤ k + 6 = size_six z d m k (size_low d h) w.2 q in
    let e : d * 10 ^ 6 ≡ m * 10 ^ (k + 6 - z) * 10 ^ z = omega (arith, rw (pow-add 10 k 6) at (ten_split m z (k + 6) l)) in
    rw e (mul-mod_left (m * 10 ^ (k + 6 - z)) (10 ^ z))

-- ---- below 10^-9, at least 10^10

module _ (d z up down : ℕ) where
  pub small : d < 10 ^ z → z + 8 + up < down → d * 10 ^ (up + 9) < 10 ^ down
  small h k = omega (arith, mul-lt-mul_of_pos_right h (ten_pos (up + 9)), pow-add 10 z (up + 9), ten_max (z + (up + 9)) down (omega arith))

  pub large : 10 ^ z ≤ d * 10 → down + 19 ≤ z + 8 + up → 10 ^ (down + 10) ≤ d * 10 ^ up
  large h k = omega (arith, mul-le-mul_right (10 ^ up) h, pow-add 10 z up, ten_max (suc (down + 10)) (z + up) (omega arith))

-- u 10^-14 that are d * 10 ^ up / 10 ^ down
module _ (u d up down : ℕ) (q : u * 10 ^ down ≡ d * 10 ^ up * 10 ^ 14) where
  pub not_small : 10 ^ 5 ≤ u → d * 10 ^ (up + 9) < 10 ^ down → ⊥
  not_small h k = omega (arith, mul-le-mul_right (10 ^ down) h, rw (pow-add 10 up 9) at k)

  pub not_large : u < 10 ^ 24 → 10 ^ (down + 10) ≤ d * 10 ^ up → ⊥
  not_large h k = omega (arith, mul-lt-mul_of_pos_right h (ten_pos down), pow-add 10 down 10)

-- ---- six digits at a place

pub units_low : (m p : ℕ) → 100000 ≤ m → 10 ^ 5 ≤ m * 10 ^ p
units_low m p h = omega (arith, mul-le-mul_right (10 ^ p) h, ten_pos p)

pub units_high : (m p : ℕ) → m < 1000000 → p ≤ 18 → m * 10 ^ p < 10 ^ 24
units_high m p h k = omega (arith, mul-lt-mul_of_pos_right h (ten_pos p), ten_max p 18 k)

place_le : (m p n r : ℕ) → 100000 ≤ m → n < 1000000 → m * 10 ^ p ≡ n * 10 ^ r → p ≤ r
place_le m p n r h k q = go (leb (r + 1) p) refl
  where
    go : (b : Bool) → leb (r + 1) p ≡ b → p ≤ r
    go true e =
        absurd (omega (arith, mul-le-mul_right (10 ^ p) h, mul-lt-mul_of_pos_right k (ten_pos r), pow-add 10 r 1, ten_max (r + 1) p (leb-true (r + 1) p e)))
    go false e = omega (arith, leb-false (r + 1) p e)

-- one value, one place and one mantissa
module _ (m p n r : ℕ) (low-m : 100000 ≤ m) (high-m : m < 1000000) (low-n : 100000 ≤ n) (high-n : n < 1000000) (q : m * 10 ^ p ≡ n * 10 ^ r) where
  pub same_place : p ≡ r
  same_place = omega (arith, place_le m p n r low-m high-n q, place_le n r m p low-n high-m (sym q))

  pub same_mantissa : m ≡ n
  same_mantissa = eq_of_mul-eq-mul_right (10 ^ r) (ten_pos r) m n (rw same_place at q)

-- ---- digits moved by powers of ten

moved : (d a b : ℕ) → d * 10 ^ a * 10 ^ b ≡ d * 10 ^ (a + b)
moved d a b = rw (pow-add 10 a b) (mul_assoc d (10 ^ a) (10 ^ b))

pub moved_same : (d m a b c e : ℕ) → m ≡ d * 10 ^ a → a + b + c ≡ e + 14 → m * 10 ^ b * 10 ^ c ≡ d * 10 ^ e * 10 ^ 14
moved_same d m a b c e q h = rw (q, moved d a b, moved d (a + b) c, h) (sym (moved d e 14))
