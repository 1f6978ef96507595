-- The division of polynomials, a byte at a time.
use mathlib.Core.Path.{◌≡◌, refl, sym, ap, ap₂, ◌∙◌}
use mathlib.Core.Bool.{Bool, true, false, cond, xor}
use mathlib.Core.List.{List, [], ◌∷◌, ◌++◌, append_assoc}
use Prim.Native.Nat.{ℕ, zero, suc, ◌+◌, ◌*◌, ◌/◌, ◌%◌, ◌^◌, ◌<◌, ◌≤◌}
use native.Mathlib.Nat.{zero-add, suc-add, pow-suc, pow-le-pow_right}
use native.Mathlib.Omega.{arith}
use lib.Bits.{bit_xor, differ, xor_step, xor_shr, xor_mod, xor_lt, xor_zero_r, xor_shifted, shifted_half, shifted_even, xor_comm}
use lib.Dec.{eqb}
use lib.ListN.{length, get_or, drop, replicate, drop_of_length-le}
use Rattle.buffer.proofs.Laws.{drop_step}
use Rattle.opg_crc.specs.Crc.{plus, divisor, remainder, digits, number, message, crc_from}
use Rattle.opg_crc.specs.Inner.{bit_of, bits_of, byte_of}

-- ---- sums mod 2

xor_false : (x : Bool) → xor x false ≡ x
unfolding xor
xor_false true = refl
xor_false false = refl

false_xor : (x : Bool) → xor false x ≡ x
unfolding xor
false_xor true = refl
false_xor false = refl

xor_digit : (x : Bool) (d e : ℕ) → d < 2 → e < 2 → xor (xor x (eqb d 1)) (eqb e 1) ≡ xor x (eqb (bit_xor d e) 1)
unfolding xor
xor_digit true zero zero h k = refl
xor_digit true zero (suc zero) h k = refl
xor_digit true (suc zero) zero h k = refl
xor_digit true (suc zero) (suc zero) h k = refl
xor_digit false zero zero h k = refl
xor_digit false zero (suc zero) h k = refl
xor_digit false (suc zero) zero h k = refl
xor_digit false (suc zero) (suc zero) h k = refl
xor_digit x (suc (suc d)) e h k = absurd (omega arith)
xor_digit x zero (suc (suc e)) h k = absurd (omega arith)
xor_digit x (suc zero) (suc (suc e)) h k = absurd (omega arith)

-- two numbers added one after the other are their exclusive or, added
plus_plus : (k a b : ℕ) (p : List Bool) → plus (plus p (digits k a)) (digits k b) ≡ plus p (digits k (bit_xor a b))
unfolding plus digits
plus_plus zero a b p = refl
plus_plus (suc k) a b [] = refl
plus_plus (suc k) a b (x ∷ p) =
    ap₂ (λ (y : Bool) (q : List Bool). y ∷ q)
    (xor_digit x (a % 2) (b % 2) (omega arith) (omega arith) ∙ ap (λ (n : ℕ). xor x (eqb n 1)) (sym (xor_mod a b 1)))
    (plus_plus k (a / 2) (b / 2) p ∙ ap (λ (n : ℕ). plus p (digits k n)) (sym (xor_shr a b 1)))

-- a digit past a number's last is 0
longer : (k d : ℕ) (p : List Bool) → d < 2 ^ k → plus p (digits k d) ≡ plus p (digits (suc k) d)
unfolding plus digits
longer zero d [] h = refl
longer zero d (x ∷ p) h =
    let e : d ≡ 0 = omega arith in
    rw e (ap (λ (y : Bool). y ∷ p) (sym (xor_false x)))
longer (suc k) d [] h = refl
longer (suc k) d (x ∷ p) h = ap (λ (q : List Bool). xor x (eqb (d % 2) 1) ∷ q) (longer k (d / 2) p (omega (arith, pow-suc 2 k)))

longer_by : (j k d : ℕ) (p : List Bool) → d < 2 ^ k → plus p (digits k d) ≡ plus p (digits (j + k) d)
longer_by zero k d p h = rw zero-add
longer_by (suc j) k d p h =
    let up : 2 ^ k ≤ 2 ^ (j + k) = pow-le-pow_right {n = 2} (omega arith) (omega arith) in
    rw suc-add (longer_by j k d p h ∙ longer (j + k) d p (omega (arith, up)))

-- digits added to as many zeros
onto_zeros : (k b : ℕ) (t : List Bool) → plus (replicate k false ++ t) (digits k b) ≡ digits k b ++ t
unfolding plus digits
onto_zeros zero b t = refl
onto_zeros (suc k) b t = ap₂ (λ (y : Bool) (q : List Bool). y ∷ q) (false_xor (eqb (b % 2) 1)) (onto_zeros k (b / 2) t)

-- ---- steps of the division

bit_lt : (c : ℕ) → c < 65536 → bit_of c < 65536
unfolding bit_of
bit_lt c h = go (eqb (c % 2) 1)
  where
    go : (t : Bool) → cond t (bit_xor (c / 2) 0x8408) (c / 2) < 65536
    go true = xor_lt 16 (c / 2) 0x8408 (omega arith) (omega arith)
    go false = omega arith

divides : (n c : ℕ) (p : List Bool) → c < 65536 → remainder (suc n) (plus (false ∷ p) (digits 16 c)) ≡ remainder n (plus p (digits 16 (bit_of c)))
unfolding plus digits remainder bit_of
divides n c p h = rw (false_xor (eqb (c % 2) 1)) (go (eqb (c % 2) 1))
  where
    go : (t : Bool) → remainder (suc n) (t ∷ plus p (digits 15 (c / 2))) ≡ remainder n (plus p (digits 16 (cond t (bit_xor (c / 2) 0x8408) (c / 2))))
    go true = ap (λ (q : List Bool). remainder n (plus q divisor)) (longer 15 (c / 2) p (omega arith)) ∙ ap (remainder n) (plus_plus 16 (c / 2) 0x8408 p)
    go false = ap (remainder n) (longer 15 (c / 2) p (omega arith))

divides_by : (j n c : ℕ) (p : List Bool) → c < 65536
    → remainder (j + n) (plus (replicate j false ++ p) (digits 16 c)) ≡ remainder n (plus p (digits 16 (bits_of j c)))
unfolding bits_of
divides_by zero n c p h = rw zero-add
divides_by (suc j) n c p h = rw suc-add (divides (j + n) c (replicate j false ++ p) h ∙ divides_by j n (bit_of c) p (bit_lt c h))

-- a byte's digits are taken into the number before its steps
takes : (b c : ℕ) (p : List Bool) → b < 256 → plus (digits 8 b ++ p) (digits 16 c) ≡ plus (replicate 8 false ++ p) (digits 16 (bit_xor b c))
takes b c p h =
    ap (λ (q : List Bool). plus q (digits 16 c)) (sym (onto_zeros 8 b p) ∙ longer_by 8 8 b (replicate 8 false ++ p) h)
    ∙ plus_plus 16 b c (replicate 8 false ++ p)

crc_byte : (c b : ℕ) (s : List ℕ) → c < 65536 → b < 256 → crc_from c (b ∷ s) ≡ crc_from (byte_of c b) s
unfolding crc_from byte_of message
crc_byte c b s h k =
    let n : suc (length s) * 8 ≡ 8 + length s * 8 = omega arith in
    rw (n, append_assoc (digits 8 b) (message s) (replicate 16 false), takes b c (message s ++ replicate 16 false) k)
    (ap number (divides_by 8 (length s * 8) (bit_xor b c) (message s ++ replicate 16 false) (xor_lt 16 b c (omega arith) (omega arith))))

number_digits : (k n : ℕ) → n < 2 ^ k → number (digits k n) ≡ n
unfolding number digits
number_digits zero n h = omega arith
number_digits (suc k) n h =
    ap₂ (λ (a b : ℕ). a * 2 + b) (number_digits k (n / 2) (omega (arith, pow-suc 2 k))) (low (n % 2) (omega arith)) ∙ omega arith
  where
    low : (d : ℕ) → d < 2 → cond (eqb d 1) 1 0 ≡ d
    low zero e = refl
    low (suc zero) e = refl
    low (suc (suc d)) e = omega arith

-- ---- for the loop

pub byte_lt : (c b : ℕ) → c < 65536 → b < 256 → byte_of c b < 65536
unfolding byte_of bits_of
byte_lt c b h k = go 8 (bit_xor b c) (xor_lt 16 b c (omega arith) (omega arith))
  where
    go : (j n : ℕ) → n < 65536 → bits_of j n < 65536
    go zero n e = e
    go (suc j) n e = go j (bit_of n) (bit_lt n e)

pub crc_step : (c : ℕ) (s : List ℕ) (i : ℕ) → i < length s → c < 65536 → get_or s i 0 < 256
    → crc_from c (drop i s) ≡ crc_from (byte_of c (get_or s i 0)) (drop (i + 1) s)
crc_step c s i h k b = ap (crc_from c) (drop_step s i h) ∙ crc_byte c (get_or s i 0) (drop (i + 1) s) k b

pub crc_end : (c : ℕ) (s : List ℕ) (i : ℕ) → length s ≤ i → c < 65536 → crc_from c (drop i s) ≡ c
unfolding crc_from remainder message digits
crc_end c s i h k =
    ap (crc_from c) (drop_of_length-le s h)
    ∙ ap number (onto_zeros 16 c []) ∙ ap number (nil 16 c) ∙ number_digits 16 c k
  where
    nil : (k n : ℕ) → digits k n ++ [] ≡ digits k n
    nil zero n = refl
    nil (suc k) n = ap (λ (q : List Bool). eqb (n % 2) 1 ∷ q) (nil k (n / 2))

-- ---- eight steps at once

differ_swap : (d e f : ℕ) → d < 2 → e < 2 → f < 2 → differ (bit_xor d e) f ≡ differ (bit_xor d f) e
differ_swap zero zero zero h k l = refl
differ_swap zero zero (suc zero) h k l = refl
differ_swap zero (suc zero) zero h k l = refl
differ_swap zero (suc zero) (suc zero) h k l = refl
differ_swap (suc zero) zero zero h k l = refl
differ_swap (suc zero) zero (suc zero) h k l = refl
differ_swap (suc zero) (suc zero) zero h k l = refl
differ_swap (suc zero) (suc zero) (suc zero) h k l = refl
differ_swap (suc (suc d)) e f h k l = absurd (omega arith)
differ_swap zero (suc (suc e)) f h k l = absurd (omega arith)
differ_swap (suc zero) (suc (suc e)) f h k l = absurd (omega arith)
differ_swap zero zero (suc (suc f)) h k l = absurd (omega arith)
differ_swap zero (suc zero) (suc (suc f)) h k l = absurd (omega arith)
differ_swap (suc zero) zero (suc (suc f)) h k l = absurd (omega arith)
differ_swap (suc zero) (suc zero) (suc (suc f)) h k l = absurd (omega arith)

-- the order of two exclusive ors does not matter
xor_swap : (k a b c : ℕ) → a < 2 ^ k → b < 2 ^ k → c < 2 ^ k → bit_xor (bit_xor a b) c ≡ bit_xor (bit_xor a c) b
xor_swap zero a b c h i j =
    let p : a ≡ 0 = omega arith in
    let q : b ≡ 0 = omega arith in
    let r : c ≡ 0 = omega arith in
    rw (p, q, r)
xor_swap (suc k) a b c h i j =
    let half = xor_swap k (a / 2) (b / 2) (c / 2) (omega (arith, pow-suc 2 k)) (omega (arith, pow-suc 2 k)) (omega (arith, pow-suc 2 k)) in
    xor_step (bit_xor a b) c ∙ ap₂ (λ (x y : ℕ). bit_xor x (c / 2) * 2 + differ y (c % 2)) (xor_shr a b 1) (xor_mod a b 1)
    ∙ ap₂ (λ (x y : ℕ). x * 2 + y) half (differ_swap (a % 2) (b % 2) (c % 2) (omega arith) (omega arith) (omega arith))
    ∙ ap₂ (λ (x y : ℕ). bit_xor x (b / 2) * 2 + differ y (b % 2)) (sym (xor_shr a c 1)) (sym (xor_mod a c 1)) ∙ sym (xor_step (bit_xor a c) b)

-- a number whose lowest digit is 0 goes through a step as its half
bit_even : (x y : ℕ) → y % 2 ≡ 0 → x < 65536 → y < 65536 → bit_of (bit_xor x y) ≡ bit_xor (bit_of x) (y / 2)
unfolding bit_of
bit_even x y e h k =
    let same : bit_xor x y % 2 ≡ x % 2 = xor_mod x y 1 ∙ ap (bit_xor (x % 2)) e ∙ xor_zero_r (x % 2) in
    ap₂ (λ (m n : ℕ). cond (eqb m 1) (bit_xor n 0x8408) n) same (xor_shr x y 1) ∙ go (eqb (x % 2) 1)
  where
    go : (t : Bool) → cond t (bit_xor (bit_xor (x / 2) (y / 2)) 0x8408) (bit_xor (x / 2) (y / 2)) ≡ bit_xor (cond t (bit_xor (x / 2) 0x8408) (x / 2)) (y / 2)
    go true = xor_swap 16 (x / 2) (y / 2) 0x8408 (omega arith) (omega arith) (omega arith)
    go false = refl

bits_high : (k x m : ℕ) → x < 65536 → m * 2 ^ k < 65536 → bits_of k (bit_xor x (m * 2 ^ k)) ≡ bit_xor (bits_of k x) m
unfolding bits_of
bits_high zero x m h l =
    let e : m * 2 ^ 0 ≡ m = omega arith in
    rw e
bits_high (suc k) x m h l =
    ap (bits_of k) (bit_even x (m * 2 ^ suc k) (shifted_even m k) h l ∙ ap (bit_xor (bit_of x)) (shifted_half m k))
    ∙ bits_high k (bit_of x) m (bit_lt x h) (omega (arith, shifted_half m k))

-- eight steps: those of the low eight digits, and the high ones as they are
pub eight_steps : (x : ℕ) → x < 65536 → bit_xor (bits_of 8 (x % 256)) (x / 256) ≡ bits_of 8 x
eight_steps x h =
    let whole : x / 256 * 2 ^ 8 + x % 256 ≡ x = omega arith in
    sym (bits_high 8 (x % 256) (x / 256) (omega arith) (omega arith))
    ∙ ap (bits_of 8) (xor_comm (x % 256) (x / 256 * 2 ^ 8) ∙ xor_shifted (x / 256) 8 (x % 256) (omega arith) ∙ whole)
