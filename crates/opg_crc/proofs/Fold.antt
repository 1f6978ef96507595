-- Eight steps at once: for the low eight digits the rule is a test at each of their 256 values, which is computed.
use mathlib.Core.Path.{◌≡◌, sym, ap, ap₂, subst, ◌∙◌}
use mathlib.Core.Bool.{Bool, true, false, cond}
use mathlib.Core.Logic.{inl, inr}
use Prim.Native.Nat.{ℕ, zero, suc, ◌*◌, ◌/◌, ◌%◌, ◌^◌, ◌<◌}
use native.Mathlib.Nat.{le_of_suc-le-suc, not-suc-le-zero, eq-or-lt_of_le}
use native.Mathlib.Omega.{arith}
use lib.Bits.{bit_xor, xor_mod, xor_lt}
use lib.Dec.{T, eqb, eqb→eq}
use Rattle.opg_crc.specs.Inner.{bit_of, bits_of, byte_of}
use Rattle.opg_crc.proofs.Laws.{eight_steps}

-- which of eight steps subtract the divisor
abbrev subtracted : ℕ → ℕ
subtracted x = bit_xor x (x * 16) % 256

-- and what they subtract
abbrev moved : ℕ → ℕ
moved y = bit_xor (bit_xor (y * 256) (y * 8)) (y / 16)

-- ---- a test of every number below n

abbrev both : Bool → Bool → Bool
both a b = cond a b false

both_left : (a b : Bool) → T (both a b) → T a
both_left true b t = tt
both_left false b t = t

both_right : (a b : Bool) → T (both a b) → T b
both_right true b t = t
both_right false b t = absurd t

abbrev every : (ℕ → Bool) → ℕ → Bool
every f zero = true
every f (suc n) = both (f n) (every f n)

passes : (f : ℕ → Bool) (n : ℕ) → T (every f n) → (k : ℕ) → k < n → T (f k)
passes f zero t k h = absurd (not-suc-le-zero h)
passes f (suc n) t k h =
    elim (eq-or-lt_of_le (le_of_suc-le-suc h)) [
      | inl e ↦ subst (λ (m : ℕ). T (f m)) (sym e) (both_left (f n) (every f n) t)
      | inr l ↦ passes f n (both_right (f n) (every f n) t) k l
    ]

-- ---- the rule

right : ℕ → Bool
right x = eqb (moved (subtracted x)) (bits_of 8 x)

computed : T (every right 256)
unfolding right bits_of bit_of
computed = tt

low_digits : (x : ℕ) → x < 256 → moved (subtracted x) ≡ bits_of 8 x
unfolding right
low_digits x h = eqb→eq (moved (subtracted x)) (bits_of 8 x) (passes right 256 computed x h)

-- only the low eight digits count
low_alone : (x : ℕ) → subtracted x ≡ subtracted (x % 256)
low_alone x =
    xor_mod x (x * 16) 8 ∙ ap₂ (λ (m n : ℕ). bit_xor m n) same times ∙ sym (xor_mod (x % 256) (x % 256 * 16) 8)
  where
    same : x % 2 ^ 8 ≡ x % 256 % 2 ^ 8
    same = omega arith

    times : x * 16 % 2 ^ 8 ≡ x % 256 * 16 % 2 ^ 8
    times = omega arith

-- a byte's eight steps
pub byte_is : (c b : ℕ) → c < 65536 → b < 256 → bit_xor (moved (subtracted (bit_xor b c))) (bit_xor b c / 256) ≡ byte_of c b
unfolding byte_of
byte_is c b h k =
    let x = bit_xor b c in
    ap (λ (n : ℕ). bit_xor n (x / 256)) (ap moved (low_alone x) ∙ low_digits (x % 256) (omega arith))
    ∙ eight_steps x (xor_lt 16 b c (omega arith) (omega arith))
