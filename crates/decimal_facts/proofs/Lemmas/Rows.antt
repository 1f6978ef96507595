-- Lemmas on the rows of `normal_of`, on canonical numbers and on hundredths.
use mathlib.Core.Path.{◌≡◌, refl, sym, ap, ◌∙◌}
use mathlib.Core.Bool.{Bool, true, false, cond, not}
use mathlib.Core.Logic.{◌⊎◌, inl, inr}
use Prim.Native.Nat.{ℕ, ◌+◌, ◌-◌, ◌*◌, ◌/◌, ◌%◌, ◌^◌, ◌<◌}
use native.Mathlib.Nat.{div-add-mod', eq_of_mul-eq-mul_right, mul-pos, mul-mod_left, mul-div_left}
use native.Mathlib.Omega.{arith}
use borrow.Author.Tests.{lt-leb, ltb-true, ltb-false, leb-true, leb-false, eqb-true, eqb-false, not-true, not-false}
use lib.Dec.{ltb, leb, eqb}
use lib.Pow.{pow-add}
use Rattle.std.specs.Prelude.{Err, None, Ok, Option, Result, Some}
use Rattle.buffer.specs.First.{pick}
use Rattle.buffer.proofs.Rules.{each}
use Rattle.decimal.specs.Exact.{units, zero_number, size_of, normal_of}
use Rattle.decimal.specs.Number.{counted_of, hundredths_of}
use Rattle.decimal.specs.declared.Number.{Number}
use Rattle.decimal.specs.declared.Exact.{Exact}
use Rattle.decimal.proofs.Sizes.{ten_pos, size_low, size_high, units_pos}
use Rattle.decimal_facts.specs.Canonical.{Full, Canonical, Exactly, TooSmall, TooLarge, SixDigits, ParsesAs, nothing, number, outside, uneven}
use Rattle.decimal_facts.proofs.Lemmas.Powers.{six_low, six_high, six_same, six_equal, six_divides, small, large, not_small, not_large, units_low, units_high, same_place, same_mantissa}
use Rattle.decimal.specs.declared.NumberError.{NumberError}

-- ---- the rows of `normal_of`

-- the first six digits of x, at their place
abbrev six_of : Exact → Number
six_of x =
    record {
      negative = x.negative;
      mantissa = x.digits * 10 ^ 6 / 10 ^ size_of x.digits;
      place = size_of x.digits + 8 + x.up - x.down;
    }

module _ (x : Exact) (a : eqb x.digits 0 ≡ false) where
  some : 0 < x.digits
  some = omega (arith, eqb-false x.digits 0 a)

  row_uneven : not (eqb (x.digits * 10 ^ 6 % 10 ^ size_of x.digits) 0) ≡ true → ParsesAs x (Err NumberError.Syntax)
  row_uneven b = uneven some (λ w. eqb-false (x.digits * 10 ^ 6 % 10 ^ size_of x.digits) 0 (not-true _ b) (six_divides x.digits some w))

  module _ (b : not (eqb (x.digits * 10 ^ 6 % 10 ^ size_of x.digits) 0) ≡ false) where
    whole : x.digits * 10 ^ 6 / 10 ^ size_of x.digits * 10 ^ size_of x.digits ≡ x.digits * 10 ^ 6
    whole =
        let e = eqb-true (x.digits * 10 ^ 6 % 10 ^ size_of x.digits) 0 (not-false _ b) in
        omega (arith, div-add-mod' (x.digits * 10 ^ 6) (10 ^ size_of x.digits))

    six : SixDigits x.digits
    six = six_equal _ (size_of x.digits) x.digits 6 (six_high x.digits (size_of x.digits) _ whole (size_high x.digits)) whole

    row_small : ltb (size_of x.digits + 8 + x.up) x.down ≡ true → ParsesAs x (Err NumberError.Range)
    row_small c = outside some six (inl (small x.digits (size_of x.digits) x.up x.down (size_high x.digits) (ltb-true _ _ c)))

    row-large : leb (x.down + 19) (size_of x.digits + 8 + x.up) ≡ true → ParsesAs x (Err NumberError.Range)
    row-large c = outside some six (inr (large x.digits (size_of x.digits) x.up x.down (size_low x.digits some) (leb-true _ _ c)))

    row_number : ltb (size_of x.digits + 8 + x.up) x.down ≡ false → leb (x.down + 19) (size_of x.digits + 8 + x.up) ≡ false → ParsesAs x (Ok (six_of x))
    unfolding units
    row_number c e =
        let l = ltb-false (size_of x.digits + 8 + x.up) x.down c in
        let r = leb-false (x.down + 19) (size_of x.digits + 8 + x.up) e in
        let f : Full (six_of x) =
        record {
          low = six_low x.digits (size_of x.digits) _ whole (size_low x.digits some);
          high = six_high x.digits (size_of x.digits) _ whole (size_high x.digits);
          place = omega arith;
        } in
        number (six_of x) some (record { canonical = inr f; size = six_same x.digits (size_of x.digits) _ whole x.up x.down l; sign = λ _. refl })

pub rows : (x : Exact) → ParsesAs x (normal_of x)
unfolding normal_of
rows x =
    each (ParsesAs x) (eqb x.digits 0) (Ok zero_number) _ (λ a. nothing (eqb-true x.digits 0 a))
    (λ a. each (ParsesAs x) (not (eqb (x.digits * 10 ^ 6 % 10 ^ size_of x.digits) 0)) (Err NumberError.Syntax) _ (row_uneven x a)
    (λ b. each (ParsesAs x) (ltb (size_of x.digits + 8 + x.up) x.down) (Err NumberError.Range) _ (row_small x a b)
    (λ c. each (ParsesAs x) (leb (x.down + 19) (size_of x.digits + 8 + x.up)) (Err NumberError.Range) _ (row-large x a b) (row_number x a b c))))

-- ---- one value has one number

-- two signed sizes that are the same
pub signs : (s t : Bool) (u v : ℕ) → cond s 0 u + cond t v 0 ≡ cond t 0 v + cond s u 0 → (u ≡ v) × (0 < u → s ≡ t)
signs true true u v e = (omega arith, λ _. refl)
signs false false u v e = (omega arith, λ _. refl)
signs true false u v e = (omega arith, λ (h : 0 < u). absurd (omega arith))
signs false true u v e = (omega arith, λ (h : 0 < u). absurd (omega arith))

full_some : (n : Number) → Full n → 0 < units n
unfolding units
full_some n f = units_pos n.mantissa n.place (omega (arith, f.low))

fields : {a b : Number} → a.negative ≡ b.negative → a.mantissa ≡ b.mantissa → a.place ≡ b.place → a ≡ b
fields {a} {b} s m p =
    let e : ◌≡◌ {A = Number} (record { negative = a.negative; mantissa = a.mantissa; place = a.place }) b = rw (s, m, p) in
    e

full_same : (a b : Number) → Full a → Full b → units a ≡ units b → a.negative ≡ b.negative → a ≡ b
unfolding units
full_same a b f g q s =
    let p = same_place a.mantissa a.place b.mantissa b.place f.low f.high g.low g.high q in
    let m = same_mantissa a.mantissa a.place b.mantissa b.place f.low f.high g.low g.high q in
    fields s m p

pub canonical_same : (a b : Number) → Canonical a → Canonical b → units a ≡ units b → (0 < units a → a.negative ≡ b.negative) → a ≡ b
unfolding units
canonical_same a b (inl e) (inl f) q s = e ∙ sym f
canonical_same a b (inl e) (inr f) q s = absurd (omega (arith, full_some b f, ap units e))
canonical_same a b (inr e) (inl f) q s = absurd (omega (arith, full_some a e, ap units f))
canonical_same a b (inr e) (inr f) q s = full_same a b e f q (s (full_some a e))

-- ---- exact

exactly_same : (x : Exact) (a b : Number) → 0 < x.digits → Exactly x a → Exactly x b → a ≡ b
exactly_same x a b h f g =
    canonical_same a b f.canonical g.canonical (eq_of_mul-eq-mul_right (10 ^ x.down) (ten_pos x.down) (units a) (units b) (f.size ∙ sym g.size))
    (λ _. f.sign h ∙ sym (g.sign h))

-- where the size is not zero the number is not
exactly_full : (x : Exact) (n : Number) → 0 < x.digits → Exactly x n → Full n
unfolding units
exactly_full x n h f = go f.canonical
  where
    go : Canonical n → Full n
    go (inl e) = absurd (omega (arith, units_pos x.digits x.up h, rw e at f.size))
    go (inr g) = g

exactly_six : (x : Exact) (n : Number) → 0 < x.digits → Exactly x n → SixDigits x.digits
unfolding units
exactly_six x n h f =
    let g = exactly_full x n h f in
    six_equal n.mantissa (n.place + x.down) x.digits (x.up + 14) g.high (rw (pow-add 10 n.place x.down, pow-add 10 x.up 14) (omega (arith, f.size)))

exactly_within : (x : Exact) (n : Number) → 0 < x.digits → Exactly x n → TooSmall x ⊎ TooLarge x → ⊥
unfolding units
exactly_within x n h f w = go (exactly_full x n h f) w
  where
    go : Full n → TooSmall x ⊎ TooLarge x → ⊥
    go g (inl k) = not_small (units n) x.digits x.up x.down f.size (units_low n.mantissa n.place g.low) k
    go g (inr k) = not_large (units n) x.digits x.up x.down f.size (units_high n.mantissa n.place g.high (omega (arith, g.place))) k

-- zero is the number of no digits, and of them alone
pub zero_exactly : (x : Exact) → x.digits ≡ 0 → Exactly x zero_number
unfolding units
zero_exactly x z = record { canonical = inl refl; size = rw z (omega arith); sign = λ (h : 0 < x.digits). absurd (omega arith) }

pub exactly_none : (x : Exact) → Exactly x zero_number → x.digits ≡ 0
exactly_none x f = go (eqb x.digits 0) refl
  where
    go : (b : Bool) → eqb x.digits 0 ≡ b → x.digits ≡ 0
    go true e = eqb-true x.digits 0 e
    go false e = absurd (omega (arith, (exactly_full x zero_number (omega (arith, eqb-false x.digits 0 e)) f).low))

exactly_zero : (x : Exact) (n : Number) → x.digits ≡ 0 → Exactly x n → zero_number ≡ n
exactly_zero x n z f = go f.canonical
  where
    go : Canonical n → zero_number ≡ n
    go (inl e) = sym e
    go (inr g) = absurd (omega (arith, mul-pos (full_some n g) (ten_pos x.down), rw z at f.size))

pub answered_exactly : (x : Exact) (n : Number) (r : Result Number NumberError) → ParsesAs x r → r ≡ Ok n → Exactly x n
answered_exactly x n r (nothing z) e = let w : zero_number ≡ n = cc in rw (← w) (zero_exactly x z)
answered_exactly x n r (number m h f) e = let w : m ≡ n = cc in rw (← w) f
answered_exactly x n r (outside h w o) e = cc
answered_exactly x n r (uneven h w) e = cc

pub exactly_answered : (x : Exact) (n : Number) (r : Result Number NumberError) → ParsesAs x r → Exactly x n → r ≡ Ok n
exactly_answered x n r (nothing z) f = ap Ok (exactly_zero x n z f)
exactly_answered x n r (number m h g) f = ap Ok (exactly_same x m n h g f)
exactly_answered x n r (outside h w o) f = absurd (exactly_within x n h f o)
exactly_answered x n r (uneven h w) f = absurd (w (exactly_six x n h f))

-- ---- RANGE and SYNTAX

pub range_outside : (x : Exact) (r : Result Number NumberError) → ParsesAs x r → r ≡ Err NumberError.Range → (0 < x.digits) × SixDigits x.digits × (TooSmall x ⊎ TooLarge x)
range_outside x r (nothing z) e = cc
range_outside x r (number n h f) e = cc
range_outside x r (outside h w o) e = (h, w, o)
range_outside x r (uneven h w) e = cc

pub outside_range : (x : Exact) (r : Result Number NumberError) → 0 < x.digits → SixDigits x.digits → ParsesAs x r → TooSmall x ⊎ TooLarge x → r ≡ Err NumberError.Range
outside_range x r g s (nothing z) o = absurd (omega arith)
outside_range x r g s (number n h f) o = absurd (exactly_within x n h f o)
outside_range x r g s (outside h w k) o = refl
outside_range x r g s (uneven h w) o = absurd (w s)

pub syntax_six : (x : Exact) (r : Result Number NumberError) → ParsesAs x r → r ≡ Err NumberError.Syntax → (0 < x.digits) × (SixDigits x.digits → ⊥)
syntax_six x r (nothing z) e = cc
syntax_six x r (number n h f) e = cc
syntax_six x r (outside h w o) e = cc
syntax_six x r (uneven h w) e = (h, w)

pub six_syntax : (x : Exact) (r : Result Number NumberError) → 0 < x.digits → ParsesAs x r → (SixDigits x.digits → ⊥) → r ≡ Err NumberError.Syntax
six_syntax x r g (nothing z) s = absurd (omega arith)
six_syntax x r g (number n h f) s = absurd (s (exactly_six x n h f))
six_syntax x r g (outside h w o) s = absurd (s w)
six_syntax x r g (uneven h w) s = refl

-- ---- hundredths

pub hundredths_of_lem : (n : Number) (h : ℕ) → units n ≡ h * 10 ^ 12 → h < 2 ^ 32 → hundredths_of n ≡ Some h
unfolding hundredths_of counted_of pick
hundredths_of_lem n h e k = rw (e, mul-mod_left h (10 ^ 12), mul-div_left h (ten_pos 12), lt-leb (2 ^ 32) h k)

abbrev Counted : Number → Option ℕ → Type 0
Counted n (Some h) = (units n ≡ h * 10 ^ 12) × (h < 2 ^ 32)
Counted n None = Unit {0}

pub counted : (n : Number) → Counted n (hundredths_of n)
unfolding hundredths_of counted_of
counted n =
    each (Counted n) (not (eqb (units n % 10 ^ 12) 0)) None _ (λ _. tt)
    (λ e. each (Counted n) (leb (2 ^ 32) (units n / 10 ^ 12)) None (Some (units n / 10 ^ 12)) (λ _. tt)
    (λ f. (let z = eqb-true (units n % 10 ^ 12) 0 (not-false _ e) in omega arith, leb-false (2 ^ 32) (units n / 10 ^ 12) f)))
