-- Lemmas on the texts that are sent: each is a text of the form, and its value.
use mathlib.Core.Path.{◌≡◌, refl, sym, ◌∙◌}
use mathlib.Core.Bool.{Bool, true, false, cond, ◌&&◌}
use mathlib.Core.List.{List, [], ◌∷◌, ◌++◌, append_assoc, append-nil}
use mathlib.Core.Logic.{inl, inr}
use Prim.Native.Nat.{ℕ, suc, ◌+◌, ◌-◌, ◌*◌, ◌/◌, ◌^◌, ◌<◌, ◌≤◌}
use native.Mathlib.Nat.{pow-suc, sub-zero, suc-sub-suc, div-div-eq-div-mul}
use native.Mathlib.Omega.{arith}
use borrow.Author.Tests.{le-leb, ne_eqb, ltb-true, ltb-false, eqb-true}
use lib.Dec.{ltb, eqb}
use lib.ListN.{length}
use Rattle.std.specs.Prelude.{Ok, Result, Some}
use Rattle.buffer.specs.First.{pick}
use Rattle.buffer.specs.Byte.{within, is_digit, every, numeral_from, numeral, digit, digits2, digits3, leading, starts_with}
use Rattle.buffer.proofs.Rules.{each}
use Rattle.decimal.specs.Exact.{units, zero_number, size_of, normal_of}
use Rattle.decimal.specs.Form.{exponent_of, unsigned_of, scan_of, parsed_of, number_of}
use Rattle.decimal.specs.Number.{hundredths_of}
use Rattle.decimal.specs.declared.Number.{Number}
use Rattle.decimal_text.specs.Written.{sign_text, trimmed, pointed, digits5, exponent_text, written_of, whole_text, two_decimals}
use Rattle.decimal_text.proofs.Laws.{trim_le}
use Rattle.decimal_facts.specs.Grammar.{Parts, Good, dash, point, exponent, spelled_of, meaning}
use Rattle.decimal_facts.specs.Canonical.{Full, Exactly, ParsesAs, nothing, number, outside, uneven}
use Rattle.decimal_facts.proofs.Lemmas.Digits.{both_left, both_right, numeral_append}
use Rattle.decimal_facts.proofs.Lemmas.Powers.{moved_same}
use Rattle.decimal_facts.proofs.Lemmas.Rows.{hundredths_of_lem}
use Rattle.decimal.specs.declared.NumberError.{NumberError}

-- ---- the written form

digit_is : (n : ℕ) → is_digit (digit n) ≡ true
unfolding within
digit_is n = rw (le-leb 48 (digit n) (omega arith), le-leb (digit n) 57 (omega arith))

empty : (s : List ℕ) → length s ≡ 0 → s ≡ []
empty [] e = refl
empty (x ∷ s) e = absurd (omega arith)

-- trailing zeros are tens
trim_value : (v : ℕ) (s : List ℕ) → numeral_from v s ≡ numeral_from v (trimmed s) * 10 ^ (length s - length (trimmed s))
unfolding numeral_from trimmed
trim_value v [] = omega arith
trim_value v (x ∷ s) = go (eqb x 48) refl (eqb (length (trimmed s)) 0) refl (trim_value (v * 10 + (x - 48)) s)
  where
    go : (b : Bool) → eqb x 48 ≡ b → (c : Bool) → eqb (length (trimmed s)) 0 ≡ c
        → numeral_from (v * 10 + (x - 48)) s ≡ numeral_from (v * 10 + (x - 48)) (trimmed s) * 10 ^ (length s - length (trimmed s))
        → numeral_from (v * 10 + (x - 48)) s ≡ numeral_from v (cond (b && c) [] (x ∷ trimmed s)) * 10 ^ (suc (length s) - length (cond (b && c) [] (x ∷ trimmed s)))
    go true e true f h =
        let z : x - 48 ≡ 0 = omega (arith, eqb-true x 48 e) in
        let k : trimmed s ≡ [] = empty (trimmed s) (eqb-true (length (trimmed s)) 0 f) in
        rw (z, sub-zero (suc (length s)), pow-suc 10 (length s)) (omega (arith, rw (k, sub-zero (length s), z) at h))
    go true e false f h = rw (suc-sub-suc (length s) (length (trimmed s))) h
    go false e c f h = rw (suc-sub-suc (length s) (length (trimmed s))) h

trim_digits : (s : List ℕ) → every is_digit s ≡ true → every is_digit (trimmed s) ≡ true
unfolding trimmed every
trim_digits [] e = refl
trim_digits (x ∷ s) e = go (eqb x 48 && eqb (length (trimmed s)) 0) (trim_digits s (both_right (is_digit x) (every is_digit s) e))
  where
    go : (b : Bool) → every is_digit (trimmed s) ≡ true → every is_digit (cond b [] (x ∷ trimmed s)) ≡ true
    go true h = refl
    go false h = rw (both_left (is_digit x) (every is_digit s) e) h

-- the parts of a written number
pub written : Number → Parts
written n =
    record {
      negative = n.negative;
      whole = digit (n.mantissa / 100000) ∷ [];
      fraction = trimmed (digits5 n.mantissa);
      mark = 101;
      below = ltb n.place 9;
      power = digit (cond (ltb n.place 9) (9 - n.place) (n.place - 9)) ∷ [];
    }

point_is : (s : List ℕ) → point s ≡ pointed s
unfolding point pointed
point_is [] = refl
point_is (x ∷ s) = refl

exponent_is : (p : ℕ) (b : Bool) → dash b ++ (digit (cond b (9 - p) (p - 9)) ∷ []) ≡ cond b (45 ∷ digit (9 - p) ∷ []) (digit (p - 9) ∷ [])
unfolding dash
exponent_is p true = refl
exponent_is p false = refl

pub written_text : (n : Number) → 0 < n.mantissa → spelled_of (written n) ≡ written_of n
unfolding written spelled_of written_of exponent dash sign_text exponent_text pick
written_text n h =
    let front = sign_text n.negative ++ (digit (n.mantissa / 100000) ∷ []) ++ pointed (trimmed (digits5 n.mantissa)) in
    rw (ne_eqb n.mantissa 0 (λ (e : n.mantissa ≡ 0). omega arith), point_is (trimmed (digits5 n.mantissa)), exponent_is n.place (ltb n.place 9))
    (sym (append_assoc front (101 ∷ []) (exponent_text n.place)))

digits5_are : (m : ℕ) → every is_digit (digits5 m) ≡ true
unfolding every
digits5_are m = rw (digit_is (m / 10000), digit_is (m / 1000), digit_is (m / 100), digit_is (m / 10), digit_is m)

pub written_good : (n : Number) → Good (written n)
unfolding written every
written_good n =
    record {
      whole_digits = rw (digit_is (n.mantissa / 100000));
      fraction_digits = trim_digits (digits5 n.mantissa) (digits5_are n.mantissa);
      power_digits = rw (digit_is (cond (ltb n.place 9) (9 - n.place) (n.place - 9)));
      some = omega arith;
      six = omega (arith, trim_le (digits5 n.mantissa));
      two = omega arith;
      marked = inl refl;
    }

-- a digit more
spelled : (v n : ℕ) → v ≡ n / 10 → v * 10 + (digit n - 48) ≡ n
spelled v n e = omega arith

-- the six digits of a mantissa, and the tens that went
module _ (m : ℕ) (h : m < 1000000) where
  six_spelled : numeral (digit (m / 100000) ∷ digits5 m) ≡ m
  unfolding numeral_from
  six_spelled =
      let a : 0 * 10 + (digit (m / 100000) - 48) ≡ m / 100000 = omega arith in
      let b = spelled _ (m / 10000) (a ∙ sym (div-div-eq-div-mul m 10000 10)) in
      let c = spelled _ (m / 1000) (b ∙ sym (div-div-eq-div-mul m 1000 10)) in
      let d = spelled _ (m / 100) (c ∙ sym (div-div-eq-div-mul m 100 10)) in
      let e = spelled _ (m / 10) (d ∙ sym (div-div-eq-div-mul m 10 10)) in
      spelled _ m e

  trim_spelled : m ≡ numeral (digit (m / 100000) ∷ trimmed (digits5 m)) * 10 ^ (5 - length (trimmed (digits5 m)))
  unfolding numeral_from
  trim_spelled = sym six_spelled ∙ trim_value (0 * 10 + (digit (m / 100000) - 48)) (digits5 m)

-- d stands at place p once more, written with k digits after the point and the exponent p - 9
written_size : (m p k d : ℕ) (b : Bool) → ltb p 9 ≡ b → p ≤ 18 → k ≤ 5 → m ≡ d * 10 ^ (5 - k)
    → m * 10 ^ p * 10 ^ (k + cond b (numeral (digit (cond b (9 - p) (p - 9)) ∷ [])) 0) ≡ d * 10 ^ cond b 0 (numeral (digit (cond b (9 - p) (p - 9)) ∷ [])) * 10 ^ 14
unfolding numeral_from
written_size m p k d true e h l q = moved_same d m (5 - k) p (k + numeral (digit (9 - p) ∷ [])) 0 q (omega (arith, ltb-true p 9 e))
written_size m p k d false e h l q = moved_same d m (5 - k) p (k + 0) (numeral (digit (p - 9) ∷ [])) q (omega (arith, ltb-false p 9 e))

pub written_exactly : (n : Number) → Full n → Exactly (meaning (written n)) n
unfolding written meaning units
written_exactly n f =
    record {
      canonical = inr f;
      size =
          written_size n.mantissa n.place (length (trimmed (digits5 n.mantissa))) _ (ltb n.place 9) refl f.place (trim_le (digits5 n.mantissa))
          (trim_spelled n.mantissa f.high);
      sign = λ _. refl;
    }

pub zero_reads : number_of (written_of zero_number) ≡ Ok zero_number
unfolding number_of parsed_of scan_of unsigned_of exponent_of leading starts_with normal_of size_of pick within numeral_from written_of
zero_reads = refl

-- ---- the form with two decimals

record Spells (n : ℕ) (s : List ℕ) : Type 0 where
  digits : every is_digit s ≡ true
  some : 1 ≤ length s
  three : length s ≤ 3
  value : numeral s ≡ n

whole_spells : (n : ℕ) → n < 1000 → Spells n (whole_text n)
unfolding whole_text every numeral_from
whole_spells n h =
    each (Spells n) (ltb n 10) (digit n ∷ []) _ (λ a. one (ltb-true n 10 a))
    (λ a. each (Spells n) (ltb n 100) (digits2 n) (digits3 n) (λ b. two (ltb-true n 100 b)) (λ b. three))
  where
    one : n < 10 → Spells n (digit n ∷ [])
    one k = record { digits = rw (digit_is n); some = omega arith; three = omega arith; value = omega arith }

    two : n < 100 → Spells n (digits2 n)
    two k = record { digits = rw (digit_is (n / 10), digit_is n); some = omega arith; three = omega arith; value = omega arith }

    three : Spells n (digits3 n)
    three = record { digits = rw (digit_is (n / 100), digit_is (n / 10), digit_is n); some = omega arith; three = omega arith; value = omega arith }

-- the parts of a text with two decimals
pub decimals : Bool → ℕ → Parts
decimals negative h =
    record {
      negative = cond (eqb h 0) false negative;
      whole = whole_text (h / 100);
      fraction = digits2 h;
      mark = 101;
      below = false;
      power = [];
    }

-- "`-0` is zero."
sign_is : (b negative : Bool) → dash (cond b false negative) ≡ cond b [] (sign_text negative)
unfolding dash sign_text
sign_is true negative = refl
sign_is false negative = refl

pub decimals_text : (negative : Bool) (h : ℕ) → spelled_of (decimals negative h) ≡ two_decimals negative h
unfolding decimals spelled_of two_decimals exponent point
decimals_text negative h =
    rw (append-nil (dash (cond (eqb h 0) false negative) ++ whole_text (h / 100) ++ (46 ∷ digits2 h)), sign_is (eqb h 0) negative)
    (sym (append_assoc (cond (eqb h 0) [] (sign_text negative) ++ whole_text (h / 100)) (46 ∷ []) (digits2 h)))

pub decimals_good : (negative : Bool) (h : ℕ) → h < 100000 → Good (decimals negative h)
unfolding decimals every
decimals_good negative h k =
    let w = whole_spells (h / 100) (omega arith) in
    record {
      whole_digits = w.digits;
      fraction_digits = rw (digit_is (h / 10), digit_is h);
      power_digits = refl;
      some = w.some;
      six = omega (arith, w.three);
      two = omega arith;
      marked = inl refl;
    }

pub decimals_mean : (negative : Bool) (h : ℕ) → h < 100000
    → meaning (decimals negative h) ≡ record { negative = cond (eqb h 0) false negative; digits = h; up = 0; down = 2 }
unfolding decimals meaning numeral_from
decimals_mean negative h k =
    let w = whole_spells (h / 100) (omega arith) in
    let d : numeral (whole_text (h / 100) ++ digits2 h) ≡ h = numeral_append (whole_text (h / 100)) (digits2 h) ∙ omega (arith, w.value) in
    rw d

-- r is a number of h hundredths, negative where it should be
abbrev Counted : Bool → ℕ → Result Number NumberError → Type 0
Counted negative h r = (n : Number) × (r ≡ Ok n) × (hundredths_of n ≡ Some h) × (0 < h → n.negative ≡ negative)

pub decimals_count : (negative : Bool) (h : ℕ) (r : Result Number NumberError) → h < 100000
    → ParsesAs (record { negative = cond (eqb h 0) false negative; digits = h; up = 0; down = 2 }) r → Counted negative h r
unfolding units
decimals_count negative h r k (nothing z) = (zero_number, refl, hundredths_of_lem zero_number h (omega arith) (omega arith), λ (g : 0 < h). absurd (omega arith))
decimals_count negative h r k (number n g f) =
    let e : eqb h 0 ≡ false = ne_eqb h 0 (λ (z : h ≡ 0). omega arith) in
    (n, refl, hundredths_of_lem n h (omega (arith, f.size)) (omega arith), λ _. rw e at (f.sign g))
decimals_count negative h r k (outside g w (inl o)) = absurd (omega arith)
decimals_count negative h r k (outside g w (inr o)) = absurd (omega arith)
decimals_count negative h r k (uneven g w) = absurd (w (h, 0, omega arith, omega arith))
