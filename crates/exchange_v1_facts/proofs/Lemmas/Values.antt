-- The digits that the gauge sends, and the value that they are read as.
use mathlib.Core.Path.{◌≡◌, refl, ◌∙◌}
use mathlib.Core.Bool.{Bool, true, false, and-false, false≢true}
use mathlib.Core.List.{List, [], ◌∷◌}
use mathlib.Core.Logic.{inl, inr}
use Prim.Native.Nat.{ℕ, ◌+◌, ◌*◌, ◌/◌, ◌%◌, ◌<◌, ◌≤◌}
use native.Mathlib.Omega.{arith}
use borrow.Author.Tests.{ne_eqb, eqb-true, eqb-false, le-ltb, lt-leb}
use lib.Dec.{eqb}
use lib.ListN.{length, take, drop}
use Rattle.std.specs.Prelude.{Ok}
use Rattle.buffer.specs.First.{pick}
use Rattle.buffer.specs.Byte.{within, is_digit, every, same_text, numeral_from, numeral, digit}
use Rattle.buffer.proofs.Laws.{within_in, same_self}
use Rattle.buffer.proofs.Rules.{each}
use Rattle.error_texts.specs.declared.ErrorText.TheVariants.{Error1}
use Rattle.decimal.specs.Exact.{units}
use Rattle.decimal.specs.Number.{plus, minus, below_of}
use Rattle.decimal.specs.declared.Number.{Number}
use Rattle.decimal_facts.specs.Canonical.{Full}
use Rattle.settings.specs.Limits.{standard}
use Rattle.settings.specs.declared.PressureUnit.{PressureUnit}
use Rattle.settings.specs.declared.PressureUnit.TheVariants.{Mbar, Torr, HPa}
use Rattle.readings.specs.Measure.{six_of, rounded_text, measure_text}
use Rattle.readings.specs.declared.Pressure.{Pressure}
use Rattle.readings.specs.declared.Pressure.TheVariants.{Measured, Faulty}
use Rattle.readings_facts.specs.Sound.{SoundPressure}
use Rattle.requests.specs.AskV1.{six_digits}
use Rattle.requests.specs.declared.RequestV1.{RequestV1}
use Rattle.settings.specs.Units.{unit_code}
use Rattle.request_texts.specs.RequestText.{digits6, data_v1}
use Rattle.replies_v1.specs.ReplyV1.{pressure_v1, measure_v1, factor_v1, unit_at, unit_v1, echo_v1}
use Rattle.replies_v1.specs.declared.ReplyV1.{ReplyV1}
use Rattle.replies_v1.specs.declared.ReplyV1.TheVariants.{Reads, Factor, Unit, Done, Error}
use Rattle.settings.proofs.Laws.{factor_is}
use Rattle.exchange_v1_facts.specs.HeldV1.{rounded_v1, pressure_held}
use Rattle.exchange_v1_facts.proofs.Lemmas.Rows.{not_first}

-- ---- digits

digit_is : (n : ℕ) → is_digit (digit n) ≡ true
digit_is n = within_in 48 57 (digit n) (omega arith) (omega arith)

pub six_are : (n : ℕ) → every is_digit (digits6 n) ≡ true
unfolding every
six_are n = rw (digit_is (n / 1000 / 100), digit_is (n / 1000 / 10), digit_is (n / 1000), digit_is (n / 100), digit_is (n / 10), digit_is n)

pub six_of_are : (q e : ℕ) → every is_digit (six_of q e) ≡ true
unfolding every six_of
six_of_are q e = rw (digit_is (q / 1000), digit_is (q / 100), digit_is (q / 10), digit_is q, digit_is (e / 10), digit_is e)

-- ---- a set's reply

pub echo_held : (r : RequestV1) → echo_v1 r (data_v1 r) ≡ Ok Done
unfolding echo_v1 pick
echo_held r = rw (same_self (data_v1 r))

-- ---- the factor

tens : (k : ℕ) → k < 1000 → (k / 100 % 10 * 10 + k / 10 % 10) * 10 + k % 10 ≡ k
tens k h = omega arith

three_spell : (a b c : ℕ) → numeral (48 ∷ 48 ∷ 48 ∷ (a + 48) ∷ (b + 48) ∷ (c + 48) ∷ []) ≡ (a * 10 + b) * 10 + c
unfolding numeral_from
three_spell a b c = omega arith

three : (k : ℕ) → k < 1000 → numeral (digits6 k) ≡ k
three k h =
    let z : k / 1000 ≡ 0 = omega arith in
    rw z (three_spell (k / 100 % 10) (k / 10 % 10) (k % 10) ∙ tens k h)

pub factor_held : (n : ℕ) → standard.factor_low ≤ n → n ≤ standard.factor_high → factor_v1 (digits6 n) ≡ Ok (Factor n)
unfolding factor_v1 six_digits pick
factor_held n h k = rw (six_are n, three n (omega arith), factor_is n h k)

-- ---- the unit

pub unit_held : (u : PressureUnit) → unit_v1 (digits6 (unit_code u)) ≡ Ok (Unit u)
unfolding unit_v1 unit_at unit_code six_digits every within numeral_from pick
unit_held Mbar = refl
unit_held Torr = refl
unit_held HPa = refl

-- ---- the pressure

pub below_held : measure_v1 (six_of 0 0) ≡ Ok ReplyV1.UnderRange
unfolding measure_v1 six_of same_text pick
below_held = refl

pub above_held : measure_v1 (six_of 9999 99) ≡ Ok ReplyV1.OverRange
unfolding measure_v1 six_of same_text pick
above_held = refl

pub fault_held : measure_v1 (49 ∷ []) ≡ Ok (Error Error1)
unfolding measure_v1 same_text pick
fault_held = refl

four : (q : ℕ) → q < 10000 → ((q / 1000 % 10 * 10 + q / 100 % 10) * 10 + q / 10 % 10) * 10 + q % 10 ≡ q
four q h =
    let a : q / 1000 ≡ q / 10 / 100 = omega arith in
    let b : q / 100 ≡ q / 10 / 10 = omega arith in
    rw (a, b, tens (q / 10) (omega arith)) (omega arith)

four_spell : (a b c d : ℕ) → numeral ((a + 48) ∷ (b + 48) ∷ (c + 48) ∷ (d + 48) ∷ []) ≡ ((a * 10 + b) * 10 + c) * 10 + d
unfolding numeral_from
four_spell a b c d = omega arith

two_spell : (e f : ℕ) → numeral ((e + 48) ∷ (f + 48) ∷ []) ≡ e * 10 + f
unfolding numeral_from
two_spell e f = omega arith

module _ (q e : ℕ) (low : 1000 ≤ q) (high : q ≤ 9999) (least : 11 ≤ e) (most : e ≤ 30) where
  mantissa_is : numeral (take 4 (six_of q e)) ≡ q
  unfolding six_of
  mantissa_is = four_spell (q / 1000 % 10) (q / 100 % 10) (q / 10 % 10) (q % 10) ∙ four q (omega arith)

  exponent_is : numeral (drop 4 (six_of q e)) ≡ e
  unfolding six_of
  exponent_is = two_spell (e / 10 % 10) (e % 10) ∙ omega arith

  not_one : same_text (six_of q e) (49 ∷ []) ≡ false
  unfolding six_of same_text
  not_one = refl

  -- the first digit is not 0
  not_below : same_text (six_of q e) (48 ∷ 48 ∷ 48 ∷ 48 ∷ 48 ∷ 48 ∷ []) ≡ false
  unfolding six_of
  not_below = not_first (digit (q / 1000)) 48 _ _ (ne_eqb (digit (q / 1000)) 48 (λ z. omega arith))

  -- the fifth digit is not 9
  not_above : same_text (six_of q e) (57 ∷ 57 ∷ 57 ∷ 57 ∷ 57 ∷ 57 ∷ []) ≡ false
  unfolding six_of same_text
  not_above = rw (ne_eqb (digit (e / 10)) 57 (λ z. omega arith), and-false (eqb (digit e) 57))

  six_there : six_digits (six_of q e) ≡ true
  unfolding six_digits six_of
  six_there = rw (six_of_are q e)

  -- four digits and an exponent within the limits are read as themselves
  pub reads_held : measure_v1 (six_of q e) ≡ Ok (Reads q e)
  unfolding measure_v1 pressure_v1 pick
  reads_held = rw (not_one, not_below, not_above, six_there, mantissa_is, exponent_is, le-ltb q 1000 low, within_in 11 30 e least most)

-- ---- the pressure that the gauge holds

-- a canonical number above zero has six digits
pub above_zero : (n : Number) → SoundPressure (Measured n) → Full n
unfolding below_of plus minus units
above_zero n (inl z, h) = absurd (false≢true (rw z at h))
above_zero n (inr f, h) = f

rounded_held : (n : Number) → Full n → measure_v1 (rounded_text n) ≡ Ok (rounded_v1 n)
unfolding rounded_text rounded_v1 pick
rounded_held n f = go (eqb q 10000) refl
  where
    q : ℕ
    q = (n.mantissa + 50) / 100

    go : (b : Bool) → eqb q 10000 ≡ b → measure_v1 (rounded_text n) ≡ Ok (rounded_v1 n)
    go true h =
        let e : q ≡ 10000 = eqb-true q 10000 h in
        let p : n.place + 11 + 1 ≡ n.place + 12 = omega arith in
        rw (e, p) (reads_held 1000 (n.place + 12) (omega arith) (omega arith) (omega arith) (omega (arith, f.place)))
    go false h =
        let l : q ≤ 9999 = omega (arith, eqb-false q 10000 h, f.high) in
        rw (h, lt-leb 10000 q (omega arith)) (reads_held q (n.place + 11) (omega (arith, f.low)) l (omega arith) (omega (arith, f.place)))

-- the data of a reading are digits
abbrev pub Digits : List ℕ → Type 0
Digits d = (every is_digit d ≡ true) × (length d ≤ 6)

six_digits_lem : (q e : ℕ) → Digits (six_of q e)
unfolding six_of
six_digits_lem q e = (six_of_are q e, omega arith)

pub measure_digits : (p : Pressure) → Digits (measure_text p)
unfolding measure_text rounded_text every within
measure_digits (Measured n) = each Digits _ _ _ (λ _. six_digits_lem _ _) (λ _. six_digits_lem _ _)
measure_digits Pressure.UnderRange = six_digits_lem 0 0
measure_digits Pressure.OverRange = six_digits_lem 9999 99
measure_digits Faulty = (refl, omega arith)

pub pressure_held_lem : (p : Pressure) → SoundPressure p → measure_v1 (measure_text p) ≡ Ok (pressure_held p)
unfolding measure_text pressure_held
pressure_held_lem (Measured n) h = rounded_held n (above_zero n h)
pressure_held_lem Pressure.UnderRange h = below_held
pressure_held_lem Pressure.OverRange h = above_held
pressure_held_lem Faulty h = fault_held
