-- What the longest line is made of: how wide each value is.
use mathlib.Core.Path.{◌≡◌, refl, ap}
use mathlib.Core.Bool.{Bool, true, false, cond}
use mathlib.Core.List.{List, [], ◌∷◌}
use Prim.Native.Nat.{ℕ, ◌+◌, ◌/◌, ◌<◌, ◌≤◌}
use native.Mathlib.Omega.{arith}
use borrow.Author.Tests.{ltb-true, ltb-false, eqb-true}
use lib.Dec.{eqb, ltb, leb}
use lib.ListN.{length, length-append}
use lib.Seq.{take_all}
use Rattle.buffer.specs.First.{pick}
use Rattle.buffer.specs.Byte.{digit, digits2, digits3}
use Rattle.buffer.proofs.Rules.{each}
use Rattle.decimal.specs.Exact.{units, zero_number}
use Rattle.decimal.specs.Number.{plus, minus, below_of}
use Rattle.decimal.specs.declared.Number.{Number}
use Rattle.decimal_text.specs.Written.{sign_text, whole_text, two_decimals}
use Rattle.decimal_text.proofs.Laws.{written_le}
use Rattle.error_texts.specs.Texts.{error_bytes}
use Rattle.settings.specs.Limits.{width_of}
use Rattle.readings.specs.Reading.{pressure_text, temperature_text, value_text}
use Rattle.readings.specs.declared.Pressure.{Pressure}
use Rattle.readings.specs.declared.Pressure.TheVariants.{Measured, UnderRange, OverRange}
use Rattle.readings.specs.declared.Temperature.{Temperature}
use Rattle.readings.specs.declared.Temperature.TheVariants.{Degrees}
use Rattle.readings.proofs.Laws.{value_le}
use Rattle.readings_facts.specs.Sound.{SoundPressure, SoundTemperature}
use Rattle.readings_facts.specs.Theorems.{Widths, WholeValue}

-- what is above zero has no sign
no_sign : (n : Number) → below_of zero_number n ≡ true → n.negative ≡ false
unfolding below_of plus minus units
no_sign n e = go n.negative (ltb-true _ _ e)
  where
    go : (b : Bool) → 0 + cond b (units n) 0 < cond b 0 (units n) + 0 → b ≡ false
    go true h = absurd (omega arith)
    go false h = refl

pressure_width : (p : Pressure) → SoundPressure p → length (pressure_text p) ≤ 10
unfolding pressure_text error_bytes
pressure_width (Measured n) h = omega (arith, written_le n, ap (λ (b : Bool). cond {A = ℕ} b 1 0) (no_sign n h.1))
pressure_width UnderRange h = omega arith
pressure_width OverRange h = omega arith
pressure_width Pressure.Faulty h = omega arith

whole_two : (n : ℕ) → n < 100 → length (whole_text n) ≤ 2
unfolding whole_text
whole_two n h =
    each (λ (l : List ℕ). length l ≤ 2) (ltb n 10) (digit n ∷ []) _ (λ _. omega arith)
    (λ _. each (λ (l : List ℕ). length l ≤ 2) (ltb n 100) (digits2 n) (digits3 n) (λ _. omega arith) (λ e. absurd (omega (arith, ltb-false n 100 e))))

whole_three : (n : ℕ) → length (whole_text n) ≤ 3
unfolding whole_text
whole_three n =
    each (λ (l : List ℕ). length l ≤ 3) (ltb n 10) (digit n ∷ []) _ (λ _. omega arith)
    (λ _. each (λ (l : List ℕ). length l ≤ 3) (ltb n 100) (digits2 n) (digits3 n) (λ _. omega arith) (λ _. omega arith))

signs : (zero negative : Bool) → length (cond zero [] (sign_text negative)) ≤ cond negative 1 0
unfolding sign_text
signs true true = omega arith
signs true false = omega arith
signs false true = omega arith
signs false false = omega arith

-- "-40.00 to 125.00"
temperature_width : (t : Temperature) → SoundTemperature t → length (temperature_text t) ≤ 6
unfolding temperature_text two_decimals error_bytes
temperature_width (Degrees true h) w = simp length-append (omega (arith, signs (eqb h 0) true, whole_two (h / 100) (omega (arith, w.1))))
temperature_width (Degrees false h) w = simp length-append (omega (arith, signs (eqb h 0) false, whole_three (h / 100)))
temperature_width Temperature.Faulty w = omega arith

-- a width, where the code was found by its test
at_code : (c k : ℕ) (t : List ℕ) → eqb c k ≡ true → length t ≤ width_of k → length t ≤ width_of c
at_code c k t e h = rw (eqb-true c k e) h

error_width : (c : ℕ) → 6 ≤ width_of c
unfolding width_of
error_width c = each (λ (k : ℕ). 6 ≤ k) (eqb c 7) 11 _ (λ _. omega arith) (λ _. each (λ (k : ℕ). 6 ≤ k) (leb 8 c) 6 10 (λ _. omega arith) (λ _. omega arith))

-- "10", for source 7 "11"; a temperature has at most 6
pub widths : Widths
unfolding value_text width_of pick error_bytes
widths r f c =
    row 0 (pressure_text r.p0) _ (narrow 0 refl r.p0 f.p0)
    (row 1 (pressure_text r.p1) _ (narrow 1 refl r.p1 f.p1)
    (row 2 (pressure_text r.p2) _ (narrow 2 refl r.p2 f.p2)
    (row 6 (pressure_text r.p6) _ (narrow 6 refl r.p6 f.p6)
    (row 7 (pressure_text r.p7) _ wide
    (row 8 (temperature_text r.t2) _ (degrees 8 refl r.t2 f.t2)
    (row 9 (temperature_text r.t6) _ (degrees 9 refl r.t6 f.t6)
    (error_width c)))))))
  where
    row : (k : ℕ) (t rest : List ℕ) → length t ≤ width_of k → length rest ≤ width_of c → length (pick (eqb c k) t rest) ≤ width_of c
    row k t rest h g = each (λ (l : List ℕ). length l ≤ width_of c) (eqb c k) t rest (λ e. at_code c k t e h) (λ _. g)

    narrow : (k : ℕ) → width_of k ≡ 10 → (p : Pressure) → SoundPressure p → length (pressure_text p) ≤ width_of k
    narrow k e p h = rw e (pressure_width p h)

    degrees : (k : ℕ) → width_of k ≡ 6 → (t : Temperature) → SoundTemperature t → length (temperature_text t) ≤ width_of k
    degrees k e t h = rw e (temperature_width t h)

    wide : length (pressure_text r.p7) ≤ 11
    wide = value_le 7 r

-- so no value is cut at its width
pub whole_value : WholeValue
whole_value r f c = take_all (width_of c) (value_text c r) (widths r f c)
