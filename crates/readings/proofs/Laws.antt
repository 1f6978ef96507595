-- The values that a line shows: how long they are, and which characters are in them; and a law of the bench's limits.
use mathlib.Core.Path.{◌≡◌, refl, sym, ap, ◌∙◌}
use mathlib.Core.Bool.{Bool, true, false, cond, ◌&&◌, ◌||◌, true≢false, and-eq-true_iff}
use mathlib.Core.List.{List, [], ◌∷◌, ◌++◌}
use Prim.Native.Nat.{ℕ, ◌-◌, ◌/◌, ◌<◌, ◌≤◌}
use native.Mathlib.Numerals.{add-one}
use native.Mathlib.Omega.{arith}
use borrow.Author.Tests.{ne_eqb, ltb-false}
use lib.Dec.{eqb, ltb}
use lib.ListN.{length, length-append}
use Rattle.buffer.specs.Byte.{within, every, until_of, digit, digits2, digits3}
use Rattle.buffer.proofs.Laws.{within_in}
use Rattle.buffer.proofs.Rules.{each}
use Rattle.decimal.specs.declared.Number.{Number}
use Rattle.decimal_text.specs.Written.{sign_text, trimmed, pointed, digits5, exponent_text, written_of, whole_text, two_decimals}
use Rattle.decimal_text.proofs.Laws.{written_le, two_le}
use Rattle.error_texts.specs.Texts.{error_bytes}
use Rattle.error_texts.specs.declared.ErrorText.TheVariants.{Error1}
use Rattle.readings.specs.Reading.{pressure_text, temperature_text, value_text}
use Rattle.readings.specs.Bench.{most_degrees, outside_degrees}
use Rattle.readings.specs.declared.Pressure.{Pressure}
use Rattle.readings.specs.declared.Pressure.TheVariants.{Measured, UnderRange, OverRange}
use Rattle.readings.specs.declared.Temperature.{Temperature}
use Rattle.readings.specs.declared.Temperature.TheVariants.{Degrees}
use Rattle.readings.specs.declared.Readings.{Readings}

-- whatever holds of each pressure's and each temperature's text, and of `ERROR1`, holds of every value
pub value_each : (P : List ℕ → Type 0) → ((p : Pressure) → P (pressure_text p)) → ((t : Temperature) → P (temperature_text t)) → P (error_bytes Error1)
    → (c : ℕ) (r : Readings) → P (value_text c r)
unfolding value_text
value_each P f g e c r =
    each P _ _ _ (λ _. f r.p0) (λ _.
    each P _ _ _ (λ _. f r.p1) (λ _.
    each P _ _ _ (λ _. f r.p2) (λ _.
    each P _ _ _ (λ _. f r.p6) (λ _.
    each P _ _ _ (λ _. f r.p7) (λ _.
    each P _ _ _ (λ _. g r.t2) (λ _.
    each P _ _ _ (λ _. g r.t6) (λ _. e)))))))

-- ---- lengths

pressure_le : (p : Pressure) → length (pressure_text p) ≤ 11
unfolding pressure_text error_bytes
pressure_le (Measured n) = omega (arith, written_le n, one n.negative)
  where
    one : (b : Bool) → cond b 1 0 ≤ 1
    one true = omega arith
    one false = omega arith
pressure_le UnderRange = omega arith
pressure_le OverRange = omega arith
pressure_le Pressure.Faulty = omega arith

temperature_le : (t : Temperature) → length (temperature_text t) ≤ 11
unfolding temperature_text error_bytes
temperature_le (Degrees negative h) = omega (arith, two_le negative h)
temperature_le Temperature.Faulty = omega arith

-- "eight rows of eleven characters"
pub value_le : (c : ℕ) (r : Readings) → length (value_text c r) ≤ 11
unfolding error_bytes
value_le c r = value_each (λ (s : List ℕ). length s ≤ 11) pressure_le temperature_le (omega arith) c r

written_some : (n : Number) → 1 ≤ length (written_of n)
unfolding written_of
written_some n =
    each (λ (s : List ℕ). 1 ≤ length s) _ _ _ (λ _. omega arith)
    (λ _. simp length-append (omega arith))

pressure_some : (p : Pressure) → 1 ≤ length (pressure_text p)
unfolding pressure_text error_bytes
pressure_some (Measured n) = written_some n
pressure_some UnderRange = omega arith
pressure_some OverRange = omega arith
pressure_some Pressure.Faulty = omega arith

temperature_some : (t : Temperature) → 1 ≤ length (temperature_text t)
unfolding temperature_text two_decimals error_bytes
temperature_some (Degrees negative h) = simp length-append (omega arith)
temperature_some Temperature.Faulty = omega arith

-- no value is empty
pub value_some : (c : ℕ) (r : Readings) → 1 ≤ length (value_text c r)
unfolding error_bytes
value_some c r = value_each (λ (s : List ℕ). 1 ≤ length s) pressure_some temperature_some (omega arith) c r

-- ---- characters

-- what values are made of: `-`, `.` and digits; capital letters and `e`
unfoldable pub shown : ℕ → Bool
shown x = within 45 57 x || within 65 101 x

-- nothing else stands in a text
abbrev Clean : List ℕ → Type 0
Clean s = every shown s ≡ true

none : Clean []
unfolding every
none = refl

clean_put : (x : ℕ) (s : List ℕ) → shown x ≡ true → Clean s → Clean (x ∷ s)
unfolding every
clean_put x s e h = rw (e, h)

clean_tail : (x : ℕ) (s : List ℕ) → Clean (x ∷ s) → (shown x ≡ true) × Clean s
unfolding every
clean_tail x s h = (and-eq-true_iff (shown x) (every shown s)).0 h

clean_append : (s t : List ℕ) → Clean s → Clean t → Clean (s ++ t)
clean_append [] t h k = k
clean_append (x ∷ s) t h k = let w = clean_tail x s h in clean_put x (s ++ t) w.0 (clean_append s t w.1 k)

clean_digit : (n : ℕ) (s : List ℕ) → Clean s → Clean (digit n ∷ s)
unfolding shown
clean_digit n s h = clean_put (digit n) s (rw (within_in 45 57 (digit n) (omega arith) (omega arith))) h

clean2 : (n : ℕ) → Clean (digits2 n)
clean2 n = clean_digit (n / 10) (digit n ∷ []) (clean_digit n [] none)

clean3 : (n : ℕ) → Clean (digits3 n)
clean3 n = clean_digit (n / 100) (digits2 n) (clean2 n)

clean5 : (m : ℕ) → Clean (digits5 m)
clean5 m = clean_digit (m / 10000) (digit (m / 1000) ∷ digits3 m) (clean_digit (m / 1000) (digits3 m) (clean3 m))

clean_trimmed : (s : List ℕ) → Clean s → Clean (trimmed s)
unfolding trimmed
clean_trimmed [] h = h
clean_trimmed (x ∷ s) h = let w = clean_tail x s h in go (eqb x 48 && eqb (length (trimmed s)) 0) (clean_put x (trimmed s) w.0 (clean_trimmed s w.1))
  where
    go : (b : Bool) → Clean (x ∷ trimmed s) → Clean (cond b [] (x ∷ trimmed s))
    go true k = none
    go false k = k

clean_pointed : (s : List ℕ) → Clean s → Clean (pointed s)
unfolding pointed shown within
clean_pointed [] h = h
clean_pointed (x ∷ s) h = clean_put 46 (x ∷ s) refl h

clean_sign : (b : Bool) → Clean (sign_text b)
unfolding sign_text every shown within
clean_sign true = refl
clean_sign false = refl

clean_exponent : (p : ℕ) → Clean (exponent_text p)
unfolding exponent_text shown within
clean_exponent p = go (ltb p 9)
  where
    go : (b : Bool) → Clean (cond b (45 ∷ digit (9 - p) ∷ []) (digit (p - 9) ∷ []))
    go true = clean_put 45 (digit (9 - p) ∷ []) refl (clean_digit (9 - p) [] none)
    go false = clean_digit (p - 9) [] none

written_clean : (n : Number) → Clean (written_of n)
unfolding written_of shown within
written_clean n =
    each Clean _ _ _ (λ _. one)
    (λ _. clean_append _ (exponent_text n.place)
    (clean_append _ (101 ∷ [])
    (clean_append _ (pointed (trimmed (digits5 m)))
    (clean_append (sign_text n.negative) (digit (m / 100000) ∷ []) (clean_sign n.negative) (clean_digit (m / 100000) [] none))
    (clean_pointed (trimmed (digits5 m)) (clean_trimmed (digits5 m) (clean5 m))))
    (clean_put 101 [] refl none))
    (clean_exponent n.place))
  where
    m : ℕ
    m = n.mantissa

    one : Clean (48 ∷ [])
    one = clean_put 48 [] refl none

clean_whole : (n : ℕ) → Clean (whole_text n)
unfolding whole_text
clean_whole n = each Clean _ _ _ (λ _. clean_digit n [] none) (λ _. each Clean _ _ _ (λ _. clean2 n) (λ _. clean3 n))

clean_signs : (zero negative : Bool) → Clean (cond zero [] (sign_text negative))
clean_signs true negative = none
clean_signs false negative = clean_sign negative

two_clean : (negative : Bool) (h : ℕ) → Clean (two_decimals negative h)
unfolding two_decimals shown within
two_clean negative h =
    clean_append _ (digits2 h)
    (clean_append _ (46 ∷ [])
    (clean_append (cond (eqb h 0) [] (sign_text negative)) (whole_text (h / 100)) (clean_signs (eqb h 0) negative) (clean_whole (h / 100)))
    (clean_put 46 [] refl none))
    (clean2 h)

pressure_clean : (p : Pressure) → Clean (pressure_text p)
unfolding pressure_text error_bytes every shown within
pressure_clean (Measured n) = written_clean n
pressure_clean UnderRange = refl
pressure_clean OverRange = refl
pressure_clean Pressure.Faulty = refl

temperature_clean : (t : Temperature) → Clean (temperature_text t)
unfolding temperature_text error_bytes every shown within
temperature_clean (Degrees negative h) = two_clean negative h
temperature_clean Temperature.Faulty = refl

value_shown : (c : ℕ) (r : Readings) → Clean (value_text c r)
unfolding error_bytes every shown within
value_shown c r = value_each Clean pressure_clean temperature_clean refl c r

-- a character that values are not made of does not stand in a text of them: as many stand before the first as the text has
until_clean : (b : ℕ) (s : List ℕ) → shown b ≡ false → Clean s → until_of b s ≡ length s
unfolding until_of
until_clean b [] e h = refl
until_clean b (x ∷ s) e h =
    let w = clean_tail x s h in
    rw (ne_eqb x b (λ (z : x ≡ b). true≢false (sym w.0 ∙ ap shown z ∙ e)), until_clean b s e w.1) (add-one (length s))

-- no value has it
pub value_clean : (b c : ℕ) (r : Readings) → shown b ≡ false → until_of b (value_text c r) ≡ length (value_text c r)
value_clean b c r e = until_clean b (value_text c r) e (value_shown c r)

-- ---- limits

-- a temperature within its limits fits its field
pub outside_small : (negative : Bool) (h : ℕ) → outside_degrees negative h ≡ false → h < 65536
outside_small negative h e = omega (arith, ltb-false (most_degrees negative) h e, most negative)
  where
    most : (b : Bool) → most_degrees b < 65536
    most true = omega arith
    most false = omega arith
