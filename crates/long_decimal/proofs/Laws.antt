-- Laws of the digits of long decimals.
use mathlib.Core.Path.{◌≡◌, refl, sym, ap, ◌∙◌}
use mathlib.Core.Bool.{Bool, true, false}
use mathlib.Core.List.{List, [], ◌∷◌, ◌++◌}
use Prim.Native.Nat.{ℕ, ◌+◌, ◌-◌, ◌*◌, ◌<◌, ◌≤◌, min}
use native.Mathlib.Omega.{arith}
use lib.Dec.{leb}
use borrow.Author.Tests.{le-leb, lt-leb, leb-false, leb-true, eq-eqb, ne_eqb}
use lib.ListN.{length, get_or, take, drop, drop_of_length-le, length-take}
use Rattle.std.proofs.lemmas.Bool.Decides.{nat_tests}
use Rattle.decimal.proofs.Laws.{significant_le}
use Rattle.std.specs.Prelude.{None, Option, Some}
use Rattle.buffer.specs.First.{pick}
use Rattle.buffer.specs.Byte.{numeral_from, numeral, leading}
use Rattle.buffer.proofs.Laws.{drop_step, ten_max}
use Rattle.buffer.proofs.Rules.{past, stop, each}
use Rattle.decimal.specs.Digits.{significant}
use Rattle.decimal.specs.Form.{whole, power_of, exponent_of}
use Rattle.decimal.specs.declared.Exact.{Exact}
use Rattle.decimal.proofs.Laws.{numeral_front, numeral_on}
use Rattle.long_decimal.specs.Long.{decimal_value, spelled_of}

-- ---- numbers that digits spell

pub spells_step : (s : List ℕ) (n i : ℕ) → i < length s → numeral_from n (drop i s) ≡ numeral_from (n * 10 + (get_or s i 0 - 48)) (drop (i + 1) s)
unfolding numeral_from
spells_step s n i h = ap (numeral_from n) (drop_step s i h)

pub spells_end : (s : List ℕ) (n i : ℕ) → length s ≤ i → numeral_from n (drop i s) ≡ n
unfolding numeral_from
spells_end s n i h = ap (numeral_from n) (drop_of_length-le s h)

pub spells_more : (s : List ℕ) (n : ℕ) → n ≤ numeral_from n s
unfolding numeral_from
spells_more [] n = omega arith
spells_more (x ∷ s) n = omega (arith, spells_more s (n * 10 + (x - 48)))

-- a million stands for any number that is as large
pub enough : (n : ℕ) (f : List ℕ) → min 1000000 (numeral_from (min 1000000 n) f) ≡ min 1000000 (numeral_from n f)
enough n f = go (leb 1000000 n) refl
  where
    go : (t : Bool) → leb 1000000 n ≡ t → min 1000000 (numeral_from (min 1000000 n) f) ≡ min 1000000 (numeral_from n f)
    go true e =
        let h = leb-true 1000000 n e in
        omega (arith, spells_more f (min 1000000 n), spells_more f n)
    go false e =
        let h = leb-false 1000000 n e in
        let m : min 1000000 n ≡ n = omega arith in
        rw m

pub as_a_million : (negative : Bool) (n up down : ℕ) (e : List ℕ) → decimal_value negative (min 1000000 n) up down e ≡ decimal_value negative n up down e
unfolding decimal_value pick
as_a_million negative n up down e = go (leb 1000000 n) refl
  where
    go : (t : Bool) → leb 1000000 n ≡ t → decimal_value negative (min 1000000 n) up down e ≡ decimal_value negative n up down e
    go true f =
        let h = leb-true 1000000 n f in
        rw (f, le-leb 1000000 (min 1000000 n) (omega arith))
    go false f =
        let h = leb-false 1000000 n f in
        let m : min 1000000 n ≡ n = omega arith in
        rw m

-- ---- an exponent moves by at most 99

pub record Small (x : Exact) : Type 0 where
  pub up : x.up ≤ 99
  pub down : x.down ≤ 99

abbrev pub SmallScan : Option Exact → Type 0
SmallScan (Some x) = Small x
SmallScan None = Unit {0}

power_small : (s : List ℕ) (negative : Bool) (n : ℕ) (below : Bool) → SmallScan (power_of s (whole negative n) below)
unfolding power_of
power_small s negative n below =
    each SmallScan _ _ _ (λ e. tt) (λ e. each SmallScan _ _ _ (λ e. tt)
    (λ e. each SmallScan _ _ _ (λ f. tt) (λ f. each SmallScan _ _ _ (λ g. record { up = omega arith; down = omega (arith, low e) }) (λ g. record { up = omega (arith, low e); down = omega arith }))))
  where
    low : leb 3 (leading s) ≡ false → numeral (take (leading s) s) < 100
    low e =
        let h = leb-false 3 (leading s) e in
        omega (arith, numeral_front s 0 (leading s) (omega arith), ten_max (leading s) 2 (omega arith))

pub exponent_small : (s : List ℕ) (negative : Bool) (n : ℕ) → SmallScan (exponent_of s (whole negative n))
unfolding exponent_of
exponent_small s negative n =
    each SmallScan _ _ _ (λ e. record { up = omega arith; down = omega arith })
    (λ e. each SmallScan _ _ _ (λ f. tt) (λ f. each SmallScan _ _ _ (λ g. power_small _ negative n true) (λ g. power_small _ negative n false)))

-- ---- the two ways to spell

pub whole_is : (negative : Bool) (w f e : List ℕ) (m k n : ℕ) → m ≡ significant w → k ≡ significant f → n ≡ min 1000000 (numeral (take m w))
    → length w < 101 → length f < 101 → k ≡ 0 → decimal_value negative n (length w - m) 0 e ≡ spelled_of negative w f e
unfolding spelled_of
whole_is negative w f e m k n a b c h i z =
    past _ _ _ _ (lt-leb 101 (length w) h) (past _ _ _ _ (lt-leb 101 (length f) i) (stop _ _ _ _ (eq-eqb (significant f) 0 (sym b ∙ z))
    (ap (λ (x : ℕ). decimal_value negative x (length w - m) 0 e) c ∙ as_a_million negative (numeral (take m w)) (length w - m) 0 e
    ∙ ap (λ (x : ℕ). decimal_value negative (numeral (take x w)) (length w - x) 0 e) a)))

pub pointed_is : (negative : Bool) (w f e : List ℕ) (k v n : ℕ) → k ≡ significant f → v ≡ min 1000000 (numeral w) → n ≡ min 1000000 (numeral_from v (take k f))
    → length w < 101 → length f < 101 → (k ≡ 0 → ⊥) → decimal_value negative n 0 k e ≡ spelled_of negative w f e
unfolding spelled_of
pointed_is negative w f e k v n a b c h i z =
    past _ _ _ _ (lt-leb 101 (length w) h) (past _ _ _ _ (lt-leb 101 (length f) i) (past _ _ _ _ (ne_eqb (significant f) 0 (λ (y : significant f ≡ 0). z (a ∙ y)))
    (ap (λ (x : ℕ). decimal_value negative x 0 k e) (c ∙ ap (λ (x : ℕ). min 1000000 (numeral_from x (take k f))) b ∙ enough (numeral w) (take k f))
    ∙ as_a_million negative (numeral_from (numeral w) (take k f)) 0 k e
    ∙ ap (λ (x : ℕ). decimal_value negative x 0 k e) (sym (numeral_on 0 w (take k f)))
    ∙ ap (λ (x : ℕ). decimal_value negative (numeral (w ++ take x f)) 0 x e) a)))

pub ruleset spells = (spells_step, spells_end, spells_more)

pub ruleset parts = (nat_tests, significant_le, length-take, whole_is, pointed_is)
