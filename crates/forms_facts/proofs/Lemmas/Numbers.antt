-- Numbers that a reader answers, and their texts.
use mathlib.Core.Path.{◌≡◌, refl}
use mathlib.Core.Bool.{Bool, true, false}
use mathlib.Core.List.{List, [], ◌∷◌, ◌++◌}
use mathlib.Core.Logic.{◌⊎◌, inl, inr}
use Prim.Native.Nat.{ℕ}
use native.Mathlib.Omega.{arith}
use borrow.Author.Tests.{ne_eqb}
use lib.Dec.{eqb}
use Rattle.std.specs.Prelude.{None, Ok, Option, Some}
use Rattle.buffer.specs.Byte.{is_digit, every}
use Rattle.buffer.proofs.Laws.{within_true}
use Rattle.decimal.specs.Form.{scan_of, number_of}
use Rattle.decimal.specs.declared.Number.{Number}
use Rattle.decimal_facts.specs.Grammar.{Parts, Good, dash, point, exponent, spelled_of}
use Rattle.decimal_facts.specs.Canonical.{Canonical}
use Rattle.decimal_facts.proofs.Accepts.{sound, no_form, value_exactly}
use Rattle.forms_facts.proofs.Lemmas.Lacks.{lacks, split, lacks_append}
use Rattle.decimal.specs.declared.Exact.{Exact}

-- a text that is read is of the form
pub read_form : (s : List ℕ) (n : Number) → number_of s ≡ Ok n → (p : Parts) × Good p × (spelled_of p ≡ s)
read_form s n e = go (scan_of s) refl
  where
    go : (r : Option Exact) → scan_of s ≡ r → (p : Parts) × Good p × (spelled_of p ≡ s)
    go (Some x) f = let w = sound s x f in (w.0, w.1, w.2)
    go None f = absurd (cc (no_form s f))

-- a number that is read is canonical
pub read_canonical : (s : List ℕ) (n : Number) → number_of s ≡ Ok n → Canonical n
read_canonical s n e = let w = read_form s n e in ((value_exactly w.0 n w.1).0 (rw w.2 e)).canonical

-- ---- a text that is read has no `T`

digits_lack : (s : List ℕ) → every is_digit s ≡ true → lacks 84 s ≡ true
unfolding every lacks
digits_lack [] e = refl
digits_lack (x ∷ s) e =
    let w = split (is_digit x) (every is_digit s) e in
    let d = within_true 48 57 x w.0 in
    rw (ne_eqb x 84 (λ (z : x ≡ 84). omega (arith, d.0, d.1))) (digits_lack s w.1)

dash_lack : (b : Bool) → lacks 84 (dash b) ≡ true
unfolding lacks dash
dash_lack true = refl
dash_lack false = refl

point_lack : (s : List ℕ) → lacks 84 s ≡ true → lacks 84 (point s) ≡ true
unfolding lacks point
point_lack [] e = refl
point_lack (x ∷ s) e = e

mark_lack : (mark : ℕ) → (mark ≡ 101) ⊎ (mark ≡ 69) → eqb mark 84 ≡ false
mark_lack mark (inl e) = rw e
mark_lack mark (inr e) = rw e

exponent_lack : (mark : ℕ) (b : Bool) (s : List ℕ) → eqb mark 84 ≡ false → lacks 84 s ≡ true → lacks 84 (exponent mark b s) ≡ true
unfolding lacks exponent
exponent_lack mark b [] m e = refl
exponent_lack mark b (x ∷ s) m e = rw m (lacks_append 84 (dash b) (x ∷ s) (dash_lack b) e)

form_lacks : (p : Parts) → Good p → lacks 84 (spelled_of p) ≡ true
unfolding spelled_of
form_lacks p g =
    let a = lacks_append 84 (dash p.negative) p.whole (dash_lack p.negative) (digits_lack p.whole g.whole_digits) in
    let b = lacks_append 84 (dash p.negative ++ p.whole) (point p.fraction) a (point_lack p.fraction (digits_lack p.fraction g.fraction_digits)) in
    lacks_append 84 (dash p.negative ++ p.whole ++ point p.fraction) (exponent p.mark p.below p.power) b
    (exponent_lack p.mark p.below p.power (mark_lack p.mark g.marked) (digits_lack p.power g.power_digits))

pub read_lacks : (s : List ℕ) (n : Number) → number_of s ≡ Ok n → lacks 84 s ≡ true
read_lacks s n e = let w = read_form s n e in rw w.2 at (form_lacks w.0 w.1)
