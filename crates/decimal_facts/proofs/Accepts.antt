-- Document 01, "Decimal numbers": the reader accepts exactly the texts of the form, each with its exact value.
use mathlib.Core.Path.{◌≡◌, refl, sym, ◌∙◌}
use mathlib.Core.List.{List, ◌++◌, append_assoc}
use mathlib.Core.Logic.{◌↔◌}
use Prim.Native.Nat.{ℕ, ◌^◌, ◌<◌, ◌≤◌}
use native.Mathlib.Omega.{arith}
use lib.ListN.{length, length-append}
use lib.Seq.{take-length}
use Rattle.std.specs.Prelude.{Err, None, Option, Result, Some}
use Rattle.decimal.specs.Form.{scan_of, parsed_of, number_of}
use Rattle.decimal.specs.Exact.{normal_of}
use Rattle.buffer.proofs.Laws.{ten_max}
use Rattle.decimal.proofs.Laws.{numeral_front}
use Rattle.decimal_facts.specs.Grammar.{Parts, Good, dash, point, exponent, spelled_of, meaning}
use Rattle.decimal_facts.specs.Canonical.{OutOfRange}
use Rattle.decimal_facts.proofs.Value.{exact, range, is_zero, no_syntax}
use Rattle.decimal_facts.proofs.Lemmas.Digits.{every_append}
use Rattle.decimal_facts.proofs.Lemmas.Reader.{leading_all, no_dash, signed, unsigned_reads, shape}
use Rattle.decimal_facts.specs.Theorems.{Complete, Sound, SyntaxExactly, ValueExactly, ZeroExactly, RangeExactly}
use Rattle.decimal.specs.declared.Exact.{Exact}
use Rattle.decimal.specs.declared.Number.{Number}
use Rattle.decimal.specs.declared.NumberError.{NumberError}

-- Each text of the form is read, as its value.
pub complete : Complete
unfolding spelled_of
complete p g =
    let t = point p.fraction ++ exponent p.mark p.below p.power in
    rw (append_assoc (dash p.negative ++ p.whole) (point p.fraction), append_assoc (dash p.negative) p.whole)
    (signed p.negative (p.whole ++ t) (no_dash p.whole t g.whole_digits g.some)
    ∙ unsigned_reads p.whole p.fraction p.mark p.below p.power p.negative g)

-- And what is read is a text of the form, with that value.
pub sound : Sound
sound s x e =
    let w = shape s x e in
    let t : spelled_of w.0 ≡ s = w.2 in
    (w.0, w.1, w.2, cc (complete w.0 w.1))

-- at most six digits spell a number below 10 ^ 6
form_six : (p : Parts) → Good p → (meaning p).digits < 10 ^ 6
unfolding meaning
form_six p g =
    let s = p.whole ++ p.fraction in
    let e = every_append p.whole p.fraction g.whole_digits g.fraction_digits in
    let l : length s ≤ 6 = simp length-append g.six in
    omega (arith, rw (take-length s) at (numeral_front s 0 (length s) (omega (arith, leading_all s e))), ten_max (length s) 6 l)

-- a text of the form is answered as its value is
pub form_reads : (p : Parts) → Good p → number_of (spelled_of p) ≡ normal_of (meaning p)
unfolding number_of parsed_of
form_reads p g = rw (complete p g)

-- a text that is not read is SYNTAX
pub no_form : (s : List ℕ) → scan_of s ≡ None → number_of s ≡ Err NumberError.Syntax
unfolding number_of parsed_of
no_form s e = rw e

-- SYNTAX is answered exactly where the text is not of the form
pub syntax_exactly : SyntaxExactly
syntax_exactly s =
    (λ e p g t. no_syntax (meaning p) (form_six p g) (sym (form_reads p g) ∙ rw t e), λ n. go n (scan_of s) refl)
  where
    go : ((p : Parts) → Good p → spelled_of p ≡ s → ⊥) → (r : Option Exact) → scan_of s ≡ r → number_of s ≡ Err NumberError.Syntax
    go n (Some x) e = let w = sound s x e in absurd (n w.0 w.1 w.2)
    go n None e = no_form s e

-- what is answered with a number or RANGE is a text of the form, and answered as its value is
pub of_form : (s : List ℕ) (r : Result Number NumberError) → number_of s ≡ r → (r ≡ Err NumberError.Syntax → ⊥) → (p : Parts) × Good p × (spelled_of p ≡ s) × (normal_of (meaning p) ≡ r)
of_form s r e n = go (scan_of s) refl
  where
    go : (k : Option Exact) → scan_of s ≡ k → (p : Parts) × Good p × (spelled_of p ≡ s) × (normal_of (meaning p) ≡ r)
    go (Some x) k = let w = sound s x k in (w.0, w.1, w.2, sym (form_reads w.0 w.1) ∙ rw w.2 e)
    go None k = absurd (n (sym e ∙ no_form s k))

-- a number is answered exactly where it is the canonical number of the text's value
pub value_exactly : ValueExactly
value_exactly p n g = rw (form_reads p g) (exact (meaning p) n)

-- "`-0` is zero.": zero is answered exactly where the digits before the exponent spell 0, whatever sign, point and exponent
pub zero_exactly : ZeroExactly
zero_exactly p g = rw (form_reads p g) (is_zero (meaning p))

-- RANGE is answered exactly where the value is out of range
pub form_range : (p : Parts) → Good p → (number_of (spelled_of p) ≡ Err NumberError.Range) ↔ OutOfRange (meaning p)
form_range p g =
    rw (form_reads p g)
    (λ e. let w = (range (meaning p)).0 e in (w.0, w.2), λ w. (range (meaning p)).1 (w.0, ((meaning p).digits, 0, form_six p g, omega arith), w.1))

-- and of no other text
pub range_exactly : RangeExactly
range_exactly s = (
  λ e. let w = of_form s (Err NumberError.Range) e (λ z. cc) in (w.0, w.1, w.2, (form_range w.0 w.1).0 (form_reads w.0 w.1 ∙ w.3)),
  λ w. let e : spelled_of w.0 ≡ s = w.2 in rw (← e) ((form_range w.0 w.1).1 w.3),
)
