-- Document 01, "One-digit settings", once, over the largest digit.
use mathlib.Core.Path.{◌≡◌, refl, ap}
use mathlib.Core.Bool.{true, false, not}
use mathlib.Core.List.{List, [], ◌∷◌}
use Prim.Native.Nat.{ℕ, ◌+◌, ◌-◌, ◌<◌, ◌≤◌}
use native.Mathlib.Omega.{arith}
use borrow.Author.Tests.{eqb-true, eqb-false, ltb-true, ltb-false, le-ltb, lt-ltb, not-true, not-false}
use lib.Dec.{eqb, ltb}
use lib.ListN.{length}
use Rattle.std.specs.Prelude.{Err, Ok, Result}
use Rattle.buffer.specs.First.{pick}
use Rattle.buffer.specs.Byte.{at, is_digit}
use Rattle.buffer.proofs.Rules.{each}
use Rattle.buffer.proofs.Laws.{within_true, within_in}
use Rattle.sources.proofs.Laws.{one_byte}
use Rattle.forms.specs.Forms.{digit_data}
use Rattle.forms_facts.specs.Theorems.{DigitExactly, DigitRange, DigitSyntax}
use Rattle.refusals.specs.declared.Refusal.{Refusal}

-- the text is the digit d
record IsDigit (d : ℕ) (s : List ℕ) : Type 0 where
  text : s ≡ (d + 48) ∷ []
  low : d < 10

-- the three answers, and what is then known of the text
data Told (most : ℕ) (s : List ℕ) : Result ℕ Refusal → Type 0 where
  accepted : (d : ℕ) → IsDigit d s → d ≤ most → Told most s (Ok d)
  large : (d : ℕ) → IsDigit d s → most < d → Told most s (Err Refusal.Range)
  other : ((d : ℕ) → IsDigit d s → ⊥) → Told most s (Err Refusal.Syntax)

-- a text of one character from `0` to `9`
one_digit_lem : (s : List ℕ) → length s ≡ 1 → is_digit (at s 0) ≡ true → IsDigit (at s 0 - 48) s
one_digit_lem s e f =
    let w = within_true 48 57 (at s 0) f in
    let v : at s 0 - 48 + 48 ≡ at s 0 = omega arith in
    record { text = rw v (one_byte s e); low = omega arith }

is_digit_lem : (d : ℕ) (s : List ℕ) → IsDigit d s → is_digit (at s 0) ≡ true
is_digit_lem d s h = rw h.text (within_in 48 57 (d + 48) (omega arith) (omega (arith, h.low)))

told : (most : ℕ) (s : List ℕ) → Told most s (digit_data most s)
unfolding digit_data
told most s =
    each (Told most s) (not (eqb (length s) 1)) (Err Refusal.Syntax) _ (λ e. other (λ d h. eqb-false (length s) 1 (not-true _ e) (ap length h.text)))
    (λ e. each (Told most s) (not (is_digit (at s 0))) (Err Refusal.Syntax) _ (λ f. other (λ d h. cc (not-true (is_digit (at s 0)) f, is_digit_lem d s h)))
    (λ f. each (Told most s) (ltb most (at s 0 - 48)) (Err Refusal.Range) (Ok (at s 0 - 48)) (λ g. large (at s 0 - 48) (digit e f) (ltb-true most (at s 0 - 48) g))
    (λ g. accepted (at s 0 - 48) (digit e f) (ltb-false most (at s 0 - 48) g))))
  where
    digit : not (eqb (length s) 1) ≡ false → not (is_digit (at s 0)) ≡ false → IsDigit (at s 0 - 48) s
    digit e f = one_digit_lem s (eqb-true (length s) 1 (not-false _ e)) (not-false _ f)

-- exactly the digits up to `most` are accepted
pub digit_exactly : DigitExactly
unfolding digit_data pick
digit_exactly most s d =
    (λ e. let w = go (digit_data most s) (told most s) e in (w.0, omega (arith, w.1), omega (arith, w.2)), λ w. back w.0 (omega (arith, w.1)) (omega (arith, w.2)))
  where
    go : (r : Result ℕ Refusal) → Told most s r → r ≡ Ok d → (s ≡ (d + 48) ∷ []) × (d ≤ most) × (d < 10)
    go r (accepted k h l) e = let z : k ≡ d = cc in (rw z at h.text, omega arith, omega (arith, h.low))
    go r (large k h l) e = absurd (cc)
    go r (other n) e = absurd (cc)

    back : s ≡ (d + 48) ∷ [] → d ≤ most → d < 10 → digit_data most s ≡ Ok d
    back e h k =
        let z : d + 48 - 48 ≡ d = omega arith in
        rw (e, within_in 48 57 (d + 48) (omega arith) (omega arith), z, le-ltb most d h)

-- "any other digit is RANGE"
pub digit_range : DigitRange
unfolding digit_data pick
digit_range most s = (λ e. go (digit_data most s) (told most s) e, λ w. back w.0 w.1 (omega (arith, w.2)) (omega (arith, w.3)))
  where
    go : (r : Result ℕ Refusal) → Told most s r → r ≡ Err Refusal.Range → (d : ℕ) × (s ≡ (d + 48) ∷ []) × (most < d) × (d < 10)
    go r (accepted k h l) e = absurd (cc)
    go r (large k h l) e = (k, h.text, omega arith, omega (arith, h.low))
    go r (other n) e = absurd (cc)

    back : (d : ℕ) → s ≡ (d + 48) ∷ [] → most < d → d < 10 → digit_data most s ≡ Err Refusal.Range
    back d e h k =
        let z : d + 48 - 48 ≡ d = omega arith in
        rw (e, within_in 48 57 (d + 48) (omega arith) (omega arith), z, lt-ltb most d h)

-- "anything else SYNTAX"
pub digit_syntax : DigitSyntax
digit_syntax most s = (λ e. go (digit_data most s) (told most s) e, λ n. back n (digit_data most s) (told most s))
  where
    go : (r : Result ℕ Refusal) → Told most s r → r ≡ Err Refusal.Syntax → (d : ℕ) → d < 10 → s ≡ (d + 48) ∷ [] → ⊥
    go r (accepted k h l) e = absurd (cc)
    go r (large k h l) e = absurd (cc)
    go r (other n) e = λ d k t. n d (record { text = t; low = k })

    back : ((d : ℕ) → d < 10 → s ≡ (d + 48) ∷ [] → ⊥) → (r : Result ℕ Refusal) → Told most s r → r ≡ Err Refusal.Syntax
    back n r (accepted k h l) = absurd (n k h.low h.text)
    back n r (large k h l) = absurd (n k h.low h.text)
    back n r (other m) = refl
