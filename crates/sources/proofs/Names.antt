-- What texts of one and of two characters name.
use Rattle.std.proofs.Common.{◌≡◌, ◌≢◌, ℕ, ◌≤◌, false, List, [], ◌∷◌, Err, length, refl, arith}
use mathlib.Core.Bool.{and-false}
use borrow.Author.Tests.{ne_eqb}
use Rattle.std.proofs.lemmas.Bool.Decides.{nat_tests}
use Rattle.buffer.specs.First.{pick}
use Rattle.buffer.specs.Byte.{at, within, is_digit, same_text}
use Rattle.buffer.proofs.Laws.{within_in}
use Rattle.sources.specs.Source.{known_sources, source_of, is_source, find_source, source_text}
use Rattle.sources.specs.declared.SourceError.{SourceError}
use Rattle.sources.proofs.Laws.{short_form, long_form, digit_no_t, not_short}

-- what a text of this length gives is what its characters give
pub one : {A : Type 0} (f : List ℕ → A) (t : List ℕ) (a : ℕ) {r : A} → length t ≡ 1 → at t 0 ≡ a → r ≡ f (a ∷ []) → r ≡ f t
one f [] a h e g = absurd (omega arith)
one f (x ∷ []) a h e g = rw e g
one f (x ∷ y ∷ t) a h e g = absurd (omega arith)

pub two : {A : Type 0} (f : List ℕ → A) (t : List ℕ) (a b : ℕ) {r : A} → length t ≡ 2 → at t 0 ≡ a → at t 1 ≡ b → r ≡ f (a ∷ b ∷ []) → r ≡ f t
two f [] a b h e k g = absurd (omega arith)
two f (x ∷ []) a b h e k g = absurd (omega arith)
two f (x ∷ y ∷ []) a b h e k g = rw (e, k) g
two f (x ∷ y ∷ z ∷ t) a b h e k g = absurd (omega arith)

no_digit : (b : ℕ) → (48 ≤ b → b ≤ 57 → ⊥) → is_digit b ≡ false
unfolding within
no_digit b h = grind (arith, nat_tests)

abbrev Unknown : List ℕ → Type 0
Unknown t = Err SourceError.Unknown ≡ source_of known_sources t

abbrev Malformed : List ℕ → Type 0
Malformed t = Err SourceError.Malformed ≡ source_of known_sources t

-- a digit that is no source
pub other_digit : (t : List ℕ) → length t ≡ 1 → 48 ≤ at t 0 → at t 0 ≤ 57 → at t 0 ≢ 48 → at t 0 ≢ 49 → at t 0 ≢ 50 → at t 0 ≢ 54 → at t 0 ≢ 55 → Unknown t
unfolding source_of find_source source_text same_text pick
other_digit t n l h a b c d e =
    let x = at t 0 in
    one (source_of known_sources) t x n refl (rw (short_form x, within_in 48 57 x l h, ne_eqb x 48 a, ne_eqb x 49 b, ne_eqb x 50 c, ne_eqb x 54 d, ne_eqb x 55 e))

pub no_source : (t : List ℕ) → length t ≡ 1 → (48 ≤ at t 0 → at t 0 ≤ 57 → ⊥) → Malformed t
unfolding source_of pick
no_source t n h = let x = at t 0 in one (source_of known_sources) t x n refl (rw (short_form x, no_digit x h))

-- two digits
pub two_digits : (t : List ℕ) → length t ≡ 2 → 48 ≤ at t 0 → at t 0 ≤ 57 → 48 ≤ at t 1 → at t 1 ≤ 57 → Unknown t
unfolding source_of find_source source_text same_text pick
two_digits t n l h m k =
    let x = at t 0 in
    let y = at t 1 in
    let d = within_in 48 57 x l h in
    two (source_of known_sources) t x y n refl refl (rw (long_form x y, within_in 48 57 y m k, d) (simp (digit_no_t x d, and-false)))

-- `T` and a digit that is no source
pub other_t : (t : List ℕ) → length t ≡ 2 → at t 0 ≡ 84 → 48 ≤ at t 1 → at t 1 ≤ 57 → at t 1 ≢ 50 → at t 1 ≢ 54 → Unknown t
unfolding source_of find_source source_text same_text within pick
other_t t n e m k a b =
    let y = at t 1 in
    two (source_of known_sources) t 84 y n e refl (rw (long_form 84 y, within_in 48 57 y m k, ne_eqb y 50 a, ne_eqb y 54 b))

pub no_digit_last : (t : List ℕ) → length t ≡ 2 → (48 ≤ at t 1 → at t 1 ≤ 57 → ⊥) → Malformed t
unfolding source_of pick
no_digit_last t n h = let x = at t 0 in let y = at t 1 in two (source_of known_sources) t x y n refl refl (rw (long_form x y, no_digit y h))

pub no_digit_first : (t : List ℕ) → length t ≡ 2 → at t 0 ≢ 84 → (48 ≤ at t 0 → at t 0 ≤ 57 → ⊥) → Malformed t
unfolding source_of pick
no_digit_first t n e h =
    let x = at t 0 in
    let y = at t 1 in
    two (source_of known_sources) t x y n refl refl (rw (long_form x y, no_digit x h, ne_eqb x 84 e, and-false))

pub other_length : (t : List ℕ) → length t ≢ 1 → length t ≢ 2 → Malformed t
unfolding source_of is_source pick
other_length t h k = rw (not_short (length t) h k, ne_eqb (length t) 2 k) (simp and-false)
