-- Laws of the checksum and of what a frame is.
use Rattle.std.specs.Prelude.{Option, None, Some, Err, Ok, Result}
use Rattle.std.proofs.Common.{◌≡◌, ℕ, ◌+◌, ◌-◌, ◌*◌, ◌<◌, ◌≤◌, Bool, true, false, not, eqb, leb, List, [], ◌∷◌, length, get_or, take, drop, sym, refl, ap, ◌∙◌, true≢false, arith, drop_of_length-le, length-take, take_all, le-leb}
use mathlib.Core.Bool.{false≢true}
use borrow.Author.Tests.{lt-leb, not-false}
use Rattle.buffer.specs.First.{◌⇒◌, pick, first}
use Rattle.buffer.specs.Byte.{at, within, is_digit, every, numeral_from, numeral}
use Rattle.buffer.proofs.Laws.{drop_step, within_true}
use Rattle.buffer.proofs.Rules.{past, stop, each, flag, not_eqb, not_neqb}
use Rattle.frames.specs.Checksum.{sum_of, checksum_of}
use Rattle.frames.specs.Frame.{is_letter, body, sum_byte, last_byte, length_fits, misshapen, wrong_sum, wrong_address, wrong_length, head_v1, head_v2, frame_of}
use Rattle.frames.specs.declared.Frame.{Frame}
use Rattle.frames.specs.declared.Frame.TheVariants.{V1, Length, V2}
use Rattle.refusals.specs.declared.Refusal.{Refusal}

-- ---- the checksum

pub sum_step : (s : List ℕ) (i : ℕ) → i < length s → sum_of (drop i s) ≡ get_or s i 0 + sum_of (drop (i + 1) s)
unfolding sum_of
sum_step s i h = ap sum_of (drop_step s i h)

-- past the end nothing is left
pub sum_end : (s : List ℕ) (i : ℕ) → length s ≤ i → sum_of (drop i s) ≡ 0
unfolding sum_of
sum_end s i h = ap sum_of (drop_of_length-le s h)

-- the checksum of bytes that are all 32 to 126
abbrev pub printed_sum : List ℕ → Option ℕ
printed_sum s = first (every (within 32 126) s ⇒ Some (checksum_of s) ∷ []) None

pub not_printed : (s : List ℕ) (r : Option ℕ) → r ≡ printed_sum s → r ≡ None → not (every (within 32 126) s) ≡ true
not_printed s r e z = each (λ (x : Option ℕ). None ≡ x → not (every (within 32 126) s) ≡ true) _ _ _ (λ _ h. cc) (λ t _. ap not t) (sym z ∙ e)

pub printed : (s : List ℕ) (k : ℕ) → Some k ≡ printed_sum s → (not (every (within 32 126) s) ≡ false) × (k ≡ checksum_of s)
printed s k = each (λ (x : Option ℕ). Some k ≡ x → (not (every (within 32 126) s) ≡ false) × (k ≡ checksum_of s)) _ _ _ (λ t c. (ap not t, cc)) (λ _ z. cc)

pub all_printed : (s : List ℕ) (k : ℕ) → Some k ≡ printed_sum s → not (every (within 32 126) s) ≡ false
all_printed s k e = (printed s k e).0

pub sum_differs : (s : List ℕ) (k : ℕ) → Some k ≡ printed_sum (body s) → (sum_byte s ≡ k → ⊥) → wrong_sum s ≡ true
unfolding wrong_sum
sum_differs s k e d = rw (← (printed (body s) k e).1) (not_neqb _ _ d)

pub sum_agrees : (s : List ℕ) (k : ℕ) → Some k ≡ printed_sum (body s) → sum_byte s ≡ k → wrong_sum s ≡ false
unfolding wrong_sum
sum_agrees s k e a = rw (← (printed (body s) k e).1) (not_eqb _ _ a)

pub ruleset sums = (not_printed, all_printed, sum_differs, sum_agrees)

-- ---- limits

-- from low on the upper limit decides; below low it is false
pub in_low : (low high n : ℕ) → low ≤ n → leb n high ≡ within low high n
unfolding within
in_low low high n h = rw (le-leb low n h)

pub out_low : (low high n : ℕ) → n < low → leb low n ≡ within low high n
unfolding within
out_low low high n h = rw (lt-leb low n h)

-- ---- shape

-- bytes that are six or more, and ten or more where byte 3 is no letter
pub record Enough (s : List ℕ) : Type 0 where
  pub six : 6 ≤ length s
  pub ten : is_letter (at s 3) ≡ false → 10 ≤ length s

pub fits : (s : List ℕ) → length_fits s ≡ true → Enough s
unfolding length_fits
fits s =
    each
    (λ (x : Bool). x ≡ true → Enough s)
    _
    _
    _
    (λ _ e. let h = within_true 10 109 (length s) e in record { six = omega arith; ten = λ _. h.0 })
    (λ _.
    each
    (λ (x : Bool). x ≡ true → Enough s)
    _
    _
    _
    (λ l e. record { six = (within_true 6 12 (length s) e).0; ten = λ k. absurd (true≢false (sym l ∙ k)) })
    (λ _ e. absurd (false≢true e)))

-- by byte 3: a digit, a letter, another, or none
module _ (s : List ℕ) (b : ℕ) (h : b ≡ at s 3) where
  pub as_v2 : (r : Bool) → is_digit b ≡ true → r ≡ within 10 109 (length s) → r ≡ length_fits s
  unfolding length_fits
  as_v2 r d e = stop _ _ _ _ (ap is_digit (sym h) ∙ d) e

  pub as_v1 : (r : Bool) → is_digit b ≡ false → is_letter b ≡ true → r ≡ within 6 12 (length s) → r ≡ length_fits s
  unfolding length_fits
  as_v1 r d l e = past _ _ _ _ (ap is_digit (sym h) ∙ d) (stop _ _ _ _ (ap is_letter (sym h) ∙ l) e)

  pub as_other : is_digit b ≡ false → is_letter b ≡ false → false ≡ length_fits s
  unfolding length_fits
  as_other d l = past _ _ _ _ (ap is_digit (sym h) ∙ d) (past _ _ _ _ (ap is_letter (sym h) ∙ l) refl)

pub too_short : (s : List ℕ) → length s < 6 → false ≡ length_fits s
unfolding length_fits
too_short s h =
    each
    (λ (x : Bool). false ≡ x)
    _
    _
    _
    (λ _. sym (lt-leb 10 (length s) (omega arith)) ∙ out_low 10 109 (length s) (omega arith))
    (λ _.
    each
    (λ (x : Bool). false ≡ x)
    _
    _
    _
    (λ _. sym (lt-leb 6 (length s) (omega arith)) ∙ out_low 6 12 (length s) (omega arith))
    (λ _. refl))

-- ---- refusals

-- the first of 2, 3 and 4 that applies
abbrev pub checked : List ℕ → Result (Unit {0}) Refusal
checked s = first (misshapen s ⇒ Err Refusal.Shape ∷ wrong_sum s ⇒ Err Refusal.Checksum ∷ wrong_address s ⇒ Err Refusal.Address ∷ []) (Ok (tt {0}))

-- with the tests of the shape in their order
pub checked_rows : (s : List ℕ)
    → checked s
    ≡ first
    (not (length_fits s) ⇒ Err Refusal.Shape
    ∷ not (eqb (last_byte s) 13) ⇒ Err Refusal.Shape
    ∷ eqb (sum_byte s) 13 ⇒ Err Refusal.Shape
    ∷ not (every (within 32 126) (body s)) ⇒ Err Refusal.Shape
    ∷ wrong_sum s ⇒ Err Refusal.Checksum
    ∷ wrong_address s ⇒ Err Refusal.Address
    ∷ [])
    (Ok (tt {0}))
unfolding misshapen pick
checked_rows s =
    go (not (length_fits s)) (not (eqb (last_byte s) 13)) (eqb (sum_byte s) 13) (not (every (within 32 126) (body s))) (first (wrong_sum s ⇒ Err Refusal.Checksum ∷ wrong_address s ⇒ Err Refusal.Address ∷ []) (Ok (tt {0})))
  where
    go : (a b c d : Bool) (r : Result (Unit {0}) Refusal)
        → pick (pick a true (pick b true (pick c true (pick d true false)))) (Err Refusal.Shape) r
        ≡ pick a (Err Refusal.Shape) (pick b (Err Refusal.Shape) (pick c (Err Refusal.Shape) (pick d (Err Refusal.Shape) r)))
    go true b c d r = refl
    go false true c d r = refl
    go false false true d r = refl
    go false false false true r = refl
    go false false false false r = refl

-- bytes that are not refused
pub shaped : (s : List ℕ) → Ok (tt {0}) ≡ checked s → Enough s
shaped s e =
    each (λ (x : Result (Unit {0}) Refusal). Ok (tt {0}) ≡ x → Enough s) _ _ _ (λ _ h. cc) (λ t _. fits s (not-false _ t)) (e ∙ checked_rows s)

-- bytes as a frame: refused, or not
pub frame_refused : (s : List ℕ) (k : Refusal) → Err k ≡ checked s → Err k ≡ frame_of s
unfolding frame_of pick
frame_refused s k e = go (misshapen s) (wrong_sum s) (wrong_address s) (first (is_letter (at s 3) ⇒ Ok (V1 (head_v1 s)) ∷ wrong_length s ⇒ Ok (Length (head_v2 s)) ∷ []) (Ok (V2 (head_v2 s)))) e
  where
    go : (a b c : Bool) (f : Result Frame Refusal)
        → Err k ≡ pick a (Err Refusal.Shape) (pick b (Err Refusal.Checksum) (pick c (Err Refusal.Address) (Ok (tt {0}))))
        → Err k ≡ pick a (Err Refusal.Shape) (pick b (Err Refusal.Checksum) (pick c (Err Refusal.Address) f))
    go true b c f e = cc
    go false true c f e = cc
    go false false true f e = cc
    go false false false f e = cc

pub frame_rows : (s : List ℕ) → Ok (tt {0}) ≡ checked s
    → frame_of s ≡ first (is_letter (at s 3) ⇒ Ok (V1 (head_v1 s)) ∷ wrong_length s ⇒ Ok (Length (head_v2 s)) ∷ []) (Ok (V2 (head_v2 s)))
unfolding frame_of pick
frame_rows s e = go (misshapen s) (wrong_sum s) (wrong_address s) (first (is_letter (at s 3) ⇒ Ok (V1 (head_v1 s)) ∷ wrong_length s ⇒ Ok (Length (head_v2 s)) ∷ []) (Ok (V2 (head_v2 s)))) e
  where
    go : (a b c : Bool) (f : Result Frame Refusal)
        → Ok (tt {0}) ≡ pick a (Err Refusal.Shape) (pick b (Err Refusal.Checksum) (pick c (Err Refusal.Address) (Ok (tt {0}))))
        → pick a (Err Refusal.Shape) (pick b (Err Refusal.Checksum) (pick c (Err Refusal.Address) f)) ≡ f
    go true b c f e = cc
    go false true c f e = cc
    go false false true f e = cc
    go false false false f e = refl

-- a last row that gives true, with false otherwise, is its test
pub last_row : (t : Bool) → t ≡ pick t true false
unfolding pick
last_row true = refl
last_row false = refl

-- ---- numerals

-- what three characters spell
pub numeral_3 : (s : List ℕ) → 3 ≤ length s → numeral (take 3 s) ≡ ((at s 0 - 48) * 10 + (at s 1 - 48)) * 10 + (at s 2 - 48)
unfolding numeral_from
numeral_3 [] h = omega arith
numeral_3 (a ∷ []) h = omega arith
numeral_3 (a ∷ b ∷ []) h = omega arith
numeral_3 (a ∷ b ∷ c ∷ s) h = omega arith

-- a numeral of at most six characters is read whole
pub numeral_part : (n : ℕ) (s : List ℕ) → n ≤ 6 → numeral (take 6 (take n s)) ≡ numeral (take n s)
numeral_part n s h = ap (numeral_from 0) (take_all 6 (take n s) (simp length-take (omega arith)))

-- ---- tests that a function made

-- the negation of a test whose result is the negation of v
turned : (t v r : Bool) → r ≡ t → r ≡ not v → not t ≡ v
turned t true r e h = ap not (sym e ∙ h)
turned t false r e h = ap not (sym e ∙ h)

pub within_flag : (low high b : ℕ) (v r : Bool) → r ≡ within low high b → r ≡ v → within low high b ≡ v
within_flag low high b v r = flag (within low high b) v r

pub letter_flag : (b : ℕ) (v r : Bool) → r ≡ is_letter b → r ≡ v → is_letter b ≡ v
letter_flag b v r = flag (is_letter b) v r

pub fits_unflag : (s : List ℕ) (v r : Bool) → r ≡ length_fits s → r ≡ not v → not (length_fits s) ≡ v
fits_unflag s v r = turned (length_fits s) v r

pub digits_unflag : (s : List ℕ) (v r : Bool) → r ≡ every (within 48 57) s → r ≡ not v → not (every is_digit s) ≡ v
digits_unflag s v r = turned (every is_digit s) v r

pub address_flag : (s : List ℕ) (v r : Bool) → r ≡ wrong_address s → r ≡ v → wrong_address s ≡ v
address_flag s v r = flag (wrong_address s) v r

pub length_flag : (s : List ℕ) (v r : Bool) → r ≡ wrong_length s → r ≡ v → wrong_length s ≡ v
length_flag s v r = flag (wrong_length s) v r

pub ruleset flags = (within_flag, letter_flag, fits_unflag, digits_unflag, address_flag, length_flag)
