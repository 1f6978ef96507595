-- The master's rows, at a frame that was written.
use mathlib.Core.Path.{◌≡◌, refl, sym, ap, ◌∙◌}
use mathlib.Core.Bool.{true, false, not, and-false, and-eq-true_iff}
use mathlib.Core.List.{List, [], ◌∷◌, ◌++◌}
use Prim.Native.Nat.{ℕ, ◌-◌, ◌≤◌}
use native.Mathlib.Omega.{arith}
use borrow.Author.Tests.{eq-eqb, ne_eqb}
use lib.Dec.{eqb}
use lib.ListN.{length, drop, length-append}
use lib.Seq.{take_at}
use Rattle.std.specs.Prelude.{Err, Ok, Result}
use Rattle.buffer.specs.First.{◌⇒◌, first, pick}
use Rattle.buffer.specs.Byte.{at, within, is_digit, every, same_text, digits3}
use Rattle.buffer.proofs.Laws.{within_true, within_in}
use Rattle.frames.specs.Checksum.{end_of, closed}
use Rattle.frames.specs.Frame.{is_letter, address_of, data_from, head_v1, frame_of}
use Rattle.frames.specs.declared.HeadV1.{HeadV1}
use Rattle.frames.specs.declared.Frame.TheVariants.{V1}
use Rattle.frame_writer.specs.Written.{frame_v1}
use Rattle.error_texts.specs.Texts.{error_bytes}
use Rattle.error_texts.specs.declared.ErrorText.TheVariants.{Logic, NoDef, Range}
use Rattle.frames_facts.proofs.Shape.{Framed, Tells, tells}
use Rattle.frame_writer.specs.Sendable.{SendableV1}
use Rattle.frames_facts.proofs.ReadBack.{read_back_v1}
use Rattle.requests.specs.declared.RequestV1.{RequestV1}
use Rattle.requests.specs.declared.RequestV1.TheVariants.{Measure, ReadFactor, Unlock, SetFactor, ReadUnit, SetUnit}
use Rattle.request_texts.specs.RequestText.{letter_v1, head_for_v1}
use Rattle.printed_facts.proofs.Sendable as printed
use Rattle.replies_v1.specs.ReplyV1.{not_v1, other_address, other_letter, error_at, value_v1, read_v1}
use Rattle.replies_v1.specs.declared.ReplyV1.TheVariants.{Error}
use Rattle.refusals.specs.declared.Refusal.{Refusal}
use Rattle.replies_v1.specs.declared.ReplyV1.{ReplyV1}

-- ---- a frame with this letter and these data

abbrev pub head_of : ℕ → ℕ → HeadV1
head_of a l = record { address = a; letter = l }

-- what bytes are that were read as a V1 frame from address a with letter l
pub record Seen (a l : ℕ) (s : List ℕ) : Type 0 where
  pub framed : Framed s
  pub letter_in : is_letter (at s 3) ≡ true
  pub address : address_of s ≡ a
  pub letter : at s 3 ≡ l

pub seen : (a l : ℕ) (s : List ℕ) → frame_of s ≡ Ok (V1 (head_of a l)) → Seen a l s
unfolding head_v1
seen a l s e =
    let t : Tells s (Ok (V1 (head_of a l))) = rw e at (tells s) in
    record {
      framed = t.0;
      letter_in = t.1;
      address = sym (ap (λ (h : HeadV1). h.address) t.2);
      letter = sym (ap (λ (h : HeadV1). h.letter) t.2);
    }

-- from byte 3 on stand the letter and the data
from_letter : (h : HeadV1) (d : List ℕ) → data_from 3 (frame_v1 h d) ≡ h.letter ∷ d
unfolding frame_v1 closed end_of
from_letter h d =
    let b = digits3 h.address ++ (h.letter ∷ []) ++ d in
    ap (drop 3) (take_at b (end_of b) (length (closed b) - 2) (simp length-append (omega arith)))

-- ---- the rows past the address

-- what is left to ask of a letter and data from the address that was asked
abbrev pub rest : RequestV1 → ℕ → List ℕ → Result ReplyV1 Refusal
rest r l d =
    first
    (same_text (l ∷ d) (error_bytes NoDef) ⇒ Ok (Error NoDef)
    ∷ not (eqb l (letter_v1 r)) ⇒ Err Refusal.Mismatch
    ∷ same_text d (error_bytes Logic) ⇒ Ok (Error Logic)
    ∷ same_text d (error_bytes Range) ⇒ Ok (Error Range)
    ∷ [])
    (value_v1 r d)

rows_read : (a l : ℕ) (r : RequestV1) (s d : List ℕ) → Seen a l s → data_from 3 s ≡ l ∷ d → data_from 4 s ≡ d → read_v1 a r s ≡ rest r l d
unfolding read_v1 not_v1 other_address other_letter error_at pick
rows_read a l r s d f e h =
    rw (e, h, f.letter_in, f.framed.shape, f.framed.sum, f.framed.address, f.address, eq-eqb a a refl, f.letter)

pub frame_read : (a l : ℕ) (r : RequestV1) (d : List ℕ) → SendableV1 (head_of a l) d → read_v1 a r (frame_v1 (head_of a l) d) ≡ rest r l d
frame_read a l r d ok =
    let b = read_back_v1 (head_of a l) d ok in
    rows_read a l r (frame_v1 (head_of a l) d) d (seen a l (frame_v1 (head_of a l) d) b.head) (from_letter (head_of a l) d) b.rest

-- ---- the request's letter with digits

-- the request's letter is not `N`
pub no_n : (r : RequestV1) → eqb (letter_v1 r) 78 ≡ false
unfolding letter_v1
no_n Measure = refl
no_n ReadFactor = refl
no_n Unlock = refl
no_n (SetFactor n) = refl
no_n ReadUnit = refl
no_n (SetUnit u) = refl

pub not_first : (x y : ℕ) (s t : List ℕ) → eqb x y ≡ false → same_text (x ∷ s) (y ∷ t) ≡ false
unfolding same_text
not_first x y s t e = rw e (and-false (same_text s t))

-- digits are no text that begins with `_`
no_error : (d t : List ℕ) → every is_digit d ≡ true → same_text d (95 ∷ t) ≡ false
unfolding same_text every
no_error [] t e = refl
no_error (x ∷ d) t e =
    let h = within_true 48 57 x ((and-eq-true_iff (is_digit x) (every is_digit d)).0 e).0 in
    rw (ne_eqb x 95 (λ z. omega arith)) (and-false (same_text d t))

digits_print : (d : List ℕ) → every is_digit d ≡ true → every (within 32 126) d ≡ true
unfolding every
digits_print [] e = refl
digits_print (x ∷ d) e =
    let p = (and-eq-true_iff (is_digit x) (every is_digit d)).0 e in
    let h = within_true 48 57 x p.0 in
    rw (within_in 32 126 x (omega arith) (omega arith)) (digits_print d p.1)

digits_rest : (r : RequestV1) (d : List ℕ) → every is_digit d ≡ true → rest r (letter_v1 r) d ≡ value_v1 r d
unfolding error_bytes pick
digits_rest r d e =
    rw (
      not_first (letter_v1 r) 78 d (79 ∷ 95 ∷ 68 ∷ 69 ∷ 70 ∷ []) (no_n r),
      eq-eqb (letter_v1 r) (letter_v1 r) refl,
      no_error d (76 ∷ 79 ∷ 71 ∷ 73 ∷ 67 ∷ []) e,
      no_error d (82 ∷ 65 ∷ 78 ∷ 71 ∷ 69 ∷ []) e,
    )

-- digits that come with the request's letter, from the address that was asked, are read as its value
pub digits_read : (a : ℕ) (r : RequestV1) (d : List ℕ) → within 1 999 a ≡ true → every is_digit d ≡ true → length d ≤ 6 → read_v1 a r (frame_v1 (head_for_v1 a r) d) ≡ value_v1 r d
digits_read a r d i e few =
    let ok : SendableV1 (head_for_v1 a r) d = record { address_in = i; letter_in = printed.letter_in r; bytes_in = digits_print d e; few = few } in
    frame_read a (letter_v1 r) r d ok ∙ digits_rest r d e
