-- A written frame is read as what was written.
use mathlib.Core.Path.{◌≡◌, refl, sym, ap}
use mathlib.Core.Bool.{Bool, true, false, ◌||◌}
use mathlib.Core.List.{List, [], ◌∷◌, ◌++◌}
use Prim.Native.Nat.{ℕ, ◌+◌, ◌-◌, ◌/◌, ◌≤◌}
use native.Mathlib.Nat.{div-div-eq-div-mul}
use native.Mathlib.Omega.{arith}
use borrow.Author.Tests.{eq-eqb, ne_eqb}
use lib.ListN.{length, take, drop, length-append}
use lib.Seq.{take_at, get_or_at, get_or-append-add}
use Rattle.refusals.specs.declared.Refusal.{Refusal}
use Rattle.std.specs.Prelude.{Ok, Result}
use Rattle.buffer.specs.First.{pick}
use Rattle.buffer.specs.Byte.{at, within, is_digit, every, numeral_from, numeral, digit, digits2, digits3}
use Rattle.buffer.proofs.Rules.{past, stop}
use Rattle.frames.specs.Checksum.{checksum_of, end_of, closed}
use Rattle.frames.specs.Frame.{is_letter, body, sum_byte, last_byte, data_from, length_fits, misshapen, wrong_sum, wrong_address, wrong_length, head_v1, head_v2, frame_of}
use Rattle.frame_writer.specs.Written.{frame_v2, frame_v1}
use Rattle.frame_writer.specs.Sendable.{SendableV2, SendableV1}
use Rattle.frames.specs.declared.HeadV1.{HeadV1}
use Rattle.frames.specs.declared.HeadV2.{HeadV2}
use Rattle.frames.specs.declared.Frame.{Frame}
use Rattle.frames.specs.declared.Frame.TheVariants.{V1, V2}
use Rattle.buffer.proofs.Laws.{within_true, within_in, within_below, within_above}
use Rattle.frames_facts.specs.ReadBack.{ReadV2, ReadV1}
use Rattle.frames_facts.specs.Theorems.{ReadBackV2, ReadBackV1}

-- ---- limits

digit_is : (n : ℕ) → is_digit (digit n) ≡ true
digit_is n = within_in 48 57 (digit n) (omega arith) (omega arith)

digit_prints : (n : ℕ) → within 32 126 (digit n) ≡ true
digit_prints n = within_in 32 126 (digit n) (omega arith) (omega arith)

either : (a b : Bool) (P : Type 0) → (a ≡ true → P) → (b ≡ true → P) → (a || b) ≡ true → P
either true b P f g e = f refl
either false b P f g e = g e

letter_is : (b : ℕ) → is_letter b ≡ true → (65 ≤ b) × (b ≤ 122)
unfolding is_letter
letter_is b =
    either
    (within 65 90 b)
    (within 97 122 b)
    ((65 ≤ b) × (b ≤ 122))
    (λ e. let h = within_true 65 90 b e in omega arith)
    (λ e. let h = within_true 97 122 b e in omega arith)

-- ---- a closed body

module _ (b : List ℕ) where
  length_closed : length (closed b) ≡ length b + 2
  unfolding closed end_of
  length_closed = length-append b (end_of b)

  body_closed : body (closed b) ≡ b
  unfolding closed
  body_closed = take_at b (end_of b) (length (closed b) - 2) (omega (arith, length_closed))

  sum_closed : sum_byte (closed b) ≡ checksum_of b
  unfolding closed end_of
  sum_closed = get_or_at b (checksum_of b) (13 ∷ []) 0 (length (closed b) - 2) (omega (arith, length_closed))

  last_closed : last_byte (closed b) ≡ 13
  unfolding closed end_of
  last_closed =
      let n : length (closed b) - 1 ≡ length b + 1 = omega (arith, length_closed) in
      rw n (get_or-append-add b (end_of b) 1 0)

  sum_right : wrong_sum (closed b) ≡ false
  unfolding wrong_sum
  sum_right = rw (body_closed, sum_closed, eq-eqb (checksum_of b) (checksum_of b) refl)

  shape_right : length_fits (closed b) ≡ true → every (within 32 126) b ≡ true → misshapen (closed b) ≡ false
  unfolding misshapen pick checksum_of
  shape_right f e = rw (f, last_closed, body_closed, sum_closed, e, ne_eqb (checksum_of b) 13 (λ q. omega arith))

-- ---- digits

address_back : (a : ℕ) → a ≤ 999 → numeral (digits3 a) ≡ a
unfolding numeral_from
address_back a h = omega (arith, div-div-eq-div-mul a 10 10)

count_back : (n : ℕ) → n ≤ 99 → numeral (digits2 n) ≡ n
unfolding numeral_from
count_back n h = omega arith

address_right : (s : List ℕ) (a : ℕ) → within 1 999 a ≡ true → take 3 s ≡ digits3 a → wrong_address s ≡ false
unfolding wrong_address pick every
address_right s a f e =
    let h = within_true 1 999 a f in
    rw (e, digit_is (a / 100), digit_is (a / 10), digit_is a, address_back a h.1, ne_eqb a 0 (λ q. omega arith))

count_right : (s : List ℕ) (n : ℕ) → n ≤ 99 → take 2 (drop 6 s) ≡ digits2 n → length (data_from 8 s) ≡ n → wrong_length s ≡ false
unfolding wrong_length pick every
count_right s n h e k = rw (e, k, digit_is (n / 10), digit_is n, count_back n h, eq-eqb n n refl)

-- ---- V2

module _ (h : HeadV2) (bytes : List ℕ) (ok : SendableV2 h bytes) where
  abbrev body2 : List ℕ
  body2 = digits3 h.address ++ (h.access ∷ h.first ∷ h.second ∷ []) ++ digits2 (length bytes) ++ bytes

  prints2 : every (within 32 126) body2 ≡ true
  unfolding every
  prints2 =
      let a = within_true 48 57 h.access ok.access_in in
      rw (
        digit_prints (h.address / 100),
        digit_prints (h.address / 10),
        digit_prints h.address,
        within_in 32 126 h.access (omega arith) (omega arith),
        ok.first_in,
        ok.second_in,
        digit_prints (length bytes / 10),
        digit_prints (length bytes),
      ) ok.bytes_in

  fits2 : length_fits (closed body2) ≡ true
  unfolding length_fits pick closed
  fits2 =
      let few = ok.few in
      rw ok.access_in (within_in 10 109 (length (closed body2)) (omega (arith, length_closed body2)) (omega (arith, length_closed body2)))

  no_letter : is_letter (at (closed body2) 3) ≡ false
  unfolding is_letter closed
  no_letter =
      let a = within_true 48 57 h.access ok.access_in in
      rw (within_below 65 90 h.access (omega arith), within_below 97 122 h.access (omega arith))

  rest2 : data_from 8 (closed body2) ≡ bytes
  rest2 = ap (drop 8) (body_closed body2)

  count2 : wrong_length (closed body2) ≡ false
  unfolding closed
  count2 = count_right (closed body2) (length bytes) ok.few refl (ap length rest2)

  address2 : wrong_address (closed body2) ≡ false
  unfolding closed
  address2 = address_right (closed body2) h.address ok.address_in refl

  head2 : ◌≡◌ {A = Result Frame Refusal} (Ok (V2 h)) (Ok (V2 (head_v2 (closed body2))))
  unfolding head_v2 closed
  head2 = rw (address_back h.address (within_true 1 999 h.address ok.address_in).1)

  read2 : Ok (V2 h) ≡ frame_of (closed body2)
  unfolding frame_of
  read2 =
      past
      _
      _
      _
      _
      (shape_right body2 fits2 prints2)
      (past _ _ _ _ (sum_right body2) (past _ _ _ _ address2 (past _ _ _ _ no_letter (past _ _ _ _ count2 head2))))

  back2 : ReadV2 h bytes
  unfolding frame_v2
  back2 = record { head = sym read2; rest = rest2 }

pub read_back_v2 : ReadBackV2
read_back_v2 = back2

-- ---- V1

module _ (h : HeadV1) (bytes : List ℕ) (ok : SendableV1 h bytes) where
  abbrev body1 : List ℕ
  body1 = digits3 h.address ++ (h.letter ∷ []) ++ bytes

  prints1 : every (within 32 126) body1 ≡ true
  unfolding every
  prints1 =
      let l = letter_is h.letter ok.letter_in in
      rw (
        digit_prints (h.address / 100),
        digit_prints (h.address / 10),
        digit_prints h.address,
        within_in 32 126 h.letter (omega arith) (omega arith),
      ) ok.bytes_in

  fits1 : length_fits (closed body1) ≡ true
  unfolding length_fits pick closed
  fits1 =
      let few = ok.few in
      let l = letter_is h.letter ok.letter_in in
      rw (within_above 48 57 h.letter (omega arith), ok.letter_in) (within_in 6 12 (length (closed body1)) (omega (arith, length_closed body1)) (omega (arith, length_closed body1)))

  letter : is_letter (at (closed body1) 3) ≡ true
  unfolding closed
  letter = ok.letter_in

  address1 : wrong_address (closed body1) ≡ false
  unfolding closed
  address1 = address_right (closed body1) h.address ok.address_in refl

  head1 : ◌≡◌ {A = Result Frame Refusal} (Ok (V1 h)) (Ok (V1 (head_v1 (closed body1))))
  unfolding head_v1 closed
  head1 = rw (address_back h.address (within_true 1 999 h.address ok.address_in).1)

  read1 : Ok (V1 h) ≡ frame_of (closed body1)
  unfolding frame_of
  read1 = past _ _ _ _ (shape_right body1 fits1 prints1) (past _ _ _ _ (sum_right body1) (past _ _ _ _ address1 (stop _ _ _ _ letter head1)))

  back1 : ReadV1 h bytes
  unfolding frame_v1
  back1 = record { head = sym read1; rest = ap (drop 4) (body_closed body1) }

pub read_back_v1 : ReadBackV1
read_back_v1 = back1
