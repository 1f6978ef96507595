-- What the checks of a frame tell of its bytes.
use mathlib.Core.Path.{◌≡◌, refl, sym, ◌∙◌}
use mathlib.Core.Bool.{Bool, true, false, and-eq-true_iff, true≢false, false≢true}
use mathlib.Core.List.{List, [], ◌∷◌, ◌++◌}
use Prim.Native.Nat.{ℕ, zero, suc, ◌+◌, ◌-◌, ◌*◌, ◌/◌, ◌%◌, ◌<◌, ◌≤◌}
use native.Mathlib.Omega.{arith}
use borrow.Author.Tests.{not-false, eqb-true, eqb-false}
use lib.ListN.{length, take, drop, length-take, length-drop, drop_of_length-le}
use lib.Seq.{take-take, get_or-take, split_at, drop-cons}
use Rattle.std.specs.Prelude.{Err, Ok, Result}
use Rattle.buffer.specs.First.{pick}
use Rattle.buffer.specs.Byte.{at, within, is_digit, every, numeral_from, numeral, digits2, digits3}
use Rattle.buffer.proofs.Laws.{within_true, within_in, within_below, part_middle}
use Rattle.buffer.proofs.Rules.{each}
use Rattle.frames.specs.Checksum.{checksum_of, end_of, closed}
use Rattle.frames.specs.Frame.{is_letter, body, sum_byte, last_byte, data_from, address_of, length_fits, misshapen, wrong_sum, wrong_address, wrong_length, head_v1, head_v2, frame_of}
use Rattle.frames.specs.declared.Frame.{Frame}
use Rattle.frames.specs.declared.Frame.TheVariants.{V1, Length, V2}
use Rattle.refusals.specs.declared.Refusal.{Refusal}

-- ---- tests

-- rows that give true, and false otherwise: where they give false each test failed
rows_false : (t b : Bool) → pick t true b ≡ false → (t ≡ false) × (b ≡ false)
unfolding pick
rows_false true b e = absurd (true≢false e)
rows_false false b e = (refl, e)

-- each element of a list that passes a test passes it, and so does each end of the list
every_at : (p : ℕ → Bool) (l : List ℕ) (i : ℕ) → every p l ≡ true → i < length l → p (at l i) ≡ true
unfolding every
every_at p [] i e h = absurd (omega arith)
every_at p (x ∷ l) zero e h = ((and-eq-true_iff (p x) (every p l)).0 e).0
every_at p (x ∷ l) (suc i) e h = every_at p l i ((and-eq-true_iff (p x) (every p l)).0 e).1 (omega arith)

every_drop : (p : ℕ → Bool) (n : ℕ) (l : List ℕ) → every p l ≡ true → every p (drop n l) ≡ true
unfolding every
every_drop p zero l e = e
every_drop p (suc n) [] e = e
every_drop p (suc n) (x ∷ l) e = every_drop p n l ((and-eq-true_iff (p x) (every p l)).0 e).1

-- ---- digits

-- three digits, and two, are those of the number that they spell
three : (l : List ℕ) → length l ≡ 3 → every is_digit l ≡ true → (l ≡ digits3 (numeral l)) × (numeral l ≤ 999)
unfolding numeral_from
three [] n e = absurd (omega arith)
three (a ∷ []) n e = absurd (omega arith)
three (a ∷ b ∷ []) n e = absurd (omega arith)
three (a ∷ b ∷ c ∷ x ∷ l) n e = absurd (omega arith)
three (a ∷ b ∷ c ∷ []) n e =
    let p = within_true 48 57 a (every_at is_digit (a ∷ b ∷ c ∷ []) 0 e (omega arith)) in
    let q = within_true 48 57 b (every_at is_digit (a ∷ b ∷ c ∷ []) 1 e (omega arith)) in
    let r = within_true 48 57 c (every_at is_digit (a ∷ b ∷ c ∷ []) 2 e (omega arith)) in
    let v : ℕ = numeral (a ∷ b ∷ c ∷ []) in
    let x : a ≡ v / 100 % 10 + 48 = omega arith in
    let t : v / 10 ≡ (a - 48) * 10 + (b - 48) = omega arith in
    let y : b ≡ v / 10 % 10 + 48 = rw t (omega arith) in
    let z : c ≡ v % 10 + 48 = omega arith in
    (cc, omega arith)

two : (l : List ℕ) → length l ≡ 2 → every is_digit l ≡ true → l ≡ digits2 (numeral l)
unfolding numeral_from
two [] n e = absurd (omega arith)
two (a ∷ []) n e = absurd (omega arith)
two (a ∷ b ∷ x ∷ l) n e = absurd (omega arith)
two (a ∷ b ∷ []) n e =
    let p = within_true 48 57 a (every_at is_digit (a ∷ b ∷ []) 0 e (omega arith)) in
    let q = within_true 48 57 b (every_at is_digit (a ∷ b ∷ []) 1 e (omega arith)) in
    let v : ℕ = numeral (a ∷ b ∷ []) in
    let x : a ≡ v / 10 % 10 + 48 = omega arith in
    let y : b ≡ v % 10 + 48 = omega arith in
    cc

-- ---- parts

-- bytes that are two or more are the body, the checksum's byte and the last byte
in_parts : (s : List ℕ) → 2 ≤ length s → s ≡ body s ++ (sum_byte s ∷ last_byte s ∷ [])
in_parts s h =
    let n : ℕ = length s - 2 in
    let m : suc n ≡ length s - 1 = omega arith in
    let e : drop (suc (suc n)) s ≡ [] = drop_of_length-le s {i = suc (suc n)} (omega arith) in
    let t : drop (suc n) s ≡ last_byte s ∷ [] = drop-cons s (suc n) 0 (omega arith) ∙ rw (e, m) in
    split_at s n 0 (omega arith) ∙ rw t

-- a body of eight bytes or more is the head, and what is left; and of four or more
pub eight : (b : List ℕ) → 8 ≤ length b → b ≡ take 3 b ++ (at b 3 ∷ at b 4 ∷ at b 5 ∷ []) ++ take 2 (drop 6 b) ++ drop 8 b
eight [] h = absurd (omega arith)
eight (a ∷ []) h = absurd (omega arith)
eight (a ∷ b ∷ []) h = absurd (omega arith)
eight (a ∷ b ∷ c ∷ []) h = absurd (omega arith)
eight (a ∷ b ∷ c ∷ d ∷ []) h = absurd (omega arith)
eight (a ∷ b ∷ c ∷ d ∷ e ∷ []) h = absurd (omega arith)
eight (a ∷ b ∷ c ∷ d ∷ e ∷ f ∷ []) h = absurd (omega arith)
eight (a ∷ b ∷ c ∷ d ∷ e ∷ f ∷ g ∷ []) h = absurd (omega arith)
eight (a ∷ b ∷ c ∷ d ∷ e ∷ f ∷ g ∷ i ∷ l) h = refl

pub four : (b : List ℕ) → 4 ≤ length b → b ≡ take 3 b ++ (at b 3 ∷ []) ++ drop 4 b
four [] h = absurd (omega arith)
four (a ∷ []) h = absurd (omega arith)
four (a ∷ b ∷ []) h = absurd (omega arith)
four (a ∷ b ∷ c ∷ []) h = absurd (omega arith)
four (a ∷ b ∷ c ∷ d ∷ l) h = refl

-- ---- checks

-- bytes that pass checks 2, 3 and 4
pub record Framed (s : List ℕ) : Type 0 where
  pub shape : misshapen s ≡ false
  pub sum : wrong_sum s ≡ false
  pub address : wrong_address s ≡ false

-- what the reading of bytes as a frame tells of them
abbrev pub Tells : List ℕ → Result Frame Refusal → Type 0
Tells s (Err k) = Unit {0}
Tells s (Ok (V1 h)) = Framed s × (is_letter (at s 3) ≡ true) × (h ≡ head_v1 s)
Tells s (Ok (Length h)) = Framed s × (is_letter (at s 3) ≡ false) × (wrong_length s ≡ true) × (h ≡ head_v2 s)
Tells s (Ok (V2 h)) = Framed s × (is_letter (at s 3) ≡ false) × (wrong_length s ≡ false) × (h ≡ head_v2 s)

pub tells : (s : List ℕ) → Tells s (frame_of s)
unfolding frame_of
tells s =
    each (Tells s) _ _ _ (λ _. tt) (λ a.
    each (Tells s) _ _ _ (λ _. tt) (λ b.
    each (Tells s) _ _ _ (λ _. tt) (λ c.
    let f : Framed s = record { shape = a; sum = b; address = c } in
    each (Tells s) _ _ _ (λ l. (f, l, refl)) (λ l. each (Tells s) _ _ _ (λ w. (f, l, w, refl)) (λ w. (f, l, w, refl))))))

-- a letter is no digit
pub no_digit : (b : ℕ) → is_letter b ≡ true → is_digit b ≡ true → ⊥
unfolding is_letter
no_digit b l d =
    let h = within_true 48 57 b d in
    true≢false (sym l ∙ rw (within_below 65 90 b (omega arith), within_below 97 122 b (omega arith)))

module _ (s : List ℕ) (f : Framed s) where
  -- check 2
  fits : length_fits s ≡ true
  unfolding misshapen
  fits = not-false _ (rows_false _ _ f.shape).0

  last_is : last_byte s ≡ 13
  unfolding misshapen
  last_is = eqb-true _ _ (not-false _ (rows_false _ _ (rows_false _ _ f.shape).1).0)

  prints : every (within 32 126) (body s) ≡ true
  unfolding misshapen
  prints = not-false _ (rows_false _ _ (rows_false _ _ (rows_false _ _ (rows_false _ _ f.shape).1).1).1).0

  -- "Byte 3 decides": a (Ok (V1 frame))
  pub six_to_twelve : is_letter (at s 3) ≡ true → (6 ≤ length s) × (length s ≤ 12)
  unfolding length_fits
  six_to_twelve l =
      each P _ _ _ (λ d _. absurd (no_digit (at s 3) l d)) (λ _. each P _ _ _ (λ _ e. within_true 6 12 (length s) e) (λ _ e. absurd (false≢true e))) fits
    where
      P : Bool → Type 0
      P b = b ≡ true → (6 ≤ length s) × (length s ≤ 12)

  -- and a (Ok (V2 frame))
  pub access_digit : is_letter (at s 3) ≡ false → (is_digit (at s 3) ≡ true) × (10 ≤ length s) × (length s ≤ 109)
  unfolding length_fits
  access_digit l =
      each P _ _ _ (λ d e. let h = within_true 10 109 (length s) e in (d, h.0, h.1)) (λ _. each P _ _ _ (λ k _. absurd (true≢false (sym k ∙ l))) (λ _ e. absurd (false≢true e))) fits
    where
      P : Bool → Type 0
      P b = b ≡ true → (is_digit (at s 3) ≡ true) × (10 ≤ length s) × (length s ≤ 109)

  -- a byte before the checksum
  pub byte_prints : (i : ℕ) → i < length s - 2 → within 32 126 (at s i) ≡ true
  byte_prints i h =
      let e : at (body s) i ≡ at s i = get_or-take (length s - 2) s i 0 h in
      rw e at (every_at (within 32 126) (body s) i prints (simp length-take (omega arith)))

  -- the data
  pub data_prints : (n : ℕ) → every (within 32 126) (data_from n s) ≡ true
  data_prints n = every_drop (within 32 126) n (body s) prints

  -- check 3
  pub is_closed : 2 ≤ length s → s ≡ closed (body s)
  unfolding wrong_sum closed end_of
  is_closed h =
      let e : sum_byte s ≡ checksum_of (body s) = eqb-true _ _ (not-false _ f.sum) in
      in_parts s h ∙ rw (last_is, e)

  -- check 4
  pub address_digits : 3 ≤ length s → (take 3 s ≡ digits3 (address_of s)) × (within 1 999 (address_of s) ≡ true)
  unfolding wrong_address
  address_digits h =
      let a = rows_false _ _ f.address in
      let z = (rows_false _ _ a.1).0 in
      let t = three (take 3 s) (simp length-take (omega arith)) (not-false _ a.0) in
      (t.0, within_in 1 999 (address_of s) (omega (arith, eqb-false (address_of s) 0 z)) t.1)

-- 6: LEN
pub count_digits : (s : List ℕ) → 10 ≤ length s → wrong_length s ≡ false → take 2 (drop 6 s) ≡ digits2 (length (data_from 8 s))
unfolding wrong_length
count_digits s h w =
    let a = rows_false _ _ w in
    let e = eqb-true (numeral (take 2 (drop 6 s))) (length (data_from 8 s)) (not-false _ (rows_false _ _ a.1).0) in
    rw (← e) (two (take 2 (drop 6 s)) (simp (length-take, length-drop) (omega arith)) (not-false _ a.0))

-- what stands in the body stands in the bytes
module _ (s : List ℕ) where
  pub head_part : 5 ≤ length s → take 3 (body s) ≡ take 3 s
  head_part h = take-take 3 (length s - 2) s (omega arith)

  pub len_part : 10 ≤ length s → take 2 (drop 6 (body s)) ≡ take 2 (drop 6 s)
  len_part h = rw (← part_middle 6 (length s - 2) s) (take-take 2 (length s - 2 - 6) (drop 6 s) (omega arith))

  pub body_byte : (i : ℕ) → i < length s - 2 → at (body s) i ≡ at s i
  body_byte i h = get_or-take (length s - 2) s i 0 h
