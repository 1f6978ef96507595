-- Laws of values as rows, and of rows as a line.
use mathlib.Core.Path.{◌≡◌, refl, sym, ap, ◌∙◌}
use mathlib.Core.Bool.{Bool, true, false, cond, not, and-eq-true_iff}
use mathlib.Core.List.{List, [], ◌∷◌, ◌++◌, map}
use Prim.Native.Nat.{ℕ, zero, suc, ◌+◌, ◌-◌, ◌<◌, ◌≤◌}
use native.Mathlib.Nat.{zero-add}
use native.Mathlib.Numerals.{add-one}
use native.Mathlib.Omega.{arith}
use borrow.Author.Tests.{lt-ltb, le-ltb}
use lib.Dec.{eqb, leb}
use lib.ListN.{length, take, drop, get_or, set, replicate, length-append, length-take, length-map}
use lib.Seq.{sets, sets-eq, drop-cons, take-append_seam, get_or-append-add, get_or-drop}
use Rattle.buffer.specs.First.{pick}
use Rattle.buffer.specs.Byte.{at, within, every, until_of}
use Rattle.buffer.specs.Answer.{silent, Stored}
use Rattle.buffer.proofs.Rules.{each}
use Rattle.buffer.proofs.Laws.{sets_sets, drop_step}
use Rattle.frames.specs.Checksum.{end_of, closed}
use Rattle.sources.specs.Source.{among, all_differ, stand_once, listable, total}
use Rattle.sources.proofs.Weights.{weights, at_most, at_most_all, line_known}
use Rattle.settings.specs.Limits.{ProfileLimits, limits_of, width_of, longest_line}
use Rattle.settings.proofs.Laws.{zero_here, few_here}
use Rattle.settings.specs.Settings.{Held}
use Rattle.readings.specs.Reading.{value_text}
use Rattle.readings.specs.declared.Readings.{Readings}
use Rattle.readings.proofs.Laws.{shown, value_le, value_some, value_clean}
use Rattle.line.specs.Line.{line_value, shown_list, values_of, tail_of, joined, line_answer}
use Rattle.line.specs.Theorems.{FewValues, NoLonger, EighthEmpty}
use Rattle.line.specs.Rows.{no_row, row_of, rows_of, row_text, tail_rows, line_of}

-- ---- stores

-- what is left to store after a text that was stored
pub left : {m m₁ a : List ℕ} {p : ℕ} (q : ℕ) (b : List ℕ) → Stored m p a m₁ → q ≡ p + length a → sets m₁ q b ≡ sets m p (a ++ b)
left {m} {m₁} {a} {p} q b f n = rw (f.memory, n) (sets_sets m p a b)

-- ---- rows read from the front

-- at an empty row the line ends
pub tail_stop : (rows : List (List ℕ)) (i : ℕ) → i < length rows → eqb (at (get_or rows i []) 0) 0 ≡ true → tail_rows (drop i rows) ≡ []
unfolding tail_rows
tail_stop rows i h e = rw (drop-cons rows i [] h, e)

-- at another, its text and then the rows after it
pub tail_step : (rows : List (List ℕ)) (i : ℕ) → i < length rows → eqb (at (get_or rows i []) 0) 0 ≡ false
    → tail_rows (drop i rows) ≡ ((59 ∷ []) ++ row_text (get_or rows i [])) ++ tail_rows (drop (i + 1) rows)
unfolding tail_rows
tail_step rows i h e = rw (add-one i, drop-cons rows i [] h, e)

-- ---- texts as rows

-- a text that a row can hold
record Fits (t : List ℕ) : Type 0 where
  pub le : length t ≤ 11
  pub some : 1 ≤ length t
  pub clean : until_of 0 t ≡ length t

-- the first characters of a text with no zero have none
clean_take : (n : ℕ) (t : List ℕ) → until_of 0 t ≡ length t → until_of 0 (take n t) ≡ length (take n t)
unfolding until_of
clean_take zero t e = refl
clean_take (suc n) [] e = refl
clean_take (suc n) (x ∷ t) e = go (eqb x 0) e (clean_take n t)
  where
    go : (b : Bool) → cond b 0 (until_of 0 t + 1) ≡ suc (length t) → (until_of 0 t ≡ length t → until_of 0 (take n t) ≡ length (take n t))
        → cond b 0 (until_of 0 (take n t) + 1) ≡ suc (length (take n t))
    go true h k = absurd (omega arith)
    go false h k = omega (arith, k (omega arith))

-- a text with no zero, and then something that is empty or starts with a zero
until_append : (t s : List ℕ) → until_of 0 t ≡ length t → until_of 0 s ≡ 0 → until_of 0 (t ++ s) ≡ length t
unfolding until_of
until_append [] s e z = z
until_append (x ∷ t) s e z = go (eqb x 0) e (λ (h : until_of 0 t ≡ length t). until_append t s h z)
  where
    go : (b : Bool) → cond b 0 (until_of 0 t + 1) ≡ suc (length t) → (until_of 0 t ≡ length t → until_of 0 (t ++ s) ≡ length t)
        → cond b 0 (until_of 0 (t ++ s) + 1) ≡ suc (length t)
    go true h k = absurd (omega arith)
    go false h k = omega (arith, k (omega arith))

until_zeros : (n j : ℕ) → until_of 0 (drop j (replicate n 0)) ≡ 0
unfolding until_of
until_zeros zero zero = refl
until_zeros zero (suc j) = refl
until_zeros (suc n) zero = refl
until_zeros (suc n) (suc j) = until_zeros n j

row_is : (t : List ℕ) → length t ≤ 11 → row_of t ≡ t ++ drop (length t) no_row
unfolding row_of
row_is t h = sets-eq t no_row 0 (omega arith) ∙ rw zero-add

-- the text of a text's row is the text
row_text_lem : (t : List ℕ) → Fits t → row_text (row_of t) ≡ t
unfolding row_text
row_text_lem t f = rw (row_is t f.le, until_append t (drop (length t) no_row) f.clean (until_zeros 11 (length t))) (take-append_seam t (drop (length t) no_row))

-- a text that is not empty and has no zero does not start with one
first_clean : (t s : List ℕ) → 1 ≤ length t → until_of 0 t ≡ length t → eqb (at (t ++ s) 0) 0 ≡ false
unfolding until_of
first_clean [] s h e = absurd (omega arith)
first_clean (x ∷ t) s h e = go (eqb x 0) e
  where
    go : (b : Bool) → cond b 0 (until_of 0 t + 1) ≡ suc (length t) → b ≡ false
    go true k = absurd (omega arith)
    go false k = refl

-- and its row is not empty
row_first : (t : List ℕ) → Fits t → eqb (at (row_of t) 0) 0 ≡ false
row_first t f = rw (row_is t f.le) (first_clean t (drop (length t) no_row) f.some f.clean)

-- one row more: what is left to store at i is the value at i, and what is left at i + 1
pub rows_step : (f : ℕ → List ℕ) (rows : List (List ℕ)) (list : List ℕ) (i : ℕ) → i < length list
    → sets rows (i + 1) (map row_of (map f (drop i list))) ≡ sets (set rows (i + 1) (row_of (f (get_or list i 0)))) (i + 1 + 1) (map row_of (map f (drop (i + 1) list)))
rows_step f rows list i h = rw (drop_step list i h, add-one (i + 1))

-- ---- values as rows: f gives the value of each source

tail_none : (n j : ℕ) → tail_rows (drop j (replicate n no_row)) ≡ []
unfolding tail_rows
tail_none zero zero = refl
tail_none zero (suc j) = refl
tail_none (suc n) zero = refl
tail_none (suc n) (suc j) = tail_none n j

module _ (f : ℕ → List ℕ) (fits : (c : ℕ) → Fits (f c)) where
  -- the rows of values, and then rows that are empty
  tail_rows_lem : (list : List ℕ) (rest : List (List ℕ)) → tail_rows rest ≡ [] → tail_rows (map row_of (map f list) ++ rest) ≡ tail_of (map f list)
  unfolding tail_rows tail_of
  tail_rows_lem [] rest e = e
  tail_rows_lem (c ∷ list) rest e = rw (row_first (f c) (fits c), row_text_lem (f c) (fits c), tail_rows_lem list rest e)

  line_rows : (list : List ℕ) → length list ≤ 7 → line_of (rows_of (map f (0 ∷ list))) ≡ closed (joined (map f (0 ∷ list)))
  unfolding line_of rows_of joined
  line_rows list h =
      let n = length (map row_of (map f (0 ∷ list))) in
      let k : n ≡ suc (length list) = length-map (map f (0 ∷ list)) row_of ∙ length-map (0 ∷ list) f in
      let e : rows_of (map f (0 ∷ list)) ≡ map row_of (map f (0 ∷ list)) ++ drop n (replicate 8 no_row) = sets-eq (map row_of (map f (0 ∷ list))) (replicate 8 no_row) 0 (omega arith) ∙ rw zero-add in
      rw (e, row_text_lem (f 0) (fits 0), tail_rows_lem list (drop n (replicate 8 no_row)) (tail_none 8 n))

-- ---- the end

pub length_end : (body : List ℕ) → length (closed body) ≡ length body + 2
unfolding closed end_of
length_end body = simp length-append (omega arith)

-- ---- the values of a line

width_some : (c : ℕ) → 1 ≤ width_of c
unfolding width_of
width_some c = each (λ (n : ℕ). 1 ≤ n) (eqb c 7) 11 (pick (leb 8 c) 6 10) (λ _. omega arith) (λ _. each (λ (n : ℕ). 1 ≤ n) (leb 8 c) 6 10 (λ _. omega arith) (λ _. omega arith))

-- none is empty, or has a zero or more characters than a row holds
value_fits : (r : Readings) (c : ℕ) → Fits (line_value r c)
unfolding line_value shown within
value_fits r c =
    record {
      le = simp length-take (omega (arith, value_le c r));
      some = simp length-take (omega (arith, value_some c r, width_some c));
      clean = clean_take (width_of c) (value_text c r) (value_clean 0 c r refl);
    }

-- the line of the values' rows is the values' line
pub line_is : (list : List ℕ) (r : Readings) → length list ≤ 7 → line_of (rows_of (values_of list r)) ≡ closed (joined (values_of list r))
unfolding values_of
line_is list r h = line_rows (line_value r) (value_fits r) list h

-- ---- how long a line can be

-- the list shown is empty, or one that SM can have
pub shown_listable : (codes list : List ℕ) → among codes 0 ≡ true → listable codes (shown_list codes list) ≡ true
unfolding shown_list listable all_differ every among
shown_listable codes list z = each (λ (l : List ℕ). listable codes l ≡ true) (listable codes list) list [] (λ e. e) (λ _. refl)

pub few_values : FewValues
unfolding values_of listable among
few_values codes list r z =
    let shown = shown_list codes list in
    let w = (and-eq-true_iff (every (among codes) shown) (stand_once shown)).0 (shown_listable codes list z) in
    omega (arith, at_most_all codes (0 ∷ shown) (line_known codes shown z w.0) w.1, length-map (0 ∷ shown) (line_value r))

-- so a list that is shown has at most six entries
pub shown_few : (codes list : List ℕ) → among codes 0 ≡ true → length codes ≤ 7 → length (shown_list codes list) ≤ 6
shown_few codes list z k = omega (arith, k, at_most codes (shown_list codes list) z (shown_listable codes list z))

value_width : (r : Readings) (c : ℕ) → length (line_value r c) ≤ width_of c
unfolding line_value
value_width r c = omega (arith, length-take (width_of c) (value_text c r))

-- each value with the `;` before it
tail_le : (r : Readings) (list : List ℕ) → length (tail_of (map (line_value r) list)) ≤ total (λ c. width_of c + 1) list
unfolding tail_of total
tail_le r [] = omega arith
tail_le r (c ∷ list) = simp length-append (omega (arith, value_width r c, tail_le r list))

pub no_longer : NoLonger
unfolding values_of joined longest_line listable total
no_longer codes list r z =
    let shown = shown_list codes list in
    let w = (and-eq-true_iff (every (among codes) shown) (stand_once shown)).0 (shown_listable codes list z) in
    rw length_end (simp length-append (omega (arith, value_width r 0, tail_le r shown, weights (λ c. width_of c + 1) codes (0 ∷ shown) (line_known codes shown z w.0) w.1)))

-- rows that are stored leave the others as they are
row_left : (rows : List (List ℕ)) → length rows ≤ 7 → get_or (sets (replicate 8 no_row) 0 rows) 7 [] ≡ no_row
row_left rows h =
    let n = length rows in
    let e : sets (replicate 8 no_row) 0 rows ≡ rows ++ drop n (replicate 8 no_row) = sets-eq rows (replicate 8 no_row) 0 (omega arith) ∙ rw zero-add in
    let k : n + (7 - n) ≡ 7 = omega arith in
    rw e
    (ap (λ (i : ℕ). get_or (rows ++ drop n (replicate 8 no_row)) i []) (sym k) ∙ get_or-append-add rows (drop n (replicate 8 no_row)) (7 - n) [] ∙ get_or-drop n (replicate 8 no_row) (7 - n) [] ∙ ap (λ (i : ℕ). get_or (replicate 8 no_row) i []) k)

pub eighth_empty : EighthEmpty
unfolding rows_of values_of
eighth_empty p list r =
    let codes = (limits_of p).source_codes in
    let values = values_of (shown_list codes list) r in
    row_left (map row_of values) (omega (arith, length-map values row_of, few_values codes list r (zero_here p), few_here p))

-- ---- what is answered, by its tests

module _ (limits : ProfileLimits) (room : ℕ) (h : Held) (r : Readings) where
  pub no_room : room < longest_line limits.source_codes → line_answer limits room h r ≡ silent 1
  unfolding line_answer pick
  no_room k = rw (lt-ltb room (longest_line limits.source_codes) k)

  pub no_line : longest_line limits.source_codes ≤ room → not h.streaming ≡ true → line_answer limits room h r ≡ silent 0
  unfolding line_answer pick
  no_line k s = rw (le-ltb room (longest_line limits.source_codes) k, s)

  pub a_line : longest_line limits.source_codes ≤ room → not h.streaming ≡ false
      → line_answer limits room h r ≡ record { number = 0; reply = closed (joined (values_of (shown_list limits.source_codes h.list) r)) }
  unfolding line_answer pick
  a_line k s = rw (le-ltb room (longest_line limits.source_codes) k, s)
