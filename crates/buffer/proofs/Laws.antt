-- Laws of stores in lent memory, of answers and of short texts.
use mathlib.Core.Path.{◌≡◌, refl, sym, ap, ◌∙◌}
use mathlib.Core.Bool.{Bool, true, false, cond, and-false, and_comm, and-eq-true_iff, true≢false}
use mathlib.Core.List.{List, [], ◌∷◌, ◌++◌, append-nil}
use Prim.Native.Nat.{ℕ, zero, suc, ◌+◌, ◌-◌, ◌*◌, ◌^◌, ◌<◌, ◌≤◌}
use native.Mathlib.Nat.{add-zero, add_comm, zero-add, add-suc, suc-add, pow-suc, pow-le-pow_right}
use native.Mathlib.Numerals.{add-one}
use native.Mathlib.Omega.{arith}
use borrow.Author.Tests.{le-leb, lt-leb, leb-true, ne_eqb}
use lib.Pointwise.{pointwise, bytes_decides}
use lib.Dec.{eqb, leb, eqb-zero-suc}
use lib.ListN.{length, get_or, set, drop, take, length-take, drop_of_length-le, length-append}
use lib.Seq.{sets, sets-eq, take_at, take_all, set_out, take-suc-set}
use Rattle.buffer.specs.Answer.{Answer, silent, over, Stored, Sent}
use Rattle.std.proofs.lemmas.List.{drop_more, take_rest}
use Rattle.std.proofs.lemmas.Slice.{between_is}
use Rattle.std.specs.Char.{is_ascii_digit}
use Rattle.std.specs.List.{list_all, prefix_len}
use Rattle.buffer.specs.Byte.{at, within, every, is_digit, leading, starts_with, same_text, until_of}
use Rattle.buffer.specs.Text.{text_of, cut}
use Rattle.buffer.specs.declared.Text.{Text}

-- ---- stores

-- stores past the end change nothing
pub sets_out : (m : List ℕ) (o : ℕ) (bs : List ℕ) → length m ≤ o → sets m o bs ≡ m
sets_out m o [] h = refl
sets_out m o (b ∷ bs) h = ap (λ (l : List ℕ). sets l (suc o) bs) (set_out m o b h) ∙ sets_out m (suc o) bs (omega arith)

-- two runs of stores, the second where the first ends, are one
pub sets_sets : (m : List ℕ) (at : ℕ) (a b : List ℕ) → sets (sets m at a) (at + length a) b ≡ sets m at (a ++ b)
sets_sets m at [] b = ap (λ (k : ℕ). sets m k b) (add-zero at)
sets_sets m at (x ∷ a) b = ap (λ (k : ℕ). sets (sets (set m at x) (suc at) a) k b) (add-suc at (length a) ∙ sym (suc-add at (length a))) ∙ sets_sets (set m at x) (suc at) a b

-- a text stored, then another where it ends, is both stored; p is the place where the first ends
pub then : {m m₁ m₂ a b : List ℕ} {at : ℕ} (p : ℕ) → Stored m at a m₁ → p ≡ at + length a → Stored m₁ p b m₂ → Stored m at (a ++ b) m₂
then {m} {m₁} {m₂} {a} {b} {at} p f n g = record { memory = g.memory ∙ rw (f.memory, n) (sets_sets m at a b) }

-- a text stored at the front, where it fits: the text, and then the memory as it was
pub whole : {m m' a : List ℕ} → Stored m 0 a m' → length a ≤ length m → m' ≡ over a m
unfolding over
whole {m} {m'} {a} f h = f.memory ∙ sets-eq a m 0 (omega arith) ∙ rw zero-add

-- what the front of the memory then holds
pub front : {m m' a : List ℕ} (p : ℕ) → Stored m 0 a m' → p ≡ length a → length a ≤ length m → take p m' ≡ a
unfolding over
front {m} {m'} {a} p f n h = rw (whole f h) (take_at a (drop (length a) m) p (sym n))

-- ---- answers

-- a refusal with no reply leaves the memory as it was
pub refuses : (m : List ℕ) (k : ℕ) {a : Answer} → a ≡ silent k → Sent m a m (record { number = k; len = 0 })
unfolding over
refuses m k e = rw e (record { number = refl; len = refl; memory = refl })

-- a reply stored at the front, where it fits
pub sends : {m m' t : List ℕ} {a : Answer} (k r : ℕ) → a ≡ record { number = k; reply = t } → Stored m 0 t m' → r ≡ length t → length t ≤ length m
    → Sent m a m' (record { number = k; len = r })
sends k r e f n h = rw e (record { number = refl; len = n; memory = whole f h })

-- ---- lists

-- for every loop that reads a slice from the front: what is left at i is the element at i, and what is left at i + 1
pub drop_step : (s : List ℕ) (i : ℕ) → i < length s → drop i s ≡ get_or s i 0 ∷ drop (i + 1) s
drop_step s i h = drop_more s i 0 h

-- a part to the end of a slice
pub part_rest : (s : List ℕ) (a : ℕ) → take (length s - a) (drop a s) ≡ drop a s
part_rest s a = take_rest s a

-- a part in the middle of a slice
pub part_middle : (a e : ℕ) (s : List ℕ) → take (e - a) (drop a s) ≡ drop a (take e s)
part_middle a e s = between_is s a e

-- as many as a part has, taken from the whole, is the part
pub take_taken : (n : ℕ) (l : List ℕ) → take (length (take n l)) l ≡ take n l
take_taken zero l = refl
take_taken (suc n) [] = refl
take_taken (suc n) (x ∷ l) = ap (λ (r : List ℕ). x ∷ r) (take_taken n l)

-- ---- limits

pub within_true : (low high n : ℕ) → within low high n ≡ true → (low ≤ n) × (n ≤ high)
unfolding within
within_true low high n e =
    let h = (and-eq-true_iff (leb low n) (leb n high)).0 e in
    (leb-true low n h.0, leb-true n high h.1)

pub within_in : (low high n : ℕ) → low ≤ n → n ≤ high → within low high n ≡ true
unfolding within
within_in low high n h k = rw (le-leb low n h, le-leb n high k)

pub within_below : (low high n : ℕ) → n < low → within low high n ≡ false
unfolding within
within_below low high n h = rw (lt-leb low n h)

pub within_above : (low high n : ℕ) → high < n → within low high n ≡ false
unfolding within
within_above low high n h = rw (lt-leb n high h) (and-false (leb low n))

-- ---- tests of each byte

pub every_all : {A : Type 0} (p : A → Bool) (s : List A) → list_all p s ≡ every p s
unfolding every
every_all p [] = refl
every_all p (x ∷ s) = rw (every_all p s)

pub leading_prefix : (s : List ℕ) → prefix_len is_ascii_digit s ≡ leading s
unfolding leading within
leading_prefix [] = refl
leading_prefix (x ∷ s) = rw (leading_prefix s, add_comm 1 (leading s))

-- ---- two texts

-- texts of different lengths differ
pub same_lengths : (s t : List ℕ) → (length s ≡ length t → ⊥) → same_text s t ≡ false
unfolding same_text
same_lengths [] [] h = absurd (h refl)
same_lengths [] (y ∷ t) h = refl
same_lengths (x ∷ s) [] h = refl
same_lengths (x ∷ s) (y ∷ t) h = rw (same_lengths s t (λ (e : length s ≡ length t). h (ap suc e)))

pub same_pointwise : (s t : List ℕ) → pointwise eqb s t ≡ same_text s t
unfolding same_text
same_pointwise [] [] = refl
same_pointwise [] (y ∷ t) = refl
same_pointwise (x ∷ s) [] = refl
same_pointwise (x ∷ s) (y ∷ t) = rw (same_pointwise s t) (and_comm (eqb x y) (same_text s t))

-- so do texts that start with different characters
pub same_first : (s t : List ℕ) → (at s 0 ≡ at t 0 → ⊥) → same_text s t ≡ false
unfolding same_text
same_first [] [] h = absurd (h refl)
same_first [] (y ∷ t) h = refl
same_first (x ∷ s) [] h = refl
same_first (x ∷ s) (y ∷ t) h = rw (ne_eqb x y h) (and-false (same_text s t))

-- past the end every byte is 0
pub at_past : (s : List ℕ) (i : ℕ) → length s ≤ i → 0 ≡ at s i
at_past [] i h = refl
at_past (x ∷ s) zero h = omega arith
at_past (x ∷ s) (suc i) h = at_past s i (omega arith)

-- a text is the same as itself, and as no other
pub same_self : (s : List ℕ) → same_text s s ≡ true
same_self s = sym (same_pointwise s s) ∙ (bytes_decides s s).1 refl

pub same_equal : (s t : List ℕ) → same_text s t ≡ true → s ≡ t
same_equal s t e = (bytes_decides s t).0 (same_pointwise s t ∙ e)

-- ---- bytes at the front

pub leading_le : (s : List ℕ) → leading s ≤ length s
unfolding leading
leading_le [] = omega arith
leading_le (x ∷ s) = go (is_digit x) (leading_le s)
  where
    go : (b : Bool) → leading s ≤ length s → cond b (leading s + 1) 0 ≤ suc (length s)
    go true h = omega arith
    go false h = omega arith

-- a text that starts with some character is not empty
pub starts_some : (b : ℕ) (s : List ℕ) → starts_with (suc b) s ≡ true → 1 ≤ length s
unfolding starts_with
starts_some b [] h = absurd (true≢false (sym h ∙ eqb-zero-suc b))
starts_some b (x ∷ s) h = omega arith

-- ---- what stands before a byte

pub until_step : (b : ℕ) (s : List ℕ) (i : ℕ) → i < length s → until_of b (drop i s) ≡ cond (eqb (get_or s i 0) b) 0 (until_of b (drop (i + 1) s) + 1)
unfolding until_of
until_step b s i h = ap (until_of b) (drop_step s i h)

-- the first b does not stand before place i
abbrev pub Passed : ℕ → List ℕ → ℕ → Type 0
Passed b s i = (i ≤ length s) × (i + until_of b (drop i s) ≡ until_of b s)

-- a byte that is not b is passed; k is the next place
pub pass : (b : ℕ) (s : List ℕ) (i k : ℕ) → i < length s → (get_or s i 0 ≡ b → ⊥) → k ≡ i + 1 → Passed b s i → Passed b s k
pass b s i k h other e p =
    let other : eqb (get_or s i 0) b ≡ false = ne_eqb _ _ other in
    let step = rw other at (until_step b s i h) in
    rw e (omega arith, omega (arith, step))

pub until_end : (b : ℕ) (s : List ℕ) (i : ℕ) → length s ≤ i → until_of b (drop i s) ≡ 0
unfolding until_of
until_end b s i h = ap (until_of b) (drop_of_length-le s h)

pub until_le : (b : ℕ) (s : List ℕ) → until_of b s ≤ length s
unfolding until_of
until_le b [] = omega arith
until_le b (x ∷ s) = go (eqb x b) (until_le b s)
  where
    go : (t : Bool) → until_of b s ≤ length s → cond t 0 (until_of b s + 1) ≤ suc (length s)
    go true h = omega arith
    go false h = omega arith

-- ---- numerals

pub ten_step : (i : ℕ) → 10 ^ (i + 1) ≡ 10 ^ i * 10
ten_step i = rw add-one (pow-suc 10 i)

pub ten_max : (i n : ℕ) → i ≤ n → 10 ^ i ≤ 10 ^ n
ten_max i n h = pow-le-pow_right {n = 10} (omega arith) h

-- ---- an array of n elements of which the first `at` count

-- one element more, where there is room
pub filled : (l : List ℕ) (at n b : ℕ) → length l ≡ n → at < n → take (at + 1) (set l at b) ≡ take n (take at l ++ (b ∷ []))
filled l at n b e h = rw add-one (take-suc-set l at b (omega arith) ∙ sym (take_all n (take at l ++ (b ∷ [])) (simp (length-append, length-take) (omega arith))))

-- and where there is none
pub full : (l : List ℕ) (at n b : ℕ) → length l ≡ n → n ≤ at → take at l ≡ take n (take at l ++ (b ∷ []))
full l at n b e h = sym (take_at (take at l) (b ∷ []) n (simp length-take (omega arith)))

-- how many count
pub count_in : (l : List ℕ) (at n : ℕ) → length l ≡ n → at < n → at ≡ length (take at l)
count_in l at n e h = simp length-take (omega arith)

pub count_full : (l : List ℕ) (at n : ℕ) → length l ≡ n → n ≤ at → n ≡ length (take at l)
count_full l at n e h = simp length-take (omega arith)

-- ---- short texts

-- what was taken is cut no further by what follows it
pub take_cut : (n : ℕ) (x y : List ℕ) → take n (take n x ++ y) ≡ take n (x ++ y)
take_cut zero x y = refl
take_cut (suc n) [] y = refl
take_cut (suc n) (z ∷ x) y = ap (λ (l : List ℕ). z ∷ l) (take_cut n x y)

pub cut_cut : (a b : List ℕ) → cut (cut a ++ b) ≡ cut (a ++ b)
unfolding cut
cut_cut a b = take_cut 24 a b

pub cut_again : (a : List ℕ) → cut (cut a) ≡ cut a
cut_again a = rw (append-nil (cut a), append-nil a) at (cut_cut a [])

-- a text that fits is not cut
pub cut_fits : (a : List ℕ) → length a ≤ 24 → cut a ≡ a
unfolding cut
cut_fits a h = take_all 24 a h

-- as many of a text's bytes as it has characters are the text
pub shown : (t : Text) (n : ℕ) → n ≡ length (text_of t) → take n t.bytes ≡ text_of t
unfolding text_of
shown t n e = ap (λ (k : ℕ). take k t.bytes) e ∙ take_taken t.len t.bytes

pub shown_le : (t : Text) (n : ℕ) → n ≡ length (text_of t) → n ≤ length t.bytes
unfolding text_of
shown_le t n e = omega (arith, simp length-take at e)
