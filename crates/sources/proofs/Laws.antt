-- Laws of sources, and of texts cut at each `D`.
use mathlib.Core.Path.{◌≡◌, refl, sym, ◌∙◌}
use mathlib.Core.Bool.{Bool, true, false, not, ◌&&◌, ◌||◌}
use mathlib.Core.List.{List, [], ◌∷◌}
use Prim.Native.Nat.{ℕ, zero, suc, ◌+◌, ◌*◌, ◌≤◌, ◌<◌}
use native.Mathlib.Omega.{arith}
use borrow.Author.Tests.{lt-leb, eq-eqb, ne_eqb, eqb-true}
use lib.Dec.{eqb, leb}
use lib.ListN.{length, get_or, set, take, length-append, length-take, length-drop, length-set, drop}
use lib.Seq.{take_all}
use Rattle.std.specs.List.{list_any, slice_split, onto_first}
use Rattle.buffer.specs.Byte.{within, is_digit, every, digit}
use Rattle.buffer.specs.First.{pick}
use Rattle.buffer.proofs.Rules.{each}
use Rattle.buffer.proofs.Laws.{within_true, filled, full, drop_step}
use Rattle.sources.specs.Source.{among, all_differ, is_source, source_text, list_text, list_of, Counted, Pushed}
use Rattle.sources.specs.declared.Sources.{Sources}
use Rattle.sources.specs.Theorems.{CountFixed}
use Rattle.sources.specs.Entries.{onto, parts}

-- ---- sources

-- one character: a digit
pub short_form : (b : ℕ) → is_source (b ∷ []) ≡ is_digit b
unfolding is_source every within
short_form b = go (is_digit b)
  where
    go : (x : Bool) → (((x && true) && true) || false) ≡ x
    go true = refl
    go false = refl

-- two characters: a digit, after a digit or `T`
pub long_form : (a b : ℕ) → is_source (a ∷ b ∷ []) ≡ (is_digit b && (is_digit a || eqb a 84))
unfolding is_source every within
long_form a b = go (is_digit a) (is_digit b) (eqb a 84)
  where
    go : (x y z : Bool) → (((x && (y && true)) && true) || ((true && z) && y)) ≡ (y && (x || z))
    go true true z = refl
    go true false true = refl
    go true false false = refl
    go false true true = refl
    go false true false = refl
    go false false true = refl
    go false false false = refl

-- a digit is no `T`
pub digit_no_t : (a : ℕ) → is_digit a ≡ true → eqb a 84 ≡ false
digit_no_t a e = ne_eqb a 84 (λ (z : a ≡ 84). let h = within_true 48 57 a e in omega arith)

pub not_short : (n : ℕ) → (n ≡ 1 → ⊥) → (n ≡ 2 → ⊥) → within 1 2 n ≡ false
unfolding within
not_short zero h k = refl
not_short (suc n) h k = rw (lt-leb (suc n) 2 (omega arith)) (and_no (leb 1 (suc n)))
  where
    and_no : (b : Bool) → (b && false) ≡ false
    and_no true = refl
    and_no false = refl

pub one_byte : (s : List ℕ) → length s ≡ 1 → s ≡ get_or s 0 0 ∷ []
one_byte [] h = absurd (omega arith)
one_byte (x ∷ []) h = refl
one_byte (x ∷ y ∷ s) h = absurd (omega arith)

-- ---- a text cut at each `D`

-- as `split` cuts it
onto_is : (x : ℕ) (ts : List (List ℕ)) → onto_first x ts ≡ onto x ts
unfolding onto
onto_is x [] = refl
onto_is x (t ∷ ts) = refl

pub parts_split : (s : List ℕ) → slice_split (λ b. eqb b 68) s ≡ parts s
unfolding parts
parts_split [] = refl
parts_split (x ∷ s) = rw (parts_split s, onto_is x (parts s))

-- ---- texts

source_text_le : (c : ℕ) → length (source_text c) ≤ 2
unfolding source_text
source_text_le c =
    each (λ (l : List ℕ). length l ≤ 2) (eqb c 8) (84 ∷ 50 ∷ []) (pick (eqb c 9) (84 ∷ 54 ∷ []) (digit c ∷ [])) (λ _. omega arith)
    (λ _. each (λ (l : List ℕ). length l ≤ 2) (eqb c 9) (84 ∷ 54 ∷ []) (digit c ∷ []) (λ _. omega arith) (λ _. omega arith))

-- an entry has at most three characters
pub list_text_le : (cs : List ℕ) → length (list_text cs) ≤ 3 * length cs
unfolding list_text
list_text_le [] = omega arith
list_text_le (c ∷ cs) = simp length-append (omega (arith, source_text_le c, list_text_le cs))

pub list_few : (q : Sources) → length q.codes ≡ 7 → length (list_of q) ≤ 7
unfolding list_of
list_few q h = simp length-take (omega arith)

pub count_fixed : CountFixed
unfolding list_of
count_fixed q h k = omega (arith, length-take q.count q.codes, k)

-- ---- one source more

pub pushed_full : (q : Sources) (code : ℕ) → length q.codes ≡ 7 → 7 ≤ q.count → Pushed q code (record { codes = q.codes; count = 7 })
unfolding list_of Counted
pushed_full q code h k =
    let e : take 7 q.codes ≡ take q.count q.codes = take_all 7 q.codes (omega arith) ∙ sym (take_all q.count q.codes (omega arith)) in
    record { list = e ∙ full q.codes q.count 7 code h k; count = omega (arith, length-take 7 q.codes) }

pub pushed_in : (q : Sources) (code : ℕ) → length q.codes ≡ 7 → q.count < 7 → Pushed q code (record { codes = set q.codes q.count code; count = q.count + 1 })
unfolding list_of Counted
pushed_in q code h k = record { list = filled q.codes q.count 7 code h k; count = omega (arith, length-take (q.count + 1) (set q.codes q.count code), length-set q.codes q.count code) }

-- ---- whether a code is among others

pub eqb_sym : (a b : ℕ) → eqb a b ≡ eqb b a
eqb_sym a b = go (eqb a b) refl
  where
    go : (t : Bool) → eqb a b ≡ t → t ≡ eqb b a
    go true e = sym (eq-eqb b a (sym (eqb-true a b e)))
    go false e = sym (ne_eqb b a (λ (h : b ≡ a). let z : false ≡ true = sym e ∙ eq-eqb a b (sym h) in let y : ◌≡◌ {A = ℕ} 0 1 = cc in omega arith))

-- in the words of `contains`
pub among_any : (s : List ℕ) (c : ℕ) → list_any (λ d. eqb d c) s ≡ among s c
unfolding among
among_any [] c = refl
among_any (d ∷ s) c = rw (eqb_sym d c, among_any s c)

pub contained : (s : List ℕ) (c : ℕ) (r v : Bool) → r ≡ list_any (λ d. eqb d c) s → r ≡ v → among s c ≡ v
contained s c r v e h = sym (among_any s c) ∙ sym e ∙ h

-- whether the first of what is left stands again
pub differ_step : (s : List ℕ) (i n : ℕ) (r v : Bool) → i < length s → length s ≤ i + 1 + n → r ≡ list_any (λ d. eqb d (get_or s i 0)) (take n (drop (i + 1) s)) → r ≡ v
    → all_differ (drop i s) ≡ (not v && all_differ (drop (i + 1) s))
unfolding all_differ
differ_step s i n r v h m e k =
    let again : among (drop (i + 1) s) (get_or s i 0) ≡ v = contained _ _ r v (rw (take_all n (drop (i + 1) s) (simp length-drop (omega arith))) at e) k in
    rw (drop_step s i h, again)
