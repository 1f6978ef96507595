-- Lists of sources and their texts.
use mathlib.Core.Path.{◌≡◌, refl, sym, ap, ◌∙◌}
use mathlib.Core.Bool.{Bool, true, false, cond, not, ◌&&◌, true≢false}
use mathlib.Core.Logic.{inl, inr}
use mathlib.Core.List.{List, [], ◌∷◌, ◌++◌, map}
use Prim.Native.Nat.{ℕ}
use native.Mathlib.Omega.{arith}
use borrow.Author.Tests.{eqb-true, not-false}
use lib.Dec.{eqb, eqb-suc-zero}
use lib.ListN.{length}
use Rattle.std.specs.Prelude.{Err, Ok, Result}
use Rattle.buffer.specs.First.{pick}
use Rattle.buffer.specs.Byte.{every}
use Rattle.sources.specs.Source.{source_of, list_text, among, stand_once, listable}
use Rattle.sources.proofs.Known.{Named, source_named, codes_known}
use Rattle.sources.proofs.Weights.{at_most, once_exactly}
use Rattle.sources.specs.Theorems.{RepeatOrZero}
use Rattle.sources.specs.Entries.{onto, parts, source_texts, entries_of, is_formed, is_known, code_of, opens, entries_number, entries_list}
use Rattle.forms_facts.specs.Codes.{GoodList, entries_text}
use Rattle.forms_facts.specs.Theorems.{AtMostEntries}
use Rattle.sources.specs.declared.SourceError.{SourceError}

-- ---- the texts of sources that are all known

pub texts_known : (codes : List ℕ) (ts : List (List ℕ)) → every is_known (map (source_of codes) ts) ≡ true → list_text (map code_of (map (source_of codes) ts)) ≡ entries_text ts
unfolding every list_text entries_text
texts_known codes [] e = refl
texts_known codes (t ∷ ts) e = go (source_of codes t) (source_named codes t) (texts_known codes ts) e
  where
    go : (r : Result ℕ SourceError) → Named codes t r → (every is_known (map (source_of codes) ts) ≡ true → list_text (map code_of (map (source_of codes) ts)) ≡ entries_text ts)
        → (is_known r && every is_known (map (source_of codes) ts)) ≡ true → list_text (code_of r ∷ map code_of (map (source_of codes) ts)) ≡ 68 ∷ (t ++ entries_text ts)
    go (Ok c) h f k = rw (f k, h.1)
    go (Err SourceError.Unknown) h f k = absurd (cc)
    go (Err SourceError.Malformed) h f k = absurd (cc)

-- ---- a text cut and `entries_text` again

joined_onto : (x : ℕ) (ts : List (List ℕ)) (s : List ℕ) → entries_text ts ≡ 68 ∷ s → entries_text (onto x ts) ≡ 68 ∷ x ∷ s
unfolding onto entries_text
joined_onto x [] s h = absurd (cc)
joined_onto x (t ∷ ts) s h = cc

joined_parts : (s : List ℕ) → entries_text (parts s) ≡ 68 ∷ s
unfolding parts entries_text onto
joined_parts [] = refl
joined_parts (x ∷ s) = go (eqb x 68) refl (joined_parts s)
  where
    go : (b : Bool) → eqb x 68 ≡ b → entries_text (parts s) ≡ 68 ∷ s → entries_text (cond b ([] ∷ parts s) (onto x (parts s))) ≡ 68 ∷ x ∷ s
    go true e h = cc (eqb-true x 68 e)
    go false e h = joined_onto x (parts s) s h

pub joined_texts : (s : List ℕ) → opens s ≡ true → entries_text (source_texts s) ≡ s
unfolding source_texts opens entries_text
joined_texts [] e = refl
joined_texts (x ∷ s) e = cc (joined_parts s, eqb-true x 68 (rw (eqb-suc-zero (length s)) at e))

-- ---- how a text of entries is judged

-- a text of entries whose sources are all known
pub record AllKnown (codes : List ℕ) (s : List ℕ) : Type 0 where
  pub number : entries_number codes s ≡ pick (not (stand_once (map code_of (entries_of codes s)))) 12 0
  pub opened : opens s ≡ true
  pub known : every is_known (entries_of codes s) ≡ true

-- what is neither SYNTAX nor RANGE is such a text
pub listed : (codes : List ℕ) (s : List ℕ) → eqb (entries_number codes s) 10 ≡ false → eqb (entries_number codes s) 11 ≡ false → AllKnown codes s
unfolding entries_number pick
listed codes s e f = go (not (opens s)) (not (every is_formed (entries_of codes s))) (not (every is_known (entries_of codes s))) refl refl refl e f
  where
    rest : ℕ
    rest = pick (not (stand_once (map code_of (entries_of codes s)))) 12 0

    rows : (a b c : Bool) → ℕ
    rows a b c = pick a 10 (pick b 10 (pick c 11 rest))

    go : (a b c : Bool) → not (opens s) ≡ a → not (every is_formed (entries_of codes s)) ≡ b → not (every is_known (entries_of codes s)) ≡ c → eqb (rows a b c) 10 ≡ false → eqb (rows a b c) 11 ≡ false
        → AllKnown codes s
    go false false false p q r h k = record { number = rw (p, q, r); opened = not-false _ p; known = not-false _ r }
    go true b c p q r h k = absurd (cc)
    go false true c p q r h k = absurd (cc)
    go false false true p q r h k = absurd (cc)

-- such a text is the text of its list, whose sources are known
pub listed_known : (codes : List ℕ) (s : List ℕ) → AllKnown codes s → every (among codes) (map code_of (entries_of codes s)) ≡ true
unfolding entries_of
listed_known codes s f = codes_known codes (source_texts s) f.known

pub listed_text : (codes : List ℕ) (s : List ℕ) → AllKnown codes s → list_text (map code_of (entries_of codes s)) ≡ s
unfolding entries_of
listed_text codes s f = texts_known codes (source_texts s) f.known ∙ joined_texts s f.opened

-- none stands twice exactly if it is not refused
pub once_number : (b : Bool) (n : ℕ) → n ≡ pick (not b) 12 0 → b ≡ not (eqb n 12)
unfolding pick
once_number true n e = rw e
once_number false n e = rw e

pub once_zero : (b : Bool) (n : ℕ) → n ≡ pick (not b) 12 0 → eqb n 12 ≡ false → n ≡ 0
unfolding pick
once_zero true n e h = e
once_zero false n e h = absurd (let z : ◌≡◌ {A = Bool} true false = rw e at h in cc)

-- ---- lists that SM can have

pub none_good : (codes : List ℕ) → GoodList codes []
unfolding every among
none_good codes = record { known = refl; once = λ r. omega (arith, r.apart, r.inside); unlisted = refl }

-- known, and standing once
pub once_good : (codes : List ℕ) (list : List ℕ) → every (among codes) list ≡ true → stand_once list ≡ true → GoodList codes list
once_good codes list k l =
    record {
      known = k;
      once = λ r. absurd (no (inl r));
      unlisted = go (among list 0) refl;
    }
  where
    no : RepeatOrZero list → ⊥
    no r = true≢false (sym l ∙ (once_exactly list).1 r)

    go : (b : Bool) → among list 0 ≡ b → b ≡ false
    go true e = absurd (no (inr e))
    go false e = refl

pub good_once : (codes : List ℕ) (list : List ℕ) → GoodList codes list → stand_once list ≡ true
good_once codes list f = go (stand_once list) refl
  where
    refuse : RepeatOrZero list → ⊥
    refuse (inl r) = f.once r
    refuse (inr e) = true≢false (sym e ∙ f.unlisted)

    go : (b : Bool) → stand_once list ≡ b → b ≡ true
    go true e = refl
    go false e = absurd (refuse ((once_exactly list).0 e))

pub good_listable : (codes : List ℕ) (list : List ℕ) → GoodList codes list → listable codes list ≡ true
unfolding listable
good_listable codes list f = rw (f.known, good_once codes list f)

pub at_most_entries : AtMostEntries
at_most_entries limits ok list f = at_most limits.source_codes list ok.first (good_listable limits.source_codes list f)

-- what is accepted: such a text, and none stands twice
pub record Fits (codes : List ℕ) (s : List ℕ) : Type 0 where
  pub number : entries_number codes s ≡ 0
  pub listed : AllKnown codes s
  pub good : GoodList codes (map code_of (entries_of codes s))

pub fits : (codes : List ℕ) (s : List ℕ) → eqb (entries_number codes s) 10 ≡ false → eqb (entries_number codes s) 11 ≡ false → eqb (entries_number codes s) 12 ≡ false → Fits codes s
fits codes s e f h =
    let w = listed codes s e f in
    let list' = map code_of (entries_of codes s) in
    record {
      number = once_zero (stand_once list') (entries_number codes s) w.number h;
      listed = w;
      good = once_good codes list' (listed_known codes s w) (once_number (stand_once list') (entries_number codes s) w.number ∙ ap not h);
    }

pub entries_good : (codes : List ℕ) (s : List ℕ) → GoodList codes (entries_list codes s)
unfolding entries_list
entries_good codes s = go (eqb (entries_number codes s) 0) refl
  where
    go : (b : Bool) → eqb (entries_number codes s) 0 ≡ b → GoodList codes (cond b (map code_of (entries_of codes s)) [])
    go true e =
        let z : entries_number codes s ≡ 0 = eqb-true (entries_number codes s) 0 e in
        (fits codes s (rw z) (rw z) (rw z)).good
    go false e = none_good codes

-- an accepted text is the text of its list
pub entries_again : (codes : List ℕ) (s : List ℕ) → Fits codes s → list_text (entries_list codes s) ≡ s
unfolding entries_list
entries_again codes s f = rw f.number (listed_text codes s f.listed)
