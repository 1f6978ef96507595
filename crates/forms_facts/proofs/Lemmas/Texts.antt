-- The texts of lists of sources.
use mathlib.Core.Path.{◌≡◌, refl, sym, ap, ◌∙◌}
use mathlib.Core.Bool.{Bool, true, false, not, ◌||◌, or-true, true≢false}
use mathlib.Core.List.{List, [], ◌∷◌, ◌++◌, map}
use Prim.Native.Nat.{ℕ, zero, suc, ◌<◌, ◌≤◌}
use native.Mathlib.Omega.{arith}
use borrow.Author.Tests.{eqb-true, eq-eqb, ne_eqb, not-true}
use lib.Dec.{eqb}
use lib.ListN.{length}
use Rattle.std.specs.Prelude.{Err, Ok}
use Rattle.buffer.specs.First.{pick}
use Rattle.buffer.specs.Byte.{within, every, same_text, digit}
use Rattle.buffer.proofs.Laws.{same_self, same_equal}
use Rattle.buffer.proofs.Rules.{each}
use Rattle.sources.specs.Source.{source_text, is_source, find_source, source_of, known_sources, list_text, among, all_differ, stand_once}
use Rattle.sources.specs.Entries.{onto, parts, source_texts, entries_of, is_formed, is_known, code_of, opens, entries_number, entries_list}
use Rattle.forms_facts.specs.Codes.{GoodList, entries_text}
use Rattle.forms_facts.proofs.Lemmas.Lacks.{lacks, split}
use Rattle.forms_facts.proofs.Lemmas.Lists.{good_once}
use Rattle.sources.specs.declared.SourceError.{SourceError}

digit_no : (n b : ℕ) → 58 ≤ b → eqb (digit n) b ≡ false
digit_no n b h = ne_eqb (digit n) b (λ (e : digit n ≡ b). omega arith)

source_lack : (c : ℕ) → lacks 68 (source_text c) ≡ true
unfolding source_text lacks
source_lack c =
    each (λ (l : List ℕ). lacks 68 l ≡ true) (eqb c 8) (84 ∷ 50 ∷ []) (pick (eqb c 9) (84 ∷ 54 ∷ []) (digit c ∷ [])) (λ _. refl)
    (λ _. each (λ (l : List ℕ). lacks 68 l ≡ true) (eqb c 9) (84 ∷ 54 ∷ []) (digit c ∷ []) (λ _. refl) (λ _. rw (digit_no c 68 (omega arith))))

-- ---- texts without `D`, each after a `D`

parts_text : (t : List ℕ) (ts : List (List ℕ)) → lacks 68 t ≡ true → parts (t ++ entries_text ts) ≡ t ∷ source_texts (entries_text ts)
unfolding lacks parts onto entries_text source_texts
parts_text [] [] e = refl
parts_text [] (u ∷ ts) e = refl
parts_text (x ∷ t) ts e =
    let w = split (not (eqb x 68)) (lacks 68 t) e in
    rw (not-true (eqb x 68) w.0, parts_text t ts w.1)

-- what follows each `D`
pub texts_back : (ts : List (List ℕ)) → every (lacks 68) ts ≡ true → source_texts (entries_text ts) ≡ ts
unfolding entries_text source_texts every
texts_back [] e = refl
texts_back (t ∷ ts) e =
    let w = split (lacks 68 t) (every (lacks 68) ts) e in
    parts_text t ts w.0 ∙ rw (texts_back ts w.1)

pub opens_texts : (ts : List (List ℕ)) → opens (entries_text ts) ≡ true
unfolding opens entries_text
opens_texts [] = refl
opens_texts (t ∷ ts) = or-true (eqb (length (entries_text (t ∷ ts))) 0)

-- the text of a list is of this form
pub list_texts : (cs : List ℕ) → list_text cs ≡ entries_text (map source_text cs)
unfolding list_text entries_text
list_texts [] = refl
list_texts (c ∷ cs) = rw (list_texts cs)

sources_lack : (cs : List ℕ) → every (lacks 68) (map source_text cs) ≡ true
unfolding every
sources_lack [] = refl
sources_lack (c ∷ cs) = rw (source_lack c, sources_lack cs)

pub texts_of : (cs : List ℕ) → source_texts (list_text cs) ≡ map source_text cs
texts_of cs = rw (list_texts cs) (texts_back (map source_text cs) (sources_lack cs))

-- ---- the known sources, one by one

abbrev pub Each : (ℕ → Type 0) → List ℕ → Type 0
Each P [] = Unit {0}
Each P (c ∷ cs) = P c × Each P cs

pub of_each : (P : ℕ → Type 0) (codes : List ℕ) (c : ℕ) → Each P codes → among codes c ≡ true → P c
unfolding among
of_each P [] c h e = absurd (cc)
of_each P (d ∷ codes) c h e = go (eqb c d) refl e (of_each P codes c h.1)
  where
    go : (b : Bool) → eqb c d ≡ b → (b || among codes c) ≡ true → (among codes c ≡ true → P c) → P c
    go true f k r = rw (eqb-true c d f) h.0
    go false f k r = r k

-- the codes of one digit; document 01's sources are some of them
abbrev pub digit_codes : List ℕ
digit_codes = 0 ∷ 1 ∷ 2 ∷ 3 ∷ 4 ∷ 5 ∷ 6 ∷ 7 ∷ 8 ∷ 9 ∷ []

-- the text of each names it, and is of the form
named_again : (c : ℕ) → among digit_codes c ≡ true → source_of digit_codes (source_text c) ≡ Ok c
unfolding source_of find_source source_text is_source every within same_text pick
named_again c e = of_each (λ (k : ℕ). source_of digit_codes (source_text k) ≡ Ok k) digit_codes c (refl, (refl, (refl, (refl, (refl, (refl, (refl, (refl, (refl, (refl, tt)))))))))) e

text_formed : (c : ℕ) → among digit_codes c ≡ true → is_source (source_text c) ≡ true
unfolding source_text is_source every within pick
text_formed c e = of_each (λ (k : ℕ). is_source (source_text k) ≡ true) digit_codes c (refl, (refl, (refl, (refl, (refl, (refl, (refl, (refl, (refl, (refl, tt)))))))))) e

-- so two of them with one text are one
one_source : (c d : ℕ) → among digit_codes c ≡ true → among digit_codes d ≡ true → source_text c ≡ source_text d → c ≡ d
one_source c d e f t =
    let z : Ok c ≡ Ok d = sym (named_again c e) ∙ ap (source_of digit_codes) t ∙ named_again d f in
    ap code_of z

-- one of the sources of a list, all of which are among others
among_more : (big cs : List ℕ) (c : ℕ) → every (among big) cs ≡ true → among cs c ≡ true → among big c ≡ true
unfolding every among
among_more big [] c k h = absurd (cc)
among_more big (d ∷ cs) c k h = let w = split (among big d) (every (among big) cs) k in go (eqb c d) refl h w.0 (among_more big cs c w.1)
  where
    go : (b : Bool) → eqb c d ≡ b → (b || among cs c) ≡ true → among big d ≡ true → (among cs c ≡ true → among big c ≡ true) → among big c ≡ true
    go true e f g r = rw (eqb-true c d e) g
    go false e f g r = r f

pub all_among : (big cs : List ℕ) → every (among big) cs ≡ true → (list : List ℕ) → every (among cs) list ≡ true → every (among big) list ≡ true
unfolding every
all_among big cs k [] e = refl
all_among big cs k (c ∷ list) e = let w = split (among cs c) (every (among cs) list) e in rw (among_more big cs c k w.0, all_among big cs k list w.1)

known_digits : (cs : List ℕ) → every (among known_sources) cs ≡ true → every (among digit_codes) cs ≡ true
unfolding every among
known_digits cs k = all_among digit_codes known_sources refl cs k

pub digit_code : (c : ℕ) → c < 10 → among digit_codes c ≡ true
unfolding among
digit_code zero h = refl
digit_code (suc zero) h = refl
digit_code (suc (suc zero)) h = refl
digit_code (suc (suc (suc zero))) h = refl
digit_code (suc (suc (suc (suc zero)))) h = refl
digit_code (suc (suc (suc (suc (suc zero))))) h = refl
digit_code (suc (suc (suc (suc (suc (suc zero)))))) h = refl
digit_code (suc (suc (suc (suc (suc (suc (suc zero))))))) h = refl
digit_code (suc (suc (suc (suc (suc (suc (suc (suc zero)))))))) h = refl
digit_code (suc (suc (suc (suc (suc (suc (suc (suc (suc zero))))))))) h = refl
digit_code (suc (suc (suc (suc (suc (suc (suc (suc (suc (suc c)))))))))) h = absurd (omega arith)

-- the text of a code of one digit names it where it is among the sources, and none of them otherwise
find_told : (cs : List ℕ) (c : ℕ) → every (among digit_codes) cs ≡ true → among digit_codes c ≡ true → find_source cs (source_text c) ≡ pick (among cs c) (Ok c) (Err SourceError.Unknown)
unfolding find_source every among pick
find_told [] c k e = refl
find_told (d ∷ cs) c k e =
    let w = split (among digit_codes d) (every (among digit_codes) cs) k in
    go (same_text (source_text c) (source_text d)) refl w.0 (find_told cs c w.1 e)
  where
    other : same_text (source_text c) (source_text d) ≡ false → eqb c d ≡ false
    other n = ne_eqb c d (λ (z : c ≡ d). true≢false (sym (same_self (source_text d)) ∙ rw z at n))

    go : (b : Bool) → same_text (source_text c) (source_text d) ≡ b → among digit_codes d ≡ true → find_source cs (source_text c) ≡ pick (among cs c) (Ok c) (Err SourceError.Unknown)
        → pick b (Ok d) (find_source cs (source_text c)) ≡ pick (eqb c d || among cs c) (Ok c) (Err SourceError.Unknown)
    go true n f r =
        let z : c ≡ d = one_source c d e f (same_equal (source_text c) (source_text d) n) in
        rw (eq-eqb c d z) (ap Ok (sym z))
    go false n f r = rw (other n) r

pub source_told : (codes : List ℕ) (c : ℕ) → every (among known_sources) codes ≡ true → among digit_codes c ≡ true → source_of codes (source_text c) ≡ pick (among codes c) (Ok c) (Err SourceError.Unknown)
unfolding source_of pick
source_told codes c k e = rw (text_formed c e) (find_told codes c (known_digits codes k) e)

-- where the gauge's sources are some of the known ones
module _ (codes : List ℕ) (here : every (among known_sources) codes ≡ true) where
  -- the text of one of them names it
  source_again : (c : ℕ) → among codes c ≡ true → source_of codes (source_text c) ≡ Ok c
  unfolding pick
  source_again c e = source_told codes c here (among_more digit_codes codes c (known_digits codes here) e) ∙ rw e

  sources_again : (cs : List ℕ) → every (among codes) cs ≡ true → map (source_of codes) (map source_text cs) ≡ map Ok cs
  unfolding every
  sources_again [] e = refl
  sources_again (c ∷ cs) e =
      let w = split (among codes c) (every (among codes) cs) e in
      rw (source_again c w.0, sources_again cs w.1)

  pub entries_of_lem : (cs : List ℕ) → every (among codes) cs ≡ true → entries_of codes (list_text cs) ≡ map Ok cs
  unfolding entries_of
  entries_of_lem cs e = rw (texts_of cs) (sources_again cs e)

pub opens_list : (cs : List ℕ) → opens (list_text cs) ≡ true
opens_list cs = rw (list_texts cs) (opens_texts (map source_text cs))

all_formed : (cs : List ℕ) → every is_formed (map Ok cs) ≡ true
unfolding every
all_formed [] = refl
all_formed (c ∷ cs) = all_formed cs

all_known : (cs : List ℕ) → every is_known (map Ok cs) ≡ true
unfolding every
all_known [] = refl
all_known (c ∷ cs) = all_known cs

all_codes : (cs : List ℕ) → map code_of (map Ok cs) ≡ cs
all_codes [] = refl
all_codes (c ∷ cs) = rw (all_codes cs)

-- no entries at all are accepted
pub none_number : (codes : List ℕ) → entries_number codes [] ≡ 0
unfolding entries_number opens entries_of source_texts every all_differ among pick
none_number codes = refl

module _ (codes : List ℕ) (here : every (among known_sources) codes ≡ true) where
  -- a list's text is refused with 12 or accepted
  pub list_number : (cs : List ℕ) → every (among codes) cs ≡ true → entries_number codes (list_text cs) ≡ pick (not (stand_once cs)) 12 0
  unfolding entries_number pick
  list_number cs k = rw (entries_of_lem codes here cs k, opens_list cs, all_formed cs, all_known cs, all_codes cs)

  -- a good one is accepted, and lists the same
  pub good_number : (cs : List ℕ) → GoodList codes cs → entries_number codes (list_text cs) ≡ 0
  unfolding pick
  good_number cs h = list_number cs h.known ∙ rw (good_once codes cs h)

  pub list_again : (cs : List ℕ) → GoodList codes cs → entries_list codes (list_text cs) ≡ cs
  unfolding entries_list
  list_again cs h = rw (good_number cs h, entries_of_lem codes here cs h.known) (all_codes cs)
