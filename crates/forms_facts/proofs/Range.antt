-- SM: where it is refused with 11.
use mathlib.Core.Path.{◌≡◌, refl, sym, ap, ◌∙◌}
use mathlib.Core.Bool.{Bool, true, false, cond, not, ◌||◌, and-false, or-true, true≢false}
use mathlib.Core.List.{List, [], ◌∷◌, map}
use mathlib.Core.Logic.{◌⊎◌, inl, inr}
use Prim.Native.Nat.{ℕ, ◌+◌}
use native.Mathlib.Omega.{arith}
use borrow.Author.Tests.{eqb-true, eq-eqb, ne_eqb, not-true, not-false}
use lib.Dec.{eqb}
use lib.ListN.{length, drop}
use Rattle.std.specs.Prelude.{Err, Ok, Result}
use Rattle.buffer.specs.First.{pick}
use Rattle.buffer.specs.Byte.{is_digit, every, leading, starts_with, same_text}
use Rattle.buffer.proofs.Laws.{within_true}
use Rattle.buffer.proofs.Rules.{each}
use Rattle.sources.specs.Source.{source_text, is_source, find_source, source_of, stand_once}
use Rattle.sources.specs.Entries.{source_texts, entries_of, is_formed, is_known, code_of, opens, entries_number}
use Rattle.sources.proofs.Laws.{short_form, long_form, not_short}
use Rattle.settings.specs.Limits.{ProfileLimits}
use Rattle.settings.specs.declared.Setting.TheVariants.{Stream}
use Rattle.forms.specs.Forms.{idle_list, known_mode, stream_of, stream_data}
use Rattle.forms.specs.Judged.{verdict_of, verdict_number}
use Rattle.forms_facts.specs.Codes.{entries_text, is_known_text}
use Rattle.forms_facts.specs.Theorems.{RangeExactly}
use Rattle.forms_facts.proofs.Lemmas.Lacks.{lacks, split}
use Rattle.forms_facts.proofs.Lemmas.Lists.{joined_texts}
use Rattle.forms_facts.proofs.Lemmas.Texts.{texts_back, opens_texts}
use Rattle.forms_facts.proofs.Logic.{no_list}
use Rattle.sources.specs.declared.SourceError.{SourceError}
use Rattle.refusals.specs.declared.Refusal.{Refusal}

-- ---- texts of the form

no_d : (a : ℕ) → is_digit a ≡ true → eqb a 68 ≡ false
no_d a e = ne_eqb a 68 (λ (z : a ≡ 68). let h = within_true 48 57 a e in omega arith)

letter_or_digit : (a : ℕ) → (is_digit a || eqb a 84) ≡ true → eqb a 68 ≡ false
letter_or_digit a e = go (is_digit a) refl e
  where
    go : (b : Bool) → is_digit a ≡ b → (b || eqb a 84) ≡ true → eqb a 68 ≡ false
    go true f h = no_d a f
    go false f h = ne_eqb a 68 (λ (z : a ≡ 68). omega (arith, eqb-true a 84 h))

too_long : (a b c : ℕ) (t : List ℕ) → is_source (a ∷ b ∷ c ∷ t) ≡ false
unfolding is_source
too_long a b c t = rw (not_short (length (a ∷ b ∷ c ∷ t)) (λ e. omega arith) (λ e. omega arith), ne_eqb (length (a ∷ b ∷ c ∷ t)) 2 (λ e. omega arith)) (simp and-false)

-- a text of the form has no `D`
source_lacks : (t : List ℕ) → is_source t ≡ true → lacks 68 t ≡ true
unfolding lacks
source_lacks [] e = refl
source_lacks (a ∷ []) e = rw (no_d a (sym (short_form a) ∙ e))
source_lacks (a ∷ b ∷ []) e =
    let w = split (is_digit b) (is_digit a || eqb a 84) (sym (long_form a b) ∙ e) in
    rw (letter_or_digit a w.1, no_d b w.0)
source_lacks (a ∷ b ∷ c ∷ t) e = absurd (true≢false (sym e ∙ too_long a b c t))

all_lack : (ts : List (List ℕ)) → every is_source ts ≡ true → every (lacks 68) ts ≡ true
unfolding every
all_lack [] e = refl
all_lack (t ∷ ts) e = let w = split (is_source t) (every is_source ts) e in rw (source_lacks t w.0, all_lack ts w.1)

-- a text is of the form exactly if it is some source, known or not
find_formed : (codes t : List ℕ) → is_formed (find_source codes t) ≡ true
unfolding find_source
find_formed [] t = refl
find_formed (c ∷ codes) t = each (λ (r : Result ℕ SourceError). is_formed r ≡ true) (same_text t (source_text c)) (Ok c) (find_source codes t) (λ _. refl) (λ _. find_formed codes t)

formed_is : (codes : List ℕ) (t : List ℕ) → is_formed (source_of codes t) ≡ is_source t
unfolding source_of pick
formed_is codes t = go (is_source t)
  where
    go : (b : Bool) → is_formed (pick (not b) (Err SourceError.Malformed) (find_source codes t)) ≡ b
    go true = find_formed codes t
    go false = refl

all_formed : (codes : List ℕ) (ts : List (List ℕ)) → every is_formed (map (source_of codes) ts) ≡ every is_source ts
unfolding every
all_formed codes [] = refl
all_formed codes (t ∷ ts) = rw (formed_is codes t, all_formed codes ts)

all_known : (codes : List ℕ) (ts : List (List ℕ)) → every is_known (map (source_of codes) ts) ≡ every (is_known_text codes) ts
unfolding every
all_known codes [] = refl
all_known codes (t ∷ ts) = rw (all_known codes ts)

-- ---- how a text of entries is judged

module _ (codes t : List ℕ) where
  abbrev rest : ℕ
  rest = pick (not (stand_once (map code_of (entries_of codes t)))) 12 0

  abbrev rows : (a b c : Bool) → ℕ
  rows a b c = pick a 10 (pick b 10 (pick c 11 rest))

  of_form : eqb (entries_number codes t) 10 ≡ false → (opens t ≡ true) × (every is_formed (entries_of codes t) ≡ true)
  unfolding entries_number pick
  of_form e = go (not (opens t)) (not (every is_formed (entries_of codes t))) refl refl e
    where
      go : (a b : Bool) → not (opens t) ≡ a → not (every is_formed (entries_of codes t)) ≡ b → eqb (rows a b (not (every is_known (entries_of codes t)))) 10 ≡ false
          → (opens t ≡ true) × (every is_formed (entries_of codes t) ≡ true)
      go false false p q h = (not-false _ p, not-false _ q)
      go true b p q h = absurd (true≢false h)
      go false true p q h = absurd (true≢false h)

  unknown : eqb (entries_number codes t) 11 ≡ true → every is_known (entries_of codes t) ≡ false
  unfolding entries_number pick
  unknown e = go (not (opens t)) (not (every is_formed (entries_of codes t))) (not (every is_known (entries_of codes t))) (not (stand_once (map code_of (entries_of codes t)))) refl e
    where
      go : (a b c d : Bool) → not (every is_known (entries_of codes t)) ≡ c → eqb (pick a 10 (pick b 10 (pick c 11 (pick d 12 0)))) 11 ≡ true → every is_known (entries_of codes t) ≡ false
      go a b true d r h = not-true _ r
      go true b false d r h = absurd (true≢false (sym h))
      go false true false d r h = absurd (true≢false (sym h))
      go false false false true r h = absurd (true≢false (sym h))
      go false false false false r h = absurd (true≢false (sym h))

  by_known : opens t ≡ true → every is_formed (entries_of codes t) ≡ true → entries_number codes t ≡ pick (not (every is_known (entries_of codes t))) 11 rest
  unfolding entries_number pick
  by_known o f = rw (o, f)

-- ---- what a refusal with 11 went by

record Eleven (s : List ℕ) (n : ℕ) : Type 0 where
  some : eqb (leading s) 0 ≡ false
  formed : eqb n 10 ≡ false
  busy : idle_list s ≡ false
  why : (known_mode s ≡ false) ⊎ (eqb n 11 ≡ true)

eleven : (s : List ℕ) (n : ℕ) (a b c d e f : Bool) → eqb (leading s) 0 ≡ a → eqb n 10 ≡ b → idle_list s ≡ c → not (known_mode s) ≡ d → eqb n 11 ≡ e → eqb n 12 ≡ f
    → verdict_number (pick a (Err Refusal.Syntax) (pick b (Err Refusal.Syntax) (pick c (Err Refusal.Syntax) (pick d (Err Refusal.Range) (pick e (Err Refusal.Range) (pick f (Err Refusal.Logic) (Ok (Stream (starts_with 52 s))))))))) ≡ 11
    → Eleven s n
unfolding pick
eleven s n false false false true e f p q r t u v h = record { some = p; formed = q; busy = r; why = inl (not-true _ t) }
eleven s n false false false false true f p q r t u v h = record { some = p; formed = q; busy = r; why = inr u }
eleven s n true b c d e f p q r t u v h = absurd (omega arith)
eleven s n false true c d e f p q r t u v h = absurd (omega arith)
eleven s n false false true d e f p q r t u v h = absurd (omega arith)
eleven s n false false false false false true p q r t u v h = absurd (omega arith)
eleven s n false false false false false false p q r t u v h = absurd (omega arith)

abbrev Outside : List ℕ → List ℕ → Type 0
Outside codes s = (m : ℕ) × (ts : List (List ℕ)) × (s ≡ m ∷ entries_text ts) × (is_digit m ≡ true) × (every is_source ts ≡ true) × (m ≡ 48 → ⊥) × (m ≡ 52 → every (is_known_text codes) ts ≡ false)

digit_first : (x : ℕ) (t : List ℕ) → eqb (leading (x ∷ t)) 0 ≡ false → is_digit x ≡ true
unfolding leading
digit_first x t e = go (is_digit x) e
  where
    go : (b : Bool) → eqb (cond b (leading t + 1) 0) 0 ≡ false → b ≡ true
    go true h = refl
    go false h = absurd (true≢false h)

-- another mode is neither `0` nor `4`
other_mode : (x y : ℕ) (t : List ℕ) → (y ≡ 48) ⊎ (y ≡ 52) → known_mode (x ∷ t) ≡ false → x ≡ y → ⊥
unfolding known_mode starts_with
other_mode x y t (inl e) k h = true≢false (rw (eq-eqb x 48 (h ∙ e)) at k)
other_mode x y t (inr e) k h = true≢false (rw (eq-eqb x 52 (h ∙ e), or-true) at k)

not_0 : (limits : ProfileLimits) (x : ℕ) (t : List ℕ) → Eleven (x ∷ t) (entries_number limits.source_codes t) → x ≡ 48 → ⊥
not_0 limits x t w h = go w.why
  where
    go : (known_mode (x ∷ t) ≡ false) ⊎ (eqb (entries_number limits.source_codes t) 11 ≡ true) → ⊥
    go (inl k) = other_mode x 48 t (inl refl) k h
    go (inr n) = omega (arith, eqb-true (entries_number limits.source_codes t) 11 n, no_list limits t (rw h at w.busy))

not_known : (limits : ProfileLimits) (x : ℕ) (t : List ℕ) → Eleven (x ∷ t) (entries_number limits.source_codes t) → x ≡ 52 → every (is_known_text limits.source_codes) (source_texts t) ≡ false
unfolding entries_of
not_known limits x t w h = go w.why
  where
    go : (known_mode (x ∷ t) ≡ false) ⊎ (eqb (entries_number limits.source_codes t) 11 ≡ true) → every (is_known_text limits.source_codes) (source_texts t) ≡ false
    go (inl k) = absurd (other_mode x 52 t (inr refl) k h)
    go (inr n) = sym (all_known limits.source_codes (source_texts t)) ∙ unknown limits.source_codes t n

outside : (limits : ProfileLimits) (s : List ℕ) → Eleven s (entries_number limits.source_codes (drop 1 s)) → Outside limits.source_codes s
unfolding entries_of leading
outside limits [] w = absurd (true≢false w.some)
outside limits (x ∷ t) w =
    let f = of_form limits.source_codes t w.formed in
    (x, source_texts t, rw (joined_texts t f.0), digit_first x t w.some, sym (all_formed limits.source_codes (source_texts t)) ∙ f.1, not_0 limits x t w, not_known limits x t w)

-- ---- and the other way round

-- how entries of the form are judged
texts_number : (limits : ProfileLimits) (ts : List (List ℕ)) → every is_source ts ≡ true → entries_number limits.source_codes (entries_text ts) ≡ pick (not (every (is_known_text limits.source_codes) ts)) 11 (rest limits.source_codes (entries_text ts))
unfolding entries_of
texts_number limits ts f =
    let e : source_texts (entries_text ts) ≡ ts = texts_back ts (all_lack ts f) in
    let k : every is_known (map (source_of limits.source_codes) (source_texts (entries_text ts))) ≡ every (is_known_text limits.source_codes) ts = ap (λ (us : List (List ℕ)). every is_known (map (source_of limits.source_codes) us)) e ∙ all_known limits.source_codes ts in
    by_known limits.source_codes (entries_text ts) (opens_texts ts) (ap (λ (us : List (List ℕ)). every is_formed (map (source_of limits.source_codes) us)) e ∙ all_formed limits.source_codes ts ∙ f) ∙ ap (λ (b : Bool). pick (not b) 11 (rest limits.source_codes (entries_text ts))) k

-- it is not 10
not_10 : (b d : Bool) → eqb (pick b 11 (pick d 12 0)) 10 ≡ false
unfolding pick
not_10 true d = refl
not_10 false true = refl
not_10 false false = refl

refused : (limits : ProfileLimits) (m : ℕ) (ts : List (List ℕ)) → is_digit m ≡ true → every is_source ts ≡ true → (m ≡ 48 → ⊥) → (m ≡ 52 → every (is_known_text limits.source_codes) ts ≡ false) → stream_data limits (m ∷ entries_text ts) ≡ Err Refusal.Range
unfolding stream_data stream_of leading starts_with idle_list known_mode pick
refused limits m ts d f z k = go (eqb m 52) refl
  where
    n : ℕ
    n = entries_number limits.source_codes (entries_text ts)

    l : eqb (leading (entries_text ts) + 1) 0 ≡ false
    l = ne_eqb (leading (entries_text ts) + 1) 0 (λ (e : leading (entries_text ts) + 1 ≡ 0). omega arith)

    formed : eqb n 10 ≡ false
    formed = rw (texts_number limits ts f) (not_10 (not (every (is_known_text limits.source_codes) ts)) (not (stand_once (map code_of (entries_of limits.source_codes (entries_text ts))))))

    go : (b : Bool) → eqb m 52 ≡ b → stream_data limits (m ∷ entries_text ts) ≡ Err Refusal.Range
    go true e =
        let eleven : n ≡ 11 = texts_number limits ts f ∙ rw (k (eqb-true m 52 e)) in
        rw (d, l, eleven, ne_eqb m 48 z, e)
    go false e = rw (d, l, formed, ne_eqb m 48 z, e)

pub range_exactly : RangeExactly
unfolding verdict_of stream_data stream_of
range_exactly limits s = (
  λ e. outside limits s (eleven s (entries_number limits.source_codes (drop 1 s)) _ _ _ _ _ _ refl refl refl refl refl refl (ap verdict_number e)),
  λ w. rw w.2 (refused limits w.0 w.1 w.3 w.4 w.5 w.6),
)
