-- SM: where a list is refused with 12.
use mathlib.Core.Path.{◌≡◌, refl, ap, ◌∙◌}
use mathlib.Core.Bool.{Bool, true, false, not, ◌||◌}
use mathlib.Core.List.{List, [], ◌∷◌, map}
use Prim.Native.Nat.{ℕ, ◌+◌}
use native.Mathlib.Omega.{arith}
use borrow.Author.Tests.{eqb-true, ne_eqb, not-false}
use lib.Dec.{eqb}
use lib.ListN.{drop}
use Rattle.std.specs.Prelude.{Err, Ok}
use Rattle.buffer.specs.First.{pick}
use Rattle.buffer.specs.Byte.{every, within, leading, starts_with}
use Rattle.sources.specs.Source.{among, stand_once, list_text}
use Rattle.sources.specs.Entries.{code_of, entries_of, entries_number}
use Rattle.sources.specs.Theorems.{RepeatOrZero}
use Rattle.sources.proofs.Weights.{once_exactly, longer}
use Rattle.settings.specs.Limits.{ProfileLimits}
use Rattle.settings.specs.declared.Setting.TheVariants.{Stream}
use Rattle.forms.specs.Forms.{idle_list, known_mode, stream_of, stream_data}
use Rattle.forms.specs.Judged.{verdict_of, verdict_number}
use Rattle.forms_facts.proofs.Lemmas.Lists.{listed, listed_known, listed_text, once_number}
use Rattle.forms_facts.proofs.Lemmas.Texts.{none_number, list_number}
use Rattle.forms_facts.proofs.Again.{alone}
use Rattle.forms_facts.specs.Sound.{Proper}
use Rattle.forms_facts.specs.Theorems.{LogicExactly, LongerLogic}
use Rattle.refusals.specs.declared.Refusal.{Refusal}

-- what a refusal with 12 went by
record Twelve (s : List ℕ) (n : ℕ) : Type 0 where
  formed : eqb n 10 ≡ false
  busy : idle_list s ≡ false
  mode : known_mode s ≡ true
  known : eqb n 11 ≡ false
  twice : eqb n 12 ≡ true

twelve : (s : List ℕ) (n : ℕ) (a b c d e f : Bool) → eqb (leading s) 0 ≡ a → eqb n 10 ≡ b → idle_list s ≡ c → not (known_mode s) ≡ d → eqb n 11 ≡ e → eqb n 12 ≡ f
    → verdict_number (pick a (Err Refusal.Syntax) (pick b (Err Refusal.Syntax) (pick c (Err Refusal.Syntax) (pick d (Err Refusal.Range) (pick e (Err Refusal.Range) (pick f (Err Refusal.Logic) (Ok (Stream (starts_with 52 s))))))))) ≡ 12
    → Twelve s n
unfolding pick
twelve s n false false false false false true p q r t u v h = record { formed = q; busy = r; mode = not-false _ t; known = u; twice = v }
twelve s n true b c d e f p q r t u v h = absurd (omega arith)
twelve s n false true c d e f p q r t u v h = absurd (omega arith)
twelve s n false false true d e f p q r t u v h = absurd (omega arith)
twelve s n false false false true e f p q r t u v h = absurd (omega arith)
twelve s n false false false false true f p q r t u v h = absurd (omega arith)
twelve s n false false false false false false p q r t u v h = absurd (omega arith)

abbrev Holds : ProfileLimits → List ℕ → Type 0
Holds limits s = (list : List ℕ) × (s ≡ 52 ∷ list_text list) × (every (among limits.source_codes) list ≡ true) × RepeatOrZero list

-- `0` has no list: it is not refused with 11 or 12
pub no_list : (limits : ProfileLimits) (t : List ℕ) → idle_list (48 ∷ t) ≡ false → entries_number limits.source_codes t ≡ 0
unfolding idle_list starts_with
no_list limits t i = ap (entries_number limits.source_codes) (alone 48 t true i refl) ∙ none_number limits.source_codes

-- so the mode is `4`
mode_4 : (limits : ProfileLimits) (x : ℕ) (t : List ℕ) → idle_list (x ∷ t) ≡ false → known_mode (x ∷ t) ≡ true → eqb (entries_number limits.source_codes t) 12 ≡ true → x ≡ 52
unfolding known_mode starts_with
mode_4 limits x t i m e = go (eqb x 48) refl m
  where
    go : (b : Bool) → eqb x 48 ≡ b → (b || eqb x 52) ≡ true → x ≡ 52
    go true f m = absurd (omega (arith, eqb-true (entries_number limits.source_codes t) 12 e, no_list limits t (rw (eqb-true x 48 f) at i)))
    go false f m = eqb-true x 52 m

holds : (limits : ProfileLimits) (s : List ℕ) → Twelve s (entries_number limits.source_codes (drop 1 s)) → Holds limits s
holds limits [] w = absurd (omega (arith, eqb-true (entries_number limits.source_codes []) 12 w.twice, none_number limits.source_codes))
holds limits (x ∷ t) w =
    let l = listed limits.source_codes t w.formed w.known in
    let codes = map code_of (entries_of limits.source_codes t) in
    let twice : stand_once codes ≡ false = once_number (stand_once codes) (entries_number limits.source_codes t) l.number ∙ ap not w.twice in
    (codes, rw (mode_4 limits x t w.busy w.mode w.twice, listed_text limits.source_codes t l), listed_known limits.source_codes t l, (once_exactly codes).0 twice)

-- a list of known sources that do not stand once
refused : (limits : ProfileLimits) → Proper limits → (list : List ℕ) → every (among limits.source_codes) list ≡ true → stand_once list ≡ false → stream_data limits (52 ∷ list_text list) ≡ Err Refusal.Logic
unfolding stream_data stream_of leading starts_with idle_list known_mode pick within
refused limits ok list k l =
    let n : entries_number limits.source_codes (list_text list) ≡ 12 = list_number limits.source_codes ok.here list k ∙ rw l in
    rw (ne_eqb (leading (list_text list) + 1) 0 (λ (e : leading (list_text list) + 1 ≡ 0). omega arith), n)

pub logic_exactly : LogicExactly
unfolding verdict_of stream_data stream_of
logic_exactly limits ok s = (
  λ e. holds limits s (twelve s (entries_number limits.source_codes (drop 1 s)) _ _ _ _ _ _ refl refl refl refl refl refl (ap verdict_number e)),
  λ w. rw w.1 (refused limits ok w.0 w.2 ((once_exactly w.0).1 w.3)),
)

pub longer_logic : LongerLogic
unfolding verdict_of
longer_logic limits ok list k h = refused limits ok list k (longer limits.source_codes list ok.first k h)
