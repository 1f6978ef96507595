-- SM's list, judged by the writer and by the readers.
use mathlib.Core.Path.{◌≡◌, refl}
use mathlib.Core.Bool.{Bool, true, false}
use mathlib.Core.List.{List, [], ◌∷◌, map}
use Prim.Native.Nat.{ℕ, ◌+◌, ◌<◌}
use native.Mathlib.Omega.{arith}
use borrow.Author.Tests.{ne_eqb, ltb-true, le-leb}
use lib.Dec.{eqb, leb, ltb, eqb-suc-zero}
use lib.ListN.{length}
use Rattle.std.specs.Prelude.{Err, Ok}
use Rattle.buffer.specs.First.{pick}
use Rattle.buffer.specs.Byte.{within, every, leading, starts_with}
use Rattle.sources.specs.Source.{known_sources, among, all_differ, stand_once, source_text, source_of, list_text}
use Rattle.sources.specs.Entries.{is_formed, is_known, entries_of, entries_number}
use Rattle.settings.specs.Limits.{ProfileLimits}
use Rattle.forms.specs.Forms.{idle_list, known_mode, stream_of, stream_data}
use Rattle.forms.specs.Judged.{verdict_of}
use Rattle.forms_facts.specs.Sound.{Proper}
use Rattle.forms_facts.proofs.Lemmas.Lacks.{split}
use Rattle.forms_facts.proofs.Lemmas.Texts.{texts_of, opens_list, digit_code, source_told, list_number, none_number}
use Rattle.request_writer.specs.Typed.{typed_stream}
use Rattle.written_facts.specs.Theorems.{JudgedAlike}
use Rattle.sources.specs.declared.SourceError.{SourceError}

-- ---- codes of one digit

module _ (codes : List ℕ) (here : every (among known_sources) codes ≡ true) where
  -- the text of a code is of the form, and known exactly if the code is
  abbrev Told : ℕ → Type 0
  Told c = (is_formed (source_of codes (source_text c)) ≡ true) × (is_known (source_of codes (source_text c)) ≡ among codes c)

  told : (c : ℕ) → c < 10 → Told c
  unfolding pick
  told c h = rw (source_told codes c here (digit_code c h)) (go (among codes c))
    where
      go : (b : Bool) → (is_formed (pick b (Ok c) (Err SourceError.Unknown)) ≡ true) × (is_known (pick b (Ok c) (Err SourceError.Unknown)) ≡ b)
      go true = (refl, refl)
      go false = (refl, refl)

  abbrev AllTold : List ℕ → Type 0
  AllTold list = (every is_formed (map (source_of codes) (map source_text list)) ≡ true) × (every is_known (map (source_of codes) (map source_text list)) ≡ every (among codes) list)

  all_told : (list : List ℕ) → every (λ c. ltb c 10) list ≡ true → AllTold list
  unfolding every
  all_told [] e = (refl, refl)
  all_told (c ∷ list) e =
      let w = split (ltb c 10) (every (λ c. ltb c 10) list) e in
      let a = told c (ltb-true c 10 w.0) in
      let b = all_told list w.1 in
      (rw (a.0, b.0), rw (a.1, b.1))

  -- a source that is unknown is RANGE
  unknown_number : (list : List ℕ) → every (λ c. ltb c 10) list ≡ true → every (among codes) list ≡ false → entries_number codes (list_text list) ≡ 11
  unfolding entries_number entries_of pick
  unknown_number list e k = let w = all_told list e in rw (texts_of list, opens_list list, w.0, w.1, k)

-- ---- the modes

some_digit : (list : List ℕ) → eqb (leading (list_text list) + 1) 0 ≡ false
some_digit list = ne_eqb (leading (list_text list) + 1) 0 (λ (e : leading (list_text list) + 1 ≡ 0). omega arith)

module _ (limits : ProfileLimits) (ok : Proper limits) where
  abbrev codes : List ℕ
  codes = limits.source_codes

  on_alike : (list : List ℕ) → every (λ c. ltb c 10) list ≡ true → typed_stream limits true list ≡ stream_data limits (52 ∷ list_text list)
  unfolding stream_data stream_of typed_stream leading starts_with idle_list known_mode pick within
  on_alike list e = go (every (among codes) list) (stand_once list) refl refl
    where
      go : (b d : Bool) → every (among codes) list ≡ b → stand_once list ≡ d → typed_stream limits true list ≡ stream_data limits (52 ∷ list_text list)
      go true true k l = rw (some_digit list, list_number codes ok.here list k, k, l)
      go true false k l = rw (some_digit list, list_number codes ok.here list k, k, l)
      go false d k l = rw (some_digit list, unknown_number codes ok.here list e k, k)

  -- `0` with a list is SYNTAX
  off_alike : (list : List ℕ) → typed_stream limits false list ≡ stream_data limits (48 ∷ list_text list)
  unfolding stream_data stream_of typed_stream leading starts_with idle_list known_mode pick within list_text every all_differ among
  off_alike [] = rw (none_number codes)
  off_alike (c ∷ list) = go (eqb (entries_number codes (list_text (c ∷ list))) 10) refl
    where
      two : leb 2 (length (48 ∷ list_text (c ∷ list))) ≡ true
      two = le-leb 2 (length (48 ∷ list_text (c ∷ list))) (omega arith)

      go : (b : Bool) → eqb (entries_number codes (list_text (c ∷ list))) 10 ≡ b → typed_stream limits false (c ∷ list) ≡ stream_data limits (48 ∷ list_text (c ∷ list))
      go true e = rw (eqb-suc-zero, some_digit (c ∷ list), e)
      go false e = rw (eqb-suc-zero, some_digit (c ∷ list), e, two)

pub judged_alike : JudgedAlike
unfolding verdict_of
judged_alike limits ok true list e = on_alike limits ok list e
judged_alike limits ok false list e = off_alike limits ok list
