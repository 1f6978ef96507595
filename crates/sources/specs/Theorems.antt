-- What is proved here besides the contracts, each statement as a type; proofs/ has the proofs. "A gauge has seven sources, so at most six
-- entries can pass, and any longer list of known sources holds a repeat or a `0`."
use Rattle.std.specs.Prelude.{◌≡◌, true, false, List, [], ◌∷◌, map, ◌↔◌, ◌⊎◌, ℕ, ◌≤◌, ◌<◌, length}
use Rattle.buffer.specs.Byte.{at, every}
use Rattle.buffer.specs.Quoted.{bytes}
use Rattle.sources.specs.Source.{sources_of, among, all_differ, stand_once, listable, most_entries, total, capacity, source_text, list_of}
use Rattle.sources.specs.declared.Sources.{Sources}
use Rattle.sources.specs.declared.Profile.TheVariants.{Standard, Vsh, Vsm}

-- a source that stands at two places of a list
pub record Repeat (list : List ℕ) : Type 0 where
  pub early : ℕ
  pub late : ℕ
  pub apart : early < late
  pub inside : late < length list
  pub same : at list early ≡ at list late

-- "a repeat or a listed `0`"
abbrev pub RepeatOrZero : List ℕ → Type 0
RepeatOrZero list = Repeat list ⊎ (among list 0 ≡ true)

-- `all_differ` finds every repeat, and nothing else
abbrev pub RepeatExactly : Type 0
RepeatExactly = (list : List ℕ) → (all_differ list ≡ false) ↔ Repeat list

-- and `stand_once` every repeat or listed `0`
abbrev pub OnceExactly : Type 0
OnceExactly = (list : List ℕ) → (stand_once list ≡ false) ↔ RepeatOrZero list

-- THE WEIGHTS: over sources that are known and stand once, the sum of any weight is at most the sum over all sources
abbrev pub Weights : Type 0
Weights = (weight : ℕ → ℕ) (codes list : List ℕ) → every (among codes) list ≡ true → all_differ list ≡ true → total weight list ≤ total weight codes

-- "at most six entries can pass", whatever the sources are
abbrev pub AtMost : Type 0
AtMost = (codes list : List ℕ) → among codes 0 ≡ true → listable codes list ≡ true → length list ≤ most_entries codes

-- and at most two on VSH and VSM
abbrev pub MostIs : Type 0
MostIs = (most_entries (sources_of Standard) ≡ 6) × (most_entries (sources_of Vsh) ≡ 2) × (most_entries (sources_of Vsm) ≡ 2)

-- "The sources here are exactly `0 1 2 6 7 T2 T6`"; VSH and VSM "offer sources 0, 1 and T2": the texts of each profile's sources
abbrev pub SourceTexts : Type 0
SourceTexts = (map source_text (sources_of Standard) ≡ bytes "0" ∷ bytes "1" ∷ bytes "2" ∷ bytes "6" ∷ bytes "7" ∷ bytes "T2" ∷ bytes "T6" ∷ [])
    × (map source_text (sources_of Vsh) ≡ bytes "0" ∷ bytes "1" ∷ bytes "T2" ∷ [])
    × (map source_text (sources_of Vsm) ≡ bytes "0" ∷ bytes "1" ∷ bytes "T2" ∷ [])

-- "any longer list of known sources holds a repeat or a `0`"
abbrev pub LongerRepeats : Type 0
LongerRepeats = (codes list : List ℕ) → among codes 0 ≡ true → every (among codes) list ≡ true → most_entries codes < length list → RepeatOrZero list

-- the count of a list with a place left is fixed by its sources
abbrev pub CountFixed : Type 0
CountFixed = (q : Sources) → length q.codes ≡ capacity → length (list_of q) < capacity → q.count ≡ length (list_of q)
