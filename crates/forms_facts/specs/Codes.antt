-- Lists of sources by their codes, and by their texts.
use Rattle.std.specs.Prelude.{◌≡◌, Bool, true, false, List, [], ◌∷◌, ◌++◌, ℕ}
use Rattle.buffer.specs.Byte.{every}
use Rattle.sources.specs.Source.{among, source_of}
use Rattle.sources.specs.Entries.{is_known}
use Rattle.sources.specs.Theorems.{Repeat}

-- a list that SM can have, where these are the gauge's sources: its sources are among them; "a source may stand once in a stream list, and `0`,
-- which is always first, may not be listed"
pub record GoodList (codes cs : List ℕ) : Type 0 where
  pub known : every (among codes) cs ≡ true
  pub once : Repeat cs → ⊥
  pub unlisted : among cs 0 ≡ false

-- "each entry is `D` and a source": these texts, each after a `D`
unfoldable pub entries_text : List (List ℕ) → List ℕ
entries_text [] = []
entries_text (t ∷ ts) = (68 ∷ []) ++ t ++ entries_text ts

-- whether a text is that of one of the gauge's sources
abbrev pub is_known_text : List ℕ → List ℕ → Bool
is_known_text codes t = is_known (source_of codes t)
