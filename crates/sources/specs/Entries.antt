-- A text of entries, "each entry is `D` and a source".
use Rattle.std.specs.Prelude.{◌≡◌, Bool, true, false, cond, not, ◌||◌, List, [], ◌∷◌, map, ℕ, eqb, length, Err, Ok, Result}
use Rattle.buffer.specs.First.{◌⇒◌, first}
use Rattle.buffer.specs.Byte.{at, every}
use Rattle.sources.specs.Source.{source_of, stand_once, list_of, Counted}
use Rattle.sources.specs.declared.Sources.{Sources}
use Rattle.refusals.specs.Number.{number_in}
use Rattle.refusals.specs.declared.Refusal.{Refusal}
use Rattle.sources.specs.declared.SourceError.{SourceError}

-- x before the first of the texts
unfoldable pub onto : ℕ → List (List ℕ) → List (List ℕ)
onto x [] = (x ∷ []) ∷ []
onto x (t ∷ ts) = (x ∷ t) ∷ ts

-- a text cut at each `D`
unfoldable pub parts : List ℕ → List (List ℕ)
parts [] = [] ∷ []
parts (x ∷ s) = cond (eqb x 68) ([] ∷ parts s) (onto x (parts s))

-- the sources' texts of a text of entries: what follows each `D`
unfoldable pub source_texts : List ℕ → List (List ℕ)
source_texts [] = []
source_texts (x ∷ s) = parts s

-- the entries' sources, where these are the gauge's
unfoldable pub entries_of : List ℕ → List ℕ → List (Result ℕ SourceError)
entries_of codes s = map (source_of codes) (source_texts s)

abbrev pub is_formed : Result ℕ SourceError → Bool
is_formed (Ok c) = true
is_formed (Err SourceError.Unknown) = true
is_formed (Err SourceError.Malformed) = false

abbrev pub is_known : Result ℕ SourceError → Bool
is_known (Ok c) = true
is_known (Err SourceError.Unknown) = false
is_known (Err SourceError.Malformed) = false

abbrev pub code_of : Result ℕ SourceError → ℕ
code_of (Ok c) = c
code_of (Err SourceError.Unknown) = 0
code_of (Err SourceError.Malformed) = 0

-- the refusal of a text that is no source
abbrev pub refusal_of : SourceError → Refusal
refusal_of SourceError.Unknown = Refusal.Range
refusal_of SourceError.Malformed = Refusal.Syntax

-- a text of entries is empty or starts with `D`
unfoldable pub opens : List ℕ → Bool
opens s = eqb (length s) 0 || eqb (at s 0) 68

-- how a text of entries is judged: 10 SYNTAX where it is not of the form; 11 RANGE for a source that is unknown here; "a repeat or a listed `0`
-- is 12 LOGIC, after RANGE"
unfoldable pub entries_number : List ℕ → List ℕ → ℕ
entries_number codes s =
    let es = entries_of codes s in
    first
    (not (opens s) ⇒ 10
    ∷ not (every is_formed es) ⇒ 10
    ∷ not (every is_known es) ⇒ 11
    ∷ not (stand_once (map code_of es)) ⇒ 12
    ∷ [])
    0

-- the codes of a text of entries; none where it is refused
unfoldable pub entries_list : List ℕ → List ℕ → List ℕ
entries_list codes s = cond (eqb (entries_number codes s) 0) (map code_of (entries_of codes s)) []

-- the list that was read; none where it was refused
abbrev pub list_read : Result Sources Refusal → List ℕ
list_read (Ok q) = list_of q
list_read (Err k) = []

abbrev pub CountedRead : Result Sources Refusal → Type 0
CountedRead (Ok q) = Counted q
CountedRead (Err k) = Unit {0}

-- what a reader of a text of entries answers
pub record Lists (codes s : List ℕ) (r : Result Sources Refusal) : Type 0 where
  pub number : number_in r ≡ entries_number codes s
  pub list : list_read r ≡ entries_list codes s
  pub count : CountedRead r
