-- Sources and their texts.
use Rattle.std.specs.Prelude.{◌≡◌, Bool, true, false, ◌&&◌, ◌||◌, not, List, [], ◌∷◌, ◌++◌, ℕ, ◌+◌, ◌-◌, eqb, length, take, Err, Ok, Result}
use Rattle.buffer.specs.First.{◌⇒◌, first, pick}
use Rattle.buffer.specs.Byte.{at, within, is_digit, every, same_text, digit}
use Rattle.buffer.specs.Quoted.{bytes}
use Rattle.sources.specs.declared.Sources.{Sources}
use Rattle.sources.specs.declared.Profile.{Profile}
use Rattle.sources.specs.declared.Profile.TheVariants.{Standard, Vsh, Vsm}
use Rattle.sources.specs.declared.SourceError.{SourceError}

-- A source is known by a code: its digit, or 8 for `T2`, 9 for `T6`. "The sources here are exactly `0 1 2 6 7 T2 T6`"
abbrev pub known_sources : List ℕ
known_sources = 0 ∷ 1 ∷ 2 ∷ 6 ∷ 7 ∷ 8 ∷ 9 ∷ []

-- VSH and VSM: "their streams offer sources 0, 1 and T2"
abbrev pub hot_sources : List ℕ
hot_sources = 0 ∷ 1 ∷ 8 ∷ []

-- the sources of a profile; "the existing gauge becomes the third profile, unchanged"
abbrev pub sources_of : Profile → List ℕ
sources_of Standard = known_sources
sources_of Vsh = hot_sources
sources_of Vsm = hot_sources

-- whether c is one of the codes
unfoldable pub among : List ℕ → ℕ → Bool
among [] c = false
among (d ∷ codes) c = eqb c d || among codes c

-- how many codes the array of a list holds
abbrev pub capacity : ℕ
capacity = 7

-- whether no source of a list stands twice
unfoldable pub all_differ : List ℕ → Bool
all_differ [] = true
all_differ (c ∷ list) = not (among list c) && all_differ list

-- "a source may stand once in a stream list, and `0`, which is always first, may not be listed": of the sources of the line, `0` and then the
-- list, none stands twice
abbrev pub stand_once : List ℕ → Bool
stand_once list = all_differ (0 ∷ list)

-- whether SM can have a list, where these are the gauge's sources
unfoldable pub listable : List ℕ → List ℕ → Bool
listable codes list = every (among codes) list && stand_once list

-- how many entries can pass: each source but `0`, once
abbrev pub most_entries : List ℕ → ℕ
most_entries codes = length codes - 1

-- the sum of a weight over a list
unfoldable pub total : (ℕ → ℕ) → List ℕ → ℕ
total weight [] = 0
total weight (c ∷ list) = weight c + total weight list

-- the text of a source's code
unfoldable pub source_text : ℕ → List ℕ
source_text c = first (eqb c 8 ⇒ bytes "T2" ∷ eqb c 9 ⇒ bytes "T6" ∷ []) (digit c ∷ [])

-- "one or two digits, or `T` and a digit"
unfoldable pub is_source : List ℕ → Bool
is_source t = every is_digit t && within 1 2 (length t) || eqb (length t) 2 && eqb (at t 0) 84 && is_digit (at t 1)

-- the first of these codes whose text it is
unfoldable pub find_source : List ℕ → List ℕ → Result ℕ SourceError
find_source [] t = Err SourceError.Unknown
find_source (c ∷ cs) t = pick (same_text t (source_text c)) (Ok c) (find_source cs t)

-- what the text of an entry's source is: not of the form, or one of these codes, or unknown
unfoldable pub source_of : List ℕ → List ℕ → Result ℕ SourceError
source_of codes t = first (not (is_source t) ⇒ Err SourceError.Malformed ∷ []) (find_source codes t)

-- the codes of a list; a count past the array's end counts as the end
unfoldable pub list_of : Sources → List ℕ
list_of q = take q.count q.codes

-- the count is how many sources the list has
unfoldable pub Counted : Sources → Type 0
Counted q = q.count ≡ length (list_of q)

-- r is the list q and one source more; a full list stays as it is
pub record Pushed (q : Sources) (code : ℕ) (r : Sources) : Type 0 where
  pub list : list_of r ≡ take capacity (list_of q ++ (code ∷ []))
  pub count : Counted r

-- the text of a list: each entry is `D` and a source
unfoldable pub list_text : List ℕ → List ℕ
list_text [] = []
list_text (c ∷ cs) = (68 ∷ []) ++ source_text c ++ list_text cs
