-- The sources of each profile: `0` is one of them, each has a place in a list, and a source is theirs or unknown.
use mathlib.Core.Path.{◌≡◌, refl}
use mathlib.Core.Bool.{Bool, true, false, not}
use mathlib.Core.List.{List}
use Prim.Native.Nat.{ℕ, ◌≤◌}
use native.Mathlib.Omega.{arith}
use lib.ListN.{length}
use Rattle.std.specs.Prelude.{Err, Ok, Result, ℕ}
use Rattle.buffer.specs.First.{pick}
use Rattle.buffer.specs.Byte.{every, same_text}
use Rattle.buffer.proofs.Laws.{same_equal}
use Rattle.sources.specs.Source.{known_sources, hot_sources, sources_of, among, all_differ, capacity, is_source, source_text, find_source, source_of}
use Rattle.sources.specs.declared.Profile.{Profile}
use Rattle.sources.specs.declared.Profile.TheVariants.{Standard, Vsh, Vsm}
use Rattle.sources.specs.Theorems.{SourceTexts}
use Rattle.sources.proofs.Known.{Named, source_named}
use Rattle.sources.specs.declared.SourceError.{SourceError}

pub few : (p : Profile) → length (sources_of p) ≤ capacity
few Standard = omega arith
few Vsh = omega arith
few Vsm = omega arith

pub zero_in : (p : Profile) → among (sources_of p) 0 ≡ true
unfolding among
zero_in Standard = refl
zero_in Vsh = refl
zero_in Vsm = refl

pub all_here : (p : Profile) → every (among known_sources) (sources_of p) ≡ true
unfolding among every
all_here Standard = refl
all_here Vsh = refl
all_here Vsm = refl

pub all_once : (p : Profile) → all_differ (sources_of p) ≡ true
unfolding among all_differ
all_once Standard = refl
all_once Vsh = refl
all_once Vsm = refl

-- ---- a source to a profile

-- a source to a gauge with these sources: another one is unknown
unfoldable offered_as : List ℕ → Result ℕ SourceError → Result ℕ SourceError
offered_as codes (Ok c) = pick (among codes c) (Ok c) (Err SourceError.Unknown)
offered_as codes (Err k) = Err k

all_offered : (t : List ℕ) (r : Result ℕ SourceError) → Named known_sources t r → r ≡ offered_as known_sources r
unfolding offered_as pick
all_offered t (Ok c) h = rw h.0
all_offered t (Err SourceError.Unknown) h = refl
all_offered t (Err SourceError.Malformed) h = refl

-- a text of one digit is not `T2`
module _ (t : List ℕ) where
  not_t2 : (c : ℕ) → same_text (source_text c) (source_text 8) ≡ false → same_text t (source_text c) ≡ true → same_text t (source_text 8) ≡ false
  not_t2 c f e = rw (same_equal t (source_text c) e) f

  find_hot : find_source hot_sources t ≡ offered_as hot_sources (find_source known_sources t)
  unfolding find_source offered_as among pick source_text same_text
  find_hot = go (same_text t (source_text 0)) (same_text t (source_text 1)) (same_text t (source_text 2)) (same_text t (source_text 6)) (same_text t (source_text 7)) (same_text t (source_text 8)) (same_text t (source_text 9)) (not_t2 2 refl) (not_t2 6 refl) (not_t2 7 refl)
    where
      go : (a b c d e f g : Bool) → (c ≡ true → f ≡ false) → (d ≡ true → f ≡ false) → (e ≡ true → f ≡ false)
          → pick a (Ok 0) (pick b (Ok 1) (pick f (Ok 8) (Err SourceError.Unknown)))
          ≡ offered_as hot_sources (pick a (Ok 0) (pick b (Ok 1) (pick c (Ok 2) (pick d (Ok 6) (pick e (Ok 7) (pick f (Ok 8) (pick g (Ok 9) (Err SourceError.Unknown))))))))
      go true b c d e f g h i j = refl
      go false true c d e f g h i j = refl
      go false false true d e f g h i j = rw (h refl)
      go false false false true e f g h i j = rw (i refl)
      go false false false false true f g h i j = rw (j refl)
      go false false false false false true g h i j = refl
      go false false false false false false true h i j = refl
      go false false false false false false false h i j = refl

  hot_offered : source_of hot_sources t ≡ offered_as hot_sources (source_of known_sources t)
  unfolding source_of offered_as pick
  hot_offered = go (not (is_source t))
    where
      go : (b : Bool) → pick b (Err SourceError.Malformed) (find_source hot_sources t) ≡ offered_as hot_sources (pick b (Err SourceError.Malformed) (find_source known_sources t))
      go true = refl
      go false = find_hot

-- the name of a source that a profile lacks is unknown to it
offered_is : (p : Profile) (t : List ℕ) → source_of (sources_of p) t ≡ offered_as (sources_of p) (source_of known_sources t)
offered_is Standard t = all_offered t (source_of known_sources t) (source_named known_sources t)
offered_is Vsh t = hot_offered t
offered_is Vsm t = hot_offered t

pub here_known : (p : Profile) (t : List ℕ) (c : ℕ) → Ok c ≡ source_of known_sources t → among (sources_of p) c ≡ true → Ok c ≡ source_of (sources_of p) t
unfolding offered_as pick
here_known p t c e h = rw (offered_is p t, ← e, h)

pub here_lacked : (p : Profile) (t : List ℕ) (c : ℕ) → Ok c ≡ source_of known_sources t → among (sources_of p) c ≡ false → Err SourceError.Unknown ≡ source_of (sources_of p) t
unfolding offered_as pick
here_lacked p t c e h = rw (offered_is p t, ← e, h)

pub here_none : (p : Profile) (t : List ℕ) (k : SourceError) → Err k ≡ source_of known_sources t → Err k ≡ source_of (sources_of p) t
unfolding offered_as
here_none p t k e = rw (offered_is p t, ← e)

pub source_texts_lem : SourceTexts
unfolding source_text pick
source_texts_lem = (refl, refl, refl)
