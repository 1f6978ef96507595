-- The source of a text: one that is known is one of the codes, and the text is its own.
use mathlib.Core.Path.{◌≡◌, refl}
use mathlib.Core.Bool.{true, not, ◌&&◌, or-true}
use mathlib.Core.List.{List, [], ◌∷◌, map}
use Prim.Native.Nat.{ℕ}
use native.Mathlib.Omega.{arith}
use borrow.Author.Tests.{eq-eqb}
use lib.Dec.{eqb}
use Rattle.std.specs.Prelude.{Err, Ok, Result, ℕ}
use Rattle.buffer.specs.Byte.{every, same_text}
use Rattle.buffer.proofs.Laws.{same_equal}
use Rattle.buffer.proofs.Rules.{each}
use Rattle.sources.specs.Source.{source_text, is_source, find_source, source_of, among}
use Rattle.sources.specs.Entries.{is_known, code_of}
use Rattle.sources.specs.declared.SourceError.{SourceError}

abbrev pub Named : List ℕ → List ℕ → Result ℕ SourceError → Type 0
Named codes t (Ok c) = (among codes c ≡ true) × (t ≡ source_text c)
Named codes t (Err SourceError.Unknown) = Unit {0}
Named codes t (Err SourceError.Malformed) = Unit {0}

wider : (d : ℕ) (codes t : List ℕ) (r : Result ℕ SourceError) → Named codes t r → Named (d ∷ codes) t r
unfolding among
wider d codes t (Ok c) h = (rw h.0 (or-true (eqb c d)), h.1)
wider d codes t (Err SourceError.Unknown) h = tt
wider d codes t (Err SourceError.Malformed) h = tt

find_named : (codes t : List ℕ) → Named codes t (find_source codes t)
unfolding find_source among
find_named [] t = tt
find_named (d ∷ codes) t =
    each (Named (d ∷ codes) t) (same_text t (source_text d)) (Ok d) (find_source codes t) (λ e. (rw (eq-eqb d d refl), same_equal t (source_text d) e))
    (λ _. wider d codes t (find_source codes t) (find_named codes t))

pub source_named : (codes t : List ℕ) → Named codes t (source_of codes t)
unfolding source_of
source_named codes t = each (Named codes t) (not (is_source t)) (Err SourceError.Malformed) (find_source codes t) (λ _. tt) (λ _. find_named codes t)

-- the codes of texts that are all known are among the codes
pub codes_known : (codes : List ℕ) (ts : List (List ℕ)) → every is_known (map (source_of codes) ts) ≡ true → every (among codes) (map code_of (map (source_of codes) ts)) ≡ true
unfolding every
codes_known codes [] e = refl
codes_known codes (t ∷ ts) e = go (source_of codes t) (source_named codes t) (codes_known codes ts) e
  where
    go : (r : Result ℕ SourceError) → Named codes t r → (every is_known (map (source_of codes) ts) ≡ true → every (among codes) (map code_of (map (source_of codes) ts)) ≡ true)
        → (is_known r && every is_known (map (source_of codes) ts)) ≡ true → (among codes (code_of r) && every (among codes) (map code_of (map (source_of codes) ts))) ≡ true
    go (Ok c) h f k = rw h.0 (f k)
    go (Err SourceError.Unknown) h f k = absurd (let z : ◌≡◌ {A = ℕ} 0 1 = cc in omega arith)
    go (Err SourceError.Malformed) h f k = absurd (let z : ◌≡◌ {A = ℕ} 0 1 = cc in omega arith)
