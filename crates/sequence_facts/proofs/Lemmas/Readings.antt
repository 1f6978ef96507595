-- A bench setting that is accepted hands over the reading of the source that it names, and no other changes.
use mathlib.Core.Path.{◌≡◌, refl, sym, ap, ◌∙◌}
use mathlib.Core.Bool.{true, false, true≢false}
use mathlib.Core.Option.{Option, none, some}
use Prim.Native.Nat.{ℕ}
use borrow.Author.Tests.{eq-eqb, eqb-true}
use Rattle.std.specs.Prelude.{Some}
use Rattle.buffer.specs.First.{pick}
use Rattle.readings.specs.Bench.{bench_of}
use Rattle.readings.specs.Place.{Place, code_of, place_of, reading_at}
use Rattle.readings.specs.Reading.{put_reading}
use Rattle.readings.specs.There.{names}
use Rattle.readings.specs.declared.Reading.{Reading}
use Rattle.readings.specs.declared.Readings.{Readings}
use Rattle.readings.specs.declared.Bench.{Bench}
use Rattle.readings_facts.proofs.Accepts.{bench_exactly}
use Rattle.readings_facts.specs.Handed.{Handed}
use Rattle.readings_facts.proofs.Places.{get_put, get_other, code_one}
use Rattle.gauge_table.proofs.DecidedV2.{by}
use Rattle.history.specs.Latest.{or_else}
use Rattle.sequence_facts.specs.Sequence.{same_code, Origin, handed, Stands}

same_code_lem : (a b : Option ℕ) → same_code a b ≡ true → a ≡ b
unfolding same_code
same_code_lem none none e = refl
same_code_lem none (some b) e = absurd (true≢false (sym e))
same_code_lem (some a) none e = absurd (true≢false (sym e))
same_code_lem (some a) (some b) e = ap some (eqb-true a b e)

code_same : (a b : Option ℕ) → a ≡ b → same_code a b ≡ true
unfolding same_code
code_same none none e = refl
code_same none (some b) e = cc
code_same (some a) none e = cc
code_same (some a) (some b) e = eq-eqb a b (cc)

module _ (p : Place) (o : Origin) (r : Readings) (b : Bench) (x : Reading) (e : bench_of b ≡ Some x) where
  there : names b ≡ code_of (place_of x)
  there = ((bench_exactly b x).0 e).there

  named : names b ≡ code_of p → Handed b (reading_at p (put_reading r x))
  named c = rw (code_one p (place_of x) (sym c ∙ there), get_put r x) ((bench_exactly b x).0 e).handed

  unnamed : same_code (names b) (code_of p) ≡ false → reading_at p (put_reading r x) ≡ reading_at p r
  unnamed c = get_other r x p (λ (q : p ≡ place_of x). true≢false (sym (code_same (names b) (code_of p) (there ∙ ap code_of (sym q))) ∙ c))

  pub accepted_stands : Stands p o (reading_at p r) → Stands p (or_else (pick (same_code (names b) (code_of p)) (some (handed b)) none) o) (reading_at p (put_reading r x))
  unfolding or_else pick
  accepted_stands f =
      by (same_code (names b) (code_of p))
      (λ c. rw c (named (same_code_lem (names b) (code_of p) c)))
      (λ c. rw (c, unnamed c) f)
