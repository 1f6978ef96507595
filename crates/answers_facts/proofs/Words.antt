-- The number of a bench setting that is given by two texts.
use mathlib.Core.Path.{◌≡◌, refl}
use mathlib.Core.Logic.{inl, inr}
use native.Mathlib.Omega.{arith}
use Rattle.std.specs.Prelude.{Err, None, Ok, Option, Result, Some, ℕ}
use Rattle.buffer.specs.First.{pick}
use Rattle.buffer.specs.Byte.{same_text}
use Rattle.buffer.specs.Quoted.{bytes}
use Rattle.buffer.proofs.Rules.{each}
use Rattle.sources.specs.Source.{known_sources, source_of}
use Rattle.readings.specs.Bench.{bench_of, bench_number}
use Rattle.bench_words.specs.Words.{source_at, worded_of, worded_number}
use Rattle.answers_facts.specs.Rows.{Told}
use Rattle.answers_facts.specs.Words.{is_accepted, is_taken, IsSource}
use Rattle.answers_facts.specs.Theorems.{WordedNumber, TakenSource}
use Rattle.sources.specs.declared.SourceError.{SourceError}
use Rattle.readings.specs.declared.Reading.{Reading}
use Rattle.readings.specs.declared.Bench.{Bench}

by_bench : (b : Option Reading) (w : Option Bench) → worded_number w ≡ bench_number b → is_taken w ≡ is_accepted b → Told worded_number is_taken 0 w (pick (is_taken w) 0 15)
unfolding pick
by_bench (Some r) w e f = rw f (record { number_is = e; exactly = f })
by_bench None w e f = rw f (record { number_is = e; exactly = f })

-- 0 exactly if the bench takes the setting, and 15 otherwise
pub worded_number_lem : WordedNumber
unfolding is_taken pick
worded_number_lem (Some setting) = by_bench (bench_of setting) (Some setting) refl refl
worded_number_lem None = record { number_is = refl; exactly = refl }

-- "The sources here are exactly `0 1 2 6 7 T2 T6`", and FS: any other is refused
pub taken_source : TakenSource
unfolding worded_of source_at
taken_source source value = each (λ (w : Option Bench). worded_number w ≡ 0 → IsSource source) (same_text source (bytes "FS")) _ _ (λ e _. inl e) (λ _. at_source (source_of known_sources source) refl)
  where
    at_source : (k : Result ℕ SourceError) → source_of known_sources source ≡ k → worded_number (source_at k value) ≡ 0 → IsSource source
    at_source (Ok code) e z = inr (code, e)
    at_source (Err SourceError.Unknown) e z = absurd (omega arith)
    at_source (Err SourceError.Malformed) e z = absurd (omega arith)
