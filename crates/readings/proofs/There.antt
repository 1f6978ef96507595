-- A bench setting is for the source that it names, and the line shows each source's own reading: the proofs.
use mathlib.Core.Path.{◌≡◌, refl, ap}
use mathlib.Core.Bool.{Bool}
use mathlib.Core.Option as maybe
use mathlib.Core.Option.{none, some}
use Prim.Native.Nat.{ℕ}
use native.Mathlib.Omega.{arith}
use borrow.Author.Tests.{eqb-true}
use lib.Dec.{eqb}
use Rattle.std.specs.Prelude.{Err, None, Ok, Option, Result, Some}
use Rattle.buffer.specs.First.{pick}
use Rattle.buffer.proofs.Rules.{each}
use Rattle.decimal.specs.Number.{hundredths_of}
use Rattle.readings.specs.Bench.{pressure_at, temperature_at, pressure_of, degrees_of, temperature_of, bench_of}
use Rattle.readings.specs.Place.{Source0, Source1, Source2, Source6, Source7, SourceT2, SourceT6, Status, code_of, place_of, reading_at}
use Rattle.readings.specs.Reading.{value_text}
use Rattle.readings.specs.There.{names, shown_as}
use Rattle.readings.specs.Theorems.{BenchThere, ShownThere}
use Rattle.readings.specs.declared.Pressure.{Pressure}
use Rattle.readings.specs.declared.Temperature.{Temperature}
use Rattle.readings.specs.declared.Bench.{Bench}
use Rattle.readings.specs.declared.Bench.TheVariants.{Reads, UnderRange, OverRange, Faulty}
use Rattle.readings.specs.declared.Bench.TheVariants as bench
use Rattle.decimal.specs.declared.Number.{Number}
use Rattle.decimal.specs.declared.NumberError.{NumberError}
use Rattle.readings.specs.declared.Reading.{Reading}

-- what is accepted stands at the place of this code
abbrev There : maybe.Option ℕ → Option Reading → Type 0
There code (Some x) = code ≡ code_of (place_of x)
There code None = Unit {0}

pressure_there : (code : ℕ) (p : Pressure) → There (some code) (pressure_at code p)
unfolding pressure_at code_of place_of
pressure_there code p =
    each (There (some code)) (eqb code 0) _ _ (λ e. ap some (eqb-true code 0 e))
    (λ _. each (There (some code)) (eqb code 1) _ _ (λ e. ap some (eqb-true code 1 e))
    (λ _. each (There (some code)) (eqb code 2) _ _ (λ e. ap some (eqb-true code 2 e))
    (λ _. each (There (some code)) (eqb code 6) _ _ (λ e. ap some (eqb-true code 6 e))
    (λ _. each (There (some code)) (eqb code 7) _ _ (λ e. ap some (eqb-true code 7 e)) (λ _. tt)))))

temperature_there : (code : ℕ) (t : Temperature) → There (some code) (temperature_at code t)
unfolding temperature_at code_of place_of
temperature_there code t =
    each (There (some code)) (eqb code 8) _ _ (λ e. ap some (eqb-true code 8 e))
    (λ _. each (There (some code)) (eqb code 9) _ _ (λ e. ap some (eqb-true code 9 e)) (λ _. tt))

number_there : (code : ℕ) (p : Result Number NumberError) → There (some code) (pressure_of code p)
unfolding pressure_of
number_there code (Ok n) = each (There (some code)) _ _ _ (λ _. tt) (λ _. pressure_there code _)
number_there code (Err NumberError.Syntax) = tt
number_there code (Err NumberError.Range) = tt

degrees_there : (code : ℕ) (negative : Bool) (h : Option ℕ) → There (some code) (degrees_of code negative h)
unfolding degrees_of
degrees_there code negative (Some h) = each (There (some code)) _ _ _ (λ _. tt) (λ _. temperature_there code _)
degrees_there code negative None = tt

celsius_there : (code : ℕ) (p : Result Number NumberError) → There (some code) (temperature_of code p)
unfolding temperature_of
celsius_there code (Ok n) = degrees_there code n.negative (hundredths_of n)
celsius_there code (Err NumberError.Syntax) = tt
celsius_there code (Err NumberError.Range) = tt

there : (b : Bench) → There (names b) (bench_of b)
unfolding bench_of names code_of place_of
there (Reads code x) = each (There (some code)) _ _ _ (λ _. celsius_there code _) (λ _. number_there code _)
there (UnderRange code) = pressure_there code _
there (OverRange code) = pressure_there code _
there (Faulty code) = each (There (some code)) _ _ _ (λ _. temperature_there code _) (λ _. pressure_there code _)
there (bench.Status v) = each (There none) _ _ _ (λ _. tt) (λ _. refl)

pub bench_there : BenchThere
bench_there b x e = rw e at (there b)

pub shown_there : ShownThere
unfolding value_text code_of reading_at shown_as pick
shown_there Source0 code r e = let k : code ≡ 0 = cc in rw k
shown_there Source1 code r e = let k : code ≡ 1 = cc in rw k
shown_there Source2 code r e = let k : code ≡ 2 = cc in rw k
shown_there Source6 code r e = let k : code ≡ 6 = cc in rw k
shown_there Source7 code r e = let k : code ≡ 7 = cc in rw k
shown_there SourceT2 code r e = let k : code ≡ 8 = cc in rw k
shown_there SourceT6 code r e = let k : code ≡ 9 = cc in rw k
shown_there Status code r e = let z : ◌≡◌ {A = ℕ} 0 1 = cc in absurd (omega arith)
