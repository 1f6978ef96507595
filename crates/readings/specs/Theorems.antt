-- What is proved here besides the contracts, each statement as a type; proofs/ has the proofs.
use Rattle.std.specs.Prelude.{◌≡◌, [], ◌∷◌, map, ℕ, Some}
use Rattle.std.proofs.Math.Option.{some}
use Rattle.buffer.specs.Quoted.{bytes}
use Rattle.readings.specs.Bench.{bench_of}
use Rattle.readings.specs.Place.{Place, code_of, place_of, reading_at, places}
use Rattle.readings.specs.Reading.{value_text, start}
use Rattle.readings.specs.declared.Reading.{Reading}
use Rattle.readings.specs.declared.Readings.{Readings}
use Rattle.readings.specs.declared.Bench.{Bench}
use Rattle.readings.specs.There.{names, shown_as}

-- "The line is source 0, then the list in order": for a source's code it shows what stands at that source's place
abbrev pub ShownThere : Type 0
ShownThere = (p : Place) (code : ℕ) (r : Readings) → some code ≡ code_of p → value_text code r ≡ shown_as (reading_at p r)

-- "The bench sets the readings": an accepted setting sets the reading of the source that it names, and one for FS sets FS
abbrev pub BenchThere : Type 0
BenchThere = (b : Bench) (x : Reading) → bench_of b ≡ Some x → names b ≡ code_of (place_of x)

-- "At the start each pressure is 1 mbar, each temperature 20.00, FS 0."
abbrev pub Starts : Type 0
Starts = map (λ p. shown_as (reading_at p start)) places
    ≡ bytes "1e0" ∷ bytes "1e0" ∷ bytes "1e0" ∷ bytes "1e0" ∷ bytes "1e0" ∷ bytes "20.00" ∷ bytes "20.00" ∷ bytes "0" ∷ []
