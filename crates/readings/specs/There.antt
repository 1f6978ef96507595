-- The source that a bench setting names, and the text that is shown for a reading.
use Rattle.std.specs.Prelude.{List, [], ◌∷◌, ℕ}
use Rattle.std.proofs.Math.Option.{Option, none, some}
use Rattle.buffer.specs.Byte.{digit}
use Rattle.readings.specs.Reading.{pressure_text, temperature_text}
use Rattle.readings.specs.declared.Reading.{Reading}
use Rattle.readings.specs.declared.Reading.TheVariants.{P0, P1, P2, P6, P7, T2, T6, FS}
use Rattle.readings.specs.declared.Bench.{Bench}
use Rattle.readings.specs.declared.Bench.TheVariants.{Reads, UnderRange, OverRange, Faulty}
use Rattle.readings.specs.declared.Bench.TheVariants as bench

-- the code of the source that a bench setting names; FS has none
unfoldable pub names : Bench → Option ℕ
names (Reads code x) = some code
names (UnderRange code) = some code
names (OverRange code) = some code
names (Faulty code) = some code
names (bench.Status v) = none

-- the text of a reading; FS as its digit
unfoldable pub shown_as : Reading → List ℕ
shown_as (P0 p) = pressure_text p
shown_as (P1 p) = pressure_text p
shown_as (P2 p) = pressure_text p
shown_as (P6 p) = pressure_text p
shown_as (P7 p) = pressure_text p
shown_as (T2 t) = temperature_text t
shown_as (T6 t) = temperature_text t
shown_as (FS v) = digit v ∷ []
