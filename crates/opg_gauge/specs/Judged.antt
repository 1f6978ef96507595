-- Document 01, "OPG frames": what any bytes ask of the gauge, by the first rule that applies, and what they change.
use Rattle.std.specs.Prelude.{Bool, true, false, ◌&&◌, List, [], ◌∷◌, ◌++◌, ℕ, ltb, Ok, Err, Result}
use Rattle.buffer.specs.First.{◌⇒◌, first}
use Rattle.opg_commands.specs.Settings.{entered}
use Rattle.opg_frames.specs.declared.Refusal.TheVariants.{Room}
use Rattle.opg_frames.specs.declared.ErrorByte.TheVariants as byte
use Rattle.opg_request_reader.specs.Asked.{Asked, silent, error, refusals, meaning}
use Rattle.opg_commands.specs.declared.Request.{Request}
use Rattle.opg_commands.specs.declared.Request.TheVariants.{ReadPressure, ReadUnit, WriteUnit, DetectionOff, DetectionOn}
use Rattle.opg_gauge.specs.State.{is_unavailable}
use Rattle.opg_gauge.specs.declared.Gauge.{Gauge}

unfoldable pub is_pressure_read : Request → Bool
is_pressure_read (ReadPressure u) = true
is_pressure_read ReadUnit = false
is_pressure_read (WriteUnit u) = false
is_pressure_read DetectionOff = false
is_pressure_read (DetectionOn n gas) = false

-- "pressure unavailable 0"
unfoldable pub unavailable : Gauge → Request → Bool
unavailable g r = is_pressure_read r && is_unavailable g.pressure

-- the order of document 01: "21 less than 32 bytes lent", then the refusals that depend on the bytes alone, then "pressure unavailable 0"
unfoldable pub judgement : ℕ → Gauge → List ℕ → Asked
judgement room g s =
    first
    ((ltb room 32 ⇒ silent Room ∷ [])
    ++ refusals s
    ++ (unavailable g (meaning s) ⇒ error byte.Unavailable ∷ []))
    (Ok (meaning s))

-- the gauge after a request: a refused request changes nothing, whatever the refusal tells, and no request changes the pressure
unfoldable pub after : {E : Type 0} → Gauge → Result Request E → Gauge
after g (Ok r) = record { settings = entered g.settings r; pressure = g.pressure }
after g (Err d) = g
