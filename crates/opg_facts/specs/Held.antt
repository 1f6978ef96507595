-- What a master reads who wrote a request to a gauge and reads its reply.
use Rattle.std.specs.Prelude.{Bool, true, false, not, ℕ, ltb, Float, Ok, Err}
use Rattle.std.specs.Float.{nan, inf, fin, binary32}
use Rattle.std.specs.Float.Ieee.{of_bits}
use Rattle.buffer.specs.First.{pick}
use Rattle.buffer.specs.Byte.{within}
use Rattle.opg_units.specs.Units.{finite, bits_in}
use Rattle.opg_commands.specs.Limits.{unit_low, unit_high}
use Rattle.opg_commands.specs.declared.Request.{Request}
use Rattle.opg_commands.specs.declared.Request.TheVariants.{ReadPressure, ReadUnit, WriteUnit, DetectionOff, DetectionOn}
use Rattle.opg_gauge.specs.Judged.{unavailable}
use Rattle.opg_gauge.specs.declared.Gauge.{Gauge}
use Rattle.opg_answer.specs.Reply.{bits_of, unit_of}
use Rattle.opg_frames.specs.declared.Refusal.TheVariants.{Value}
use Rattle.opg_replies.specs.Reply.{ReadOpg}
use Rattle.opg_replies.specs.declared.Reply.TheVariants.{Pressure, Unit, Done, Error}

-- the spectra have 32 bits
unfoldable pub fits32 : Request → Bool
fits32 (ReadPressure u) = true
fits32 ReadUnit = true
fits32 (WriteUnit u) = true
fits32 DetectionOff = true
fits32 (DetectionOn n gas) = ltb n 4294967296

-- what a master reads of these bits, and of this unit
unfoldable pub pressure_read : ℕ → ReadOpg
pressure_read w = pick (not (finite w)) (Err Value) (Ok (Pressure (of_bits binary32 w)))

unfoldable pub unit_read : ℕ → ReadOpg
unit_read u = pick (not (within unit_low unit_high u)) (Err Value) (Ok (Unit u))

-- the value that the gauge holds for a request
unfoldable pub held_of : Gauge → Request → ReadOpg
held_of g (ReadPressure u) = pressure_read (bits_in (unit_of g u) (bits_of g.pressure))
held_of g ReadUnit = unit_read g.settings.unit
held_of g (WriteUnit u) = Ok Done
held_of g DetectionOff = Ok Done
held_of g (DetectionOn n gas) = Ok Done

-- a request that is written, answered with 32 bytes lent and read again: the value that the gauge holds, or error 0 where the pressure
-- is unavailable
unfoldable pub expected : Gauge → Request → ReadOpg
expected g r = pick (unavailable g r) (Ok (Error 0)) (held_of g r)

-- a float is finite
unfoldable pub is_fin : Float → Bool
is_fin nan = false
is_fin (inf s) = false
is_fin (fin s m e) = true
