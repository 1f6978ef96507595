-- Document 01, "OPG frames": the typed requests, one case for each PID and access.
use Rattle.std.specs.Prelude.{Bool, false, not, List, [], ◌∷◌, ℕ, ◌+◌, ◌/◌, ◌%◌}
use Rattle.buffer.specs.Byte.{within}
use Rattle.opg_commands.specs.Limits.{unit_low, unit_high, gas_high}
use Rattle.opg_commands.specs.declared.Request.{Request}
use Rattle.opg_commands.specs.declared.Request.TheVariants.{ReadPressure, ReadUnit, WriteUnit, DetectionOff, DetectionOn}

-- a number as four bytes, high byte first
abbrev pub quad : ℕ → List ℕ
quad n = n / 16777216 % 256 ∷ n / 65536 % 256 ∷ n / 256 % 256 ∷ n % 256 ∷ []

-- PID, and CMD: 1 reads, 3 writes
unfoldable pub request_pid : Request → ℕ
request_pid (ReadPressure u) = 14000
request_pid ReadUnit = 14001
request_pid (WriteUnit u) = 14001
request_pid DetectionOff = 22000
request_pid (DetectionOn n gas) = 22000

unfoldable pub request_cmd : Request → ℕ
request_cmd (ReadPressure u) = 1
request_cmd ReadUnit = 1
request_cmd (WriteUnit u) = 3
request_cmd DetectionOff = 3
request_cmd (DetectionOn n gas) = 3

-- the data: mode, spectra and gas for PID 22000; "the writer sends the five bytes as 0" with mode 0
unfoldable pub request_data : Request → List ℕ
request_data (ReadPressure u) = u ∷ []
request_data ReadUnit = []
request_data (WriteUnit u) = u ∷ []
request_data DetectionOff = 0 ∷ 0 ∷ 0 ∷ 0 ∷ 0 ∷ 0 ∷ []
request_data (DetectionOn n gas) = 1 ∷ n / 16777216 % 256 ∷ n / 65536 % 256 ∷ n / 256 % 256 ∷ n % 256 ∷ gas ∷ []

-- "the reply has CMD plus 1"
abbrev pub reply_cmd : Request → ℕ
reply_cmd r = request_cmd r + 1

-- how many data bytes an accepted reply has: an f32, a unit, "no data after a write"
unfoldable pub reply_count : Request → ℕ
reply_count (ReadPressure u) = 4
reply_count ReadUnit = 1
reply_count (WriteUnit u) = 0
reply_count DetectionOff = 0
reply_count (DetectionOn n gas) = 0

-- a value outside: the pressure's unit is 0 to 4, the unit 1 to 4, "spectra (4 bytes, any), gas 0 to 10"
unfoldable pub outside_of : Request → Bool
outside_of (ReadPressure u) = not (within 0 unit_high u)
outside_of ReadUnit = false
outside_of (WriteUnit u) = not (within unit_low unit_high u)
outside_of DetectionOff = false
outside_of (DetectionOn n gas) = not (within 0 gas_high gas)
