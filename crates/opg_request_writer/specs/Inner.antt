-- What the functions inside this crate promise each other.
use Rattle.std.specs.Prelude.{List, [], ◌∷◌, ℕ}
use Rattle.opg_commands.specs.declared.Request.{Request}
use Rattle.opg_commands.specs.declared.Request.TheVariants.{ReadPressure, ReadUnit, WriteUnit, DetectionOff, DetectionOn}
use Rattle.opg_commands.specs.Request.{request_data}

unfoldable pub request_count : Request → ℕ
request_count (ReadPressure u) = 1
request_count ReadUnit = 0
request_count (WriteUnit u) = 1
request_count DetectionOff = 6
request_count (DetectionOn n gas) = 6

-- a request's data, filled up with zeros
unfoldable pub request_bytes : Request → List ℕ
request_bytes (ReadPressure u) = u ∷ 0 ∷ 0 ∷ 0 ∷ 0 ∷ 0 ∷ []
request_bytes ReadUnit = 0 ∷ 0 ∷ 0 ∷ 0 ∷ 0 ∷ 0 ∷ []
request_bytes (WriteUnit u) = u ∷ 0 ∷ 0 ∷ 0 ∷ 0 ∷ 0 ∷ []
request_bytes DetectionOff = 0 ∷ 0 ∷ 0 ∷ 0 ∷ 0 ∷ 0 ∷ []
request_bytes (DetectionOn n gas) = request_data (DetectionOn n gas)
