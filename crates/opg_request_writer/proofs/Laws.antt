-- Laws of requests that are written.
use mathlib.Core.Path.{◌≡◌, refl, sym}
use mathlib.Core.Bool.{true, false}
use Prim.Native.Nat.{ℕ, ◌<◌, ◌≤◌}
use native.Mathlib.Omega.{arith}
use lib.ListN.{length, take}
use Rattle.buffer.specs.Answer.{silent}
use Rattle.buffer.proofs.Rules.{rules}
use Rattle.opg_frame_writer.specs.Written.{written, request_frame}
use Rattle.opg_frame_writer.proofs.Laws.{length_frame, fits}
use Rattle.opg_commands.specs.Request.{request_pid, request_cmd, request_data, outside_of}
use Rattle.opg_commands.specs.declared.Request.{Request}
use Rattle.opg_commands.specs.declared.Request.TheVariants.{ReadPressure, ReadUnit, WriteUnit, DetectionOff, DetectionOn}
use Rattle.opg_request_writer.specs.Written.{request_bytes_of, request_written}
use Rattle.opg_request_writer.specs.Inner.{request_count, request_bytes}

-- as many of the bytes as a request has data are its data
pub data_is : (r : Request) → take (request_count r) (request_bytes r) ≡ request_data r
unfolding request_count request_bytes request_data
data_is (ReadPressure u) = refl
data_is ReadUnit = refl
data_is (WriteUnit u) = refl
data_is DetectionOff = refl
data_is (DetectionOn n gas) = refl

pub count_le : (r : Request) → request_count r ≤ length (request_bytes r)
unfolding request_count request_bytes request_data
count_le (ReadPressure u) = omega arith
count_le ReadUnit = omega arith
count_le (WriteUnit u) = omega arith
count_le DetectionOff = omega arith
count_le (DetectionOn n gas) = omega arith

pub data_le : (r : Request) → length (request_data r) ≤ 6
unfolding request_data
data_le (ReadPressure u) = omega arith
data_le ReadUnit = omega arith
data_le (WriteUnit u) = omega arith
data_le DetectionOff = omega arith
data_le (DetectionOn n gas) = omega arith

-- what the writer answers, by its tests
module _ (room : ℕ) (r : Request) where
  pub no_room : room < 32 → request_written room r ≡ silent 21
  unfolding request_written
  no_room h = sym (search rules)

  pub outside : 32 ≤ room → outside_of r ≡ true → request_written room r ≡ silent 1002
  unfolding request_written
  outside h o = sym (search rules)

  -- with 32 bytes lent every request fits
  pub sent : 32 ≤ room → outside_of r ≡ false → request_written room r ≡ written room 20 (request_data r) (request_frame (request_cmd r) (request_pid r) (request_data r))
  unfolding request_written request_bytes_of
  sent h o =
      let n = data_le r in
      rw (fits room 20 (request_data r) (request_frame (request_cmd r) (request_pid r) (request_data r)) (rw length_frame (omega arith)) h (omega arith)) (sym (search rules))
