-- A request that was written is read as the same request.
use mathlib.Core.Path.{◌≡◌, sym}
use mathlib.Core.Bool.{false}
use mathlib.Core.List.{List, [], ◌∷◌}
use Prim.Native.Nat.{ℕ, ◌+◌, ◌-◌, ◌*◌, ◌/◌, ◌%◌, ◌<◌}
use native.Mathlib.Nat.{div-div-eq-div-mul}
use native.Mathlib.Omega.{arith}
use borrow.Author.Tests.{ltb-true}
use lib.ListN.{length, drop, length-append}
use lib.Seq.{take_at, drop_at}
use Rattle.buffer.specs.First.{pick}
use Rattle.buffer.specs.Byte.{within, word_of}
use Rattle.buffer.proofs.Laws.{same_self}
use Rattle.opg_frames.specs.Frame.{address_of, id_of, version_of, reserved_of, acknowledge_of, len_of, cmd_of, pid_of, idx_of, count_of, body, crc_bytes, misshapen, foreign, wrong_crc, wrong_version, acknowledges, indexed}
use Rattle.opg_frame_writer.specs.Written.{sealed, frame}
use Rattle.opg_commands.specs.Request.{request_pid, request_cmd, request_data}
use Rattle.opg_request_reader.specs.Asked.{wrong_shape, unknown_cmd, unknown_pid, lacks_access, needed_of, wrong_count, meaning, wrong_mode, outside, asked_of}
use Rattle.opg_commands.specs.declared.Request.TheVariants.{ReadPressure, ReadUnit, WriteUnit, DetectionOff, DetectionOn}
use Rattle.opg_request_writer.specs.Written.{request_bytes_of}
use Rattle.opg_facts.specs.Held.{fits32}
use Rattle.opg_facts.specs.Theorems.{ReadBack}

-- ---- the CRC

-- bytes that were sealed have their CRC
module _ (b : List ℕ) where
  length_sealed : length (sealed b) ≡ length b + 2
  unfolding sealed crc_bytes
  length_sealed = length-append b (crc_bytes b)

  body_sealed : body (sealed b) ≡ b
  unfolding sealed
  body_sealed = take_at b (crc_bytes b) (length (sealed b) - 2) (omega (arith, length_sealed))

  end_sealed : drop (length (sealed b) - 2) (sealed b) ≡ crc_bytes b
  unfolding sealed
  end_sealed = drop_at b (crc_bytes b) (length (sealed b) - 2) (omega (arith, length_sealed))

  pub crc_right : wrong_crc (sealed b) ≡ false
  unfolding wrong_crc
  crc_right = rw (end_sealed, body_sealed, same_self (crc_bytes b))

-- ---- the request

-- the parts of a frame and their tests, with its CRC left as it is
unfoldable pub parts_open : Unit {0}
unfolding frame sealed crc_bytes pick misshapen len_of reserved_of foreign address_of id_of wrong_version version_of acknowledges acknowledge_of cmd_of pid_of indexed idx_of count_of
parts_open = tt

-- four bytes of a number of 32 bits
pub word_back : (n : ℕ) → n < 4294967296 → word_of (n / 16777216 % 256) (n / 65536 % 256) (n / 256 % 256) (n % 256) ≡ n
word_back n h =
    let two : n / 65536 ≡ n / 256 / 256 = sym (div-div-eq-div-mul n 256 256) in
    let three : n / 16777216 ≡ n / 65536 / 256 = sym (div-div-eq-div-mul n 65536 256) in
    let a : n ≡ n / 256 * 256 + n % 256 = omega arith in
    let b : n / 256 ≡ n / 65536 * 256 + n / 256 % 256 = rw two (omega arith) in
    let c : n / 65536 ≡ n / 16777216 * 256 + n / 65536 % 256 = rw three (omega arith) in
    let d : n / 16777216 % 256 ≡ n / 16777216 = omega arith in
    omega arith

-- every typed request that the writer accepts, written and read again, is the same request
pub read_back : ReadBack
unfolding parts_open request_bytes_of request_cmd request_pid request_data asked_of within wrong_shape unknown_cmd unknown_pid lacks_access needed_of wrong_count meaning wrong_mode outside fits32
read_back (ReadPressure u) o f = rw (crc_right (0 ∷ 0 ∷ 32 ∷ 0 ∷ 6 ∷ 1 ∷ 54 ∷ 176 ∷ 0 ∷ 0 ∷ u ∷ []), o)
read_back ReadUnit o f = rw (crc_right (0 ∷ 0 ∷ 32 ∷ 0 ∷ 5 ∷ 1 ∷ 54 ∷ 177 ∷ 0 ∷ 0 ∷ []), o)
read_back (WriteUnit u) o f = rw (crc_right (0 ∷ 0 ∷ 32 ∷ 0 ∷ 6 ∷ 3 ∷ 54 ∷ 177 ∷ 0 ∷ 0 ∷ u ∷ []), o)
read_back DetectionOff o f = rw (crc_right (0 ∷ 0 ∷ 32 ∷ 0 ∷ 11 ∷ 3 ∷ 85 ∷ 240 ∷ 0 ∷ 0 ∷ 0 ∷ 0 ∷ 0 ∷ 0 ∷ 0 ∷ 0 ∷ []), o)
read_back (DetectionOn n gas) o f =
    rw (
      crc_right (0 ∷ 0 ∷ 32 ∷ 0 ∷ 11 ∷ 3 ∷ 85 ∷ 240 ∷ 0 ∷ 0 ∷ 1 ∷ n / 16777216 % 256 ∷ n / 65536 % 256 ∷ n / 256 % 256 ∷ n % 256 ∷ gas ∷ []),
      word_back n (ltb-true n 4294967296 f),
      o,
    )
