-- To compute with these definitions: `unfolding opg_frames_open` opens every one of this crate, and those that they stand on.
use Rattle.opg_crc.proofs.Open.{opg_crc_open}
use Rattle.opg_frames.specs.Frame.{address_of, id_of, version_of, reserved_of, acknowledge_of, len_of, cmd_of, pid_of, idx_of, count_of, crc_bytes, misshapen, foreign, wrong_crc, wrong_version, acknowledges, indexed}
use Rattle.opg_frames.specs.Number.{refusal_number, error_byte}

unfoldable pub opg_frames_open : Unit {0}
unfolding opg_crc_open address_of id_of version_of reserved_of acknowledge_of len_of cmd_of pid_of idx_of count_of crc_bytes misshapen foreign wrong_crc wrong_version acknowledges indexed refusal_number error_byte
opg_frames_open = tt
