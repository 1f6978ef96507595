-- To compute with these definitions: `unfolding opg_request_reader_open` opens every one of this crate, and those that they stand on.
use Rattle.opg_frames.proofs.Open.{opg_frames_open}
use Rattle.opg_commands.proofs.Open.{opg_commands_open}
use Rattle.opg_request_reader.specs.Asked.{wrong_shape, unknown_cmd, unknown_pid, lacks_access, needed_of, wrong_count, meaning, wrong_mode, outside, asked_of, denied_number, asked_number}

unfoldable pub opg_request_reader_open : Unit {0}
unfolding opg_frames_open opg_commands_open wrong_shape unknown_cmd unknown_pid lacks_access needed_of wrong_count meaning wrong_mode outside asked_of denied_number asked_number
opg_request_reader_open = tt
