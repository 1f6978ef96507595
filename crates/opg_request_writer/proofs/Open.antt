-- To compute with these definitions: `unfolding opg_request_writer_open` opens every one of this crate, and those that they stand on.
use Rattle.opg_frame_writer.proofs.Open.{opg_frame_writer_open}
use Rattle.opg_commands.proofs.Open.{opg_commands_open}
use Rattle.opg_request_writer.specs.Written.{request_bytes_of, request_written}

unfoldable pub opg_request_writer_open : Unit {0}
unfolding opg_frame_writer_open opg_commands_open request_bytes_of request_written
opg_request_writer_open = tt
