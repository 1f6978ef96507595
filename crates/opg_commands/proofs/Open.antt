-- To compute with these definitions: `unfolding opg_commands_open` opens every one of this crate, and those that they stand on.
use Rattle.buffer.proofs.Open.{buffer_open}
use Rattle.opg_commands.specs.Request.{request_pid, request_cmd, request_data, reply_count, outside_of}
use Rattle.opg_commands.specs.Settings.{entered}

unfoldable pub opg_commands_open : Unit {0}
unfolding buffer_open request_pid request_cmd request_data reply_count outside_of entered
opg_commands_open = tt
