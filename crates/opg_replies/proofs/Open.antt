-- To compute with these definitions: `unfolding opg_replies_open` opens every one of this crate, and those that they stand on.
use Rattle.opg_frames.proofs.Open.{opg_frames_open}
use Rattle.opg_commands.proofs.Open.{opg_commands_open}
use Rattle.opg_units.proofs.Open.{opg_units_open}
use Rattle.opg_replies.specs.Reply.{is_error, other_reply, needed_of, wrong_count, reply_value, read_of, read_shown}

unfoldable pub opg_replies_open : Unit {0}
unfolding opg_frames_open opg_commands_open opg_units_open is_error other_reply needed_of wrong_count reply_value read_of read_shown
opg_replies_open = tt
