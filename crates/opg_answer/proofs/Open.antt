-- To compute with these definitions: `unfolding opg_answer_open` opens every one of this crate, and those that they stand on.
use Rattle.opg_frame_writer.proofs.Open.{opg_frame_writer_open}
use Rattle.opg_gauge.proofs.Open.{opg_gauge_open}
use Rattle.opg_answer.specs.Reply.{bits_of, unit_of, reply_data, error_cmd, reply_to, answer_of, after_of}

unfoldable pub opg_answer_open : Unit {0}
unfolding opg_frame_writer_open opg_gauge_open bits_of unit_of reply_data error_cmd reply_to answer_of after_of
opg_answer_open = tt
