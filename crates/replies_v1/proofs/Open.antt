-- To compute with these definitions: `unfolding replies_v1_open` opens every one of this crate, and those that they stand on.
use Rattle.frame_writer.proofs.Open.{frame_writer_open}
use Rattle.request_texts.proofs.Open.{request_texts_open}
use Rattle.replies_v1.specs.ReplyV1.{pressure_v1, measure_v1, factor_v1, unit_at, unit_v1, echo_v1, value_v1, not_v1, other_address, other_letter, error_at, read_v1, read_shown_v1}

unfoldable pub replies_v1_open : Unit {0}
unfolding frame_writer_open request_texts_open pressure_v1 measure_v1 factor_v1 unit_at unit_v1 echo_v1 value_v1 not_v1 other_address other_letter error_at read_v1 read_shown_v1
replies_v1_open = tt
