-- To compute with these definitions: `unfolding frame_writer_open` opens every one of this crate, and those that they stand on.
use Rattle.frames.proofs.Open.{frames_open}
use Rattle.error_texts.proofs.Open.{error_texts_open}
use Rattle.frame_writer.specs.Error.{error_head_v2, error_letter_v1, error_data_v1, error_head_v1}
use Rattle.frame_writer.specs.Written.{frame_v2, frame_v1, data_fit, carries_v2, carries_v1, frame_written}

unfoldable pub frame_writer_open : Unit {0}
unfolding frames_open error_texts_open error_head_v2 error_letter_v1 error_data_v1 error_head_v1 frame_v2 frame_v1 data_fit carries_v2 carries_v1 frame_written
frame_writer_open = tt
