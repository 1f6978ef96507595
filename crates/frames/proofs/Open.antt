-- To compute with these definitions: `unfolding frames_open` opens every one of this crate, and those that they stand on.
use Rattle.buffer.proofs.Open.{buffer_open}
use Rattle.frames.specs.Checksum.{sum_of, checksum_of, end_of, closed}
use Rattle.frames.specs.Frame.{is_letter, length_fits, misshapen, wrong_sum, wrong_address, wrong_length, head_v1, head_v2, frame_of, frame_number}

unfoldable pub frames_open : Unit {0}
unfolding buffer_open sum_of checksum_of end_of closed is_letter length_fits misshapen wrong_sum wrong_address wrong_length head_v1 head_v2 frame_of frame_number
frames_open = tt
