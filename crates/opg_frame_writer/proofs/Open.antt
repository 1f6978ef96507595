-- To compute with these definitions: `unfolding opg_frame_writer_open` opens every one of this crate, and those that they stand on.
use Rattle.opg_frames.proofs.Open.{opg_frames_open}
use Rattle.opg_frame_writer.specs.Written.{sealed, frame, written}

unfoldable pub opg_frame_writer_open : Unit {0}
unfolding opg_frames_open sealed frame written
opg_frame_writer_open = tt
