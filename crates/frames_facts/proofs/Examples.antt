-- The worked cases, computed.
use mathlib.Core.Path.{refl}
use Rattle.buffer.specs.First.{pick}
use Rattle.buffer.specs.Byte.{within, every, same_text, numeral_from}
use Rattle.frames.specs.Checksum.{sum_of, checksum_of, end_of, closed}
use Rattle.frames.specs.Frame.{is_letter, length_fits, misshapen, wrong_sum, wrong_address, wrong_length, head_v1, head_v2, frame_of, frame_number}
use Rattle.frame_writer.specs.Written.{data_fit, carries_v2, carries_v1, frame_written, frame_v2, frame_v1}
use Rattle.error_texts.specs.Texts.{error_of, error_bytes}
use Rattle.frame_writer.specs.Error.{error_head_v2, error_letter_v1, error_data_v1, error_head_v1}
use Rattle.frames_facts.specs.Theorems.{AllRead, AllSent, AllAnswered}

pub all_read : AllRead
unfolding every within pick sum_of checksum_of numeral_from is_letter length_fits misshapen wrong_sum wrong_address wrong_length head_v1 head_v2 frame_of frame_number
all_read = refl

pub all_sent : AllSent
unfolding every pick same_text sum_of checksum_of end_of closed frame_v2 frame_v1 error_of error_bytes error_head_v2 error_letter_v1 error_data_v1 error_head_v1
all_sent = refl

pub all_answered : AllAnswered
unfolding every within pick closed end_of sum_of checksum_of is_letter frame_v2 frame_v1 data_fit carries_v2 carries_v1 frame_written
all_answered = refl
