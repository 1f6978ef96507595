-- To compute with these definitions: `unfolding request_writer_open` opens every one of this crate, and those that they stand on.
use Rattle.frame_writer.proofs.Open.{frame_writer_open}
use Rattle.request_texts.proofs.Open.{request_texts_open}
use Rattle.request_writer.specs.Typed.{limited_number, ends_in, typed_digit, judged_digit, typed_address, typed_stream, typed_verdict, formed_v2, formed_v1}
use Rattle.request_writer.specs.Written.{sent_v2, sent_v1, request_written_v2, request_written_v1}

unfoldable pub request_writer_open : Unit {0}
unfolding frame_writer_open request_texts_open limited_number ends_in typed_digit judged_digit typed_address typed_stream typed_verdict formed_v2 formed_v1 sent_v2 sent_v1 request_written_v2 request_written_v1
request_writer_open = tt
