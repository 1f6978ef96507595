-- To compute with these definitions: `unfolding request_reader_open` opens every one of this crate, and those that they stand on.
use Rattle.requests.proofs.Open.{requests_open}
use Rattle.request_reader.specs.Decoded.{from_v2, judged_v1, from_v1, from_frame, request_of, list_from, request_list}

unfoldable pub request_reader_open : Unit {0}
unfolding requests_open from_v2 judged_v1 from_v1 from_frame request_of list_from request_list
request_reader_open = tt
