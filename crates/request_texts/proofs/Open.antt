-- To compute with these definitions: `unfolding request_texts_open` opens every one of this crate, and those that they stand on.
use Rattle.requests.proofs.Open.{requests_open}
use Rattle.request_texts.specs.RequestText.{access_of, command_in, head_for, data_v2, letter_v1, data_v1}

unfoldable pub request_texts_open : Unit {0}
unfolding requests_open access_of command_in head_for data_v2 letter_v1 data_v1
request_texts_open = tt
