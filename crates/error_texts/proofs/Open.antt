-- To compute with these definitions: `unfolding error_texts_open` opens every one of this crate, and those that they stand on.
use Rattle.buffer.proofs.Open.{buffer_open}
use Rattle.error_texts.specs.Texts.{error_bytes, error_of}

unfoldable pub error_texts_open : Unit {0}
unfolding buffer_open error_bytes error_of
error_texts_open = tt
