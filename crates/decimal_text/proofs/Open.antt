-- To compute with these definitions: `unfolding decimal_text_open` opens every one of this crate, and those that they stand on.
use Rattle.decimal.proofs.Open.{decimal_open}
use Rattle.decimal_text.specs.Written.{sign_text, trimmed, pointed, exponent_text, written_of, whole_text, two_decimals}

unfoldable pub decimal_text_open : Unit {0}
unfolding decimal_open sign_text trimmed pointed exponent_text written_of whole_text two_decimals
decimal_text_open = tt
