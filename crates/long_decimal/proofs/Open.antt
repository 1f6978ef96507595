-- To compute with these definitions: `unfolding long_decimal_open` opens every one of this crate, and those that they stand on.
use Rattle.decimal.proofs.Open.{decimal_open}
use Rattle.long_decimal.specs.Long.{moved_of, decimal_value, spelled_of, pointed_of, unsigned_of, decimal_of}

unfoldable pub long_decimal_open : Unit {0}
unfolding decimal_open moved_of decimal_value spelled_of pointed_of unsigned_of decimal_of
long_decimal_open = tt
