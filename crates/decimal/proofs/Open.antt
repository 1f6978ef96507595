-- To compute with these definitions: `unfolding decimal_open` opens every one of this crate, and those that they stand on.
use Rattle.buffer.proofs.Open.{buffer_open}
use Rattle.decimal.specs.Exact.{units, size_of, normal_of}
use Rattle.decimal.specs.Form.{power_of, exponent_of, fraction_of, unsigned_of, scan_of, parsed_of, number_of}
use Rattle.decimal.specs.Digits.{significant}
use Rattle.decimal.specs.Number.{plus, minus, below_of, same_value, counted_of, hundredths_of}

unfoldable pub decimal_open : Unit {0}
unfolding buffer_open units size_of normal_of power_of exponent_of fraction_of unsigned_of scan_of parsed_of number_of plus minus below_of same_value counted_of hundredths_of significant
decimal_open = tt
