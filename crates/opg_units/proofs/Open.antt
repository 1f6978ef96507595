-- To compute with these definitions: `unfolding opg_units_open` opens every one of this crate, and those that they stand on.
use lib.Ieee.{to_bits, of_bits, mul, round, le}
use Rattle.buffer.proofs.Open.{buffer_open}
use Rattle.opg_units.specs.Units.{finite, measurable, torr, pascal, micron, product, bits_in}

unfoldable pub opg_units_open : Unit {0}
unfolding buffer_open to_bits of_bits mul round le finite measurable torr pascal micron product bits_in
opg_units_open = tt
