-- To compute with these definitions: `unfolding opg_crc_open` opens every one of this crate, and those that they stand on.
use mathlib.Core.Bool.{xor}
use Rattle.buffer.proofs.Open.{buffer_open}
use Rattle.opg_crc.specs.Crc.{plus, remainder, digits, number, message, crc_from, crc_of}

unfoldable pub opg_crc_open : Unit {0}
unfolding buffer_open xor plus remainder digits number message crc_from crc_of
opg_crc_open = tt
