-- What is proved here, each statement as a type; proofs/ has the proofs.
use Rattle.std.specs.Prelude.{◌≡◌}
use Rattle.buffer.specs.Quoted.{bytes}
use Rattle.opg_crc.specs.Crc.{crc_of}

-- the check value that is published with this CRC: that of the nine characters 123456789
abbrev pub CheckValue : Type 0
CheckValue = crc_of (bytes "123456789") ≡ 0x6f91
