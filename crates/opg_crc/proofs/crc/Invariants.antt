-- `opg_crc::crc` meets its contract. The invariant: the CRC of what is left, from the number so far, is the whole CRC.
use mathlib.Core.Path.{◌≡◌}
use Prim.Native.Nat.{◌<◌}
use lib.ListN.{drop}
use Rattle.opg_crc.specs.Crc.{crc_from, crc_of}
use Rattle.opg_crc.proofs.crc.Given as goal

abbrev pub invariant-loop-b : goal.invariant-loop-b
invariant-loop-b l = (l.c < 65536) × (crc_from l.c (drop l.b-index l.s) ≡ crc_of l.s)
