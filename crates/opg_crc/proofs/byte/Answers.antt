-- `opg_crc::byte` meets its contract.
use native.Mathlib.Omega.{arith}
use Rattle.opg_crc.proofs.Fold.{byte_is}
use Rattle.opg_crc.proofs.byte.Goals as goal

pub returns : goal.returns
returns c = byte_is c.args.c c.args.b c.requires (omega arith)
