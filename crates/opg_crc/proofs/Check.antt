-- The CRC's published check value.
use mathlib.Core.Path.{refl}
use Rattle.opg_crc.specs.Theorems.{CheckValue}
use Rattle.opg_crc.proofs.Open.{opg_crc_open}

pub check_value : CheckValue
unfolding opg_crc_open
check_value = refl
