-- The factors as whole numbers times powers of two, and that no f32 is nearer to the fractions.
use mathlib.Core.Path.{refl}
use lib.Ieee.{round}
use Rattle.opg_units.specs.Units.{torr, pascal, micron}
use Rattle.opg_units.specs.Theorems.{Factors, NoneNearer, Literals}
use Rattle.opg_units.proofs.Laws.{torr_literal, pascal_literal, micron_literal}

pub factors : Factors
unfolding torr pascal micron round
factors = record { torr_is = refl; pascal_is = refl; micron_is = refl }

pub none_nearer : NoneNearer
none_nearer = refl

pub literals : Literals
literals = (torr_literal.value, pascal_literal.value, micron_literal.value)
