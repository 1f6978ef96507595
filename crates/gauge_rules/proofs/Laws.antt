-- Laws of the rules of the text gauge.
use mathlib.Core.Path.{refl}
use Rattle.buffer.specs.First.{pick}
use Rattle.buffer.specs.Byte.{within}
use Rattle.gauge_rules.specs.RulesV2.{filament_of}
use Rattle.gauge_rules.specs.Theorems.{FilamentTable}

-- FN for each FC and FS that there is
pub filament_table : FilamentTable
unfolding filament_of within pick
filament_table = refl
