-- The worked cases, computed.
use mathlib.Core.Path.{refl}
use Rattle.gauge_facts.specs.Examples.{following, played, ended}
use Rattle.gauge_facts.specs.Theorems.{AllRight}
use Rattle.line.proofs.Open.{line_open}
use Rattle.gauge_table.proofs.Open.{gauge_table_open}

pub all_right : AllRight
unfolding line_open gauge_table_open following played ended
all_right = (refl, refl)
