-- `gauge_rules_v1::put_factor` meets its contract. An accepted factor fits its field.
use mathlib.Core.Path.{sym}
use Rattle.settings.proofs.Laws.{factor_small}
use Rattle.gauge_rules_v1.proofs.Laws.{factor_in_lem}
use Rattle.gauge_rules_v1.proofs.put_factor.Goals as goal

pub overflow_cast-result : goal.overflow_cast-result
overflow_cast-result c = let a = c.args in record { fits = factor_small a.n (factor_in_lem a.unlocked a.n (sym c.in-Ok.ensures)) }
