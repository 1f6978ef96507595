-- `sources::is_listable` meets its contract.
use mathlib.Core.Path.{sym, ◌∙◌}
use Rattle.sources.specs.Source.{listable}
use Rattle.sources.proofs.is_listable.Goals as goal

pub returns-then-all_known : goal.returns-then-all_known
unfolding listable
returns-then-all_known c = rw (sym c.all_known.ensures ∙ c.if-all_known.true) c.stand_once.ensures

pub returns-else-all_known : goal.returns-else-all_known
unfolding listable
returns-else-all_known c = rw (sym c.all_known.ensures ∙ c.if-all_known.false) c.if-all_known.false
