-- `sources::stand_once` meets its contract.
use mathlib.Core.Path.{ap}
use mathlib.Core.Bool.{not}
use Rattle.sources.specs.Source.{all_differ}
use Rattle.sources.proofs.Laws.{contained}
use Rattle.sources.proofs.stand_once.Goals as goal

pub returns-then-not-contains : goal.returns-then-not-contains
unfolding all_differ
returns-then-not-contains c =
    rw (contained _ 0 _ _ (rw c.as_slice-codes.ensures at c.contains.ensures.value) c.if-not-contains.true) (rw c.as_slice-codes.ensures at c.all_differ.ensures)

pub returns-else-not-contains : goal.returns-else-not-contains
unfolding all_differ
returns-else-not-contains c =
    rw (contained _ 0 _ _ (rw c.as_slice-codes.ensures at c.contains.ensures.value) c.if-not-contains.false) (ap not c.if-not-contains.false)
