-- `replies_v1::unit_at` meets its contract.
use Rattle.settings.proofs.Laws.{unit_by}
use Rattle.replies_v1.specs.ReplyV1.{unit_at}
use Rattle.replies_v1.proofs.unit_at.Goals as goal

pub returns-in-Some : goal.returns-in-Some
unfolding unit_at
returns-in-Some c = rw (unit_by _ _ c.args.n, ← c.unit_named.ensures, c.in-Some.is)

pub returns-in-None : goal.returns-in-None
unfolding unit_at
returns-in-None c = rw (unit_by _ _ c.args.n, ← c.unit_named.ensures, c.in-None.is)
