-- `requests::unit_at` meets its contract.
use Rattle.settings.proofs.Laws.{unit_by}
use Rattle.requests.specs.AskV1.{unit_at}
use Rattle.requests.proofs.unit_at.Goals as goal

pub returns-in-Some : goal.returns-in-Some
unfolding unit_at
returns-in-Some c = rw (unit_by _ _ c.args.n, ← c.unit_named.ensures, c.in-Some.is)

pub returns-in-None : goal.returns-in-None
unfolding unit_at
returns-in-None c = rw (unit_by _ _ c.args.n, ← c.unit_named.ensures, c.in-None.is)
