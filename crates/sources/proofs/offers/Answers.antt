-- `sources::offers` meets its contract.
use Rattle.sources.proofs.Laws.{among_any}
use Rattle.sources.proofs.offers.Goals as goal

pub returns-in-Standard : goal.returns-in-Standard
returns-in-Standard c = rw (c.in-Standard.is, ← among_any) c.contains.ensures.value

pub returns-in-Vsh : goal.returns-in-Vsh
returns-in-Vsh c = rw (c.in-Vsh.is, ← among_any) c.contains-in-Vsh.ensures.value

pub returns-in-Vsm : goal.returns-in-Vsm
returns-in-Vsm c = rw (c.in-Vsm.is, ← among_any) c.contains-in-Vsm.ensures.value
