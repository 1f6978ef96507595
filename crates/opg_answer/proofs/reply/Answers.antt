-- `opg_answer::reply` meets its contract.
use mathlib.Core.Path.{refl}
use Rattle.buffer.proofs.Laws.{refuses}
use Rattle.opg_answer.specs.Inner.{replied}
use Rattle.opg_answer.proofs.reply.Goals as goal

pub returns-in-Silent : goal.returns-in-Silent
unfolding replied
returns-in-Silent c = rw (c.in-Err.is, c.in-Silent.is, c.answer.ensures) (refuses _ _ refl)
