-- `rewriter::write_opg_again` meets its contract.
use mathlib.Core.Path.{refl}
use Rattle.buffer.proofs.Laws.{refuses}
use Rattle.rewriter.specs.Again.{opg_again}
use Rattle.rewriter.proofs.write_opg_again.Goals as goal

pub returns-in-Err : goal.returns-in-Err
unfolding opg_again
returns-in-Err c = rw (c.in-Err.is, c.number.ensures) (refuses _ _ refl)
