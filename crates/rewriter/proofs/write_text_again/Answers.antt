-- `rewriter::write_text_again` meets its contract.
use mathlib.Core.Path.{refl}
use Rattle.buffer.proofs.Laws.{refuses}
use Rattle.rewriter.specs.Again.{text_again}
use Rattle.rewriter.proofs.write_text_again.Goals as goal

pub returns-in-Err : goal.returns-in-Err
unfolding text_again
returns-in-Err c = rw (c.in-Err.is, c.number.ensures) (refuses _ _ refl)
