-- `rewriter::rewrite_opg` meets its contract.
use Rattle.rewriter.proofs.rewrite_opg.Goals as goal

pub returns : goal.returns
returns c = rw (← c.read_request.ensures) c.write_opg_again.ensures
