-- `opg_answer::answer` meets its contract.
use lib.ListN.{length}
use Rattle.opg_answer.proofs.Laws.{answer_is}
use Rattle.opg_answer.proofs.answer.Goals as goal

pub returns-clause-sent : goal.returns-clause-sent
returns-clause-sent c =
    let a = c.args in
    rw (c.judge-a.ensures, c.cmd_of-cmd.ensures, answer_is (length a.out.now) a.g a.s.now) at c.reply-written.ensures
