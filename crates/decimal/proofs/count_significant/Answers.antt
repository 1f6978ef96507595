-- `decimal::count_significant` meets its contract.
use mathlib.Core.Path.{sym}
use borrow.Author.Rules.{rules}
use Rattle.decimal.proofs.Laws.{significant_none, significant_upto}
use Rattle.decimal.proofs.count_significant.Goals as goal

pub returns-in-Some : goal.returns-in-Some
returns-in-Some c =
    let s = c.args.s.now in
    let i = c.in-Some.i in
    sym (significant_upto s i (search rules) (search rules) (search rules))

pub returns-in-None : goal.returns-in-None
returns-in-None c = sym (significant_none c.args.s.now (search rules))
