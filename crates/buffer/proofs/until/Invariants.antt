-- `buffer::until` meets its contract. The invariant: the first b does not stand before place i.
use Rattle.buffer.proofs.Laws.{Passed}
use Rattle.buffer.proofs.until.Given as goal

abbrev pub invariant-loop-i : goal.invariant-loop-i
invariant-loop-i l = Passed l.b l.s l.i
