-- `buffer::passed_by_fours` meets its contract. The invariant: the first b does not stand before place i.
use Prim.Native.Nat.{◌-◌}
use lib.ListN.{length}
use Rattle.buffer.proofs.Laws.{Passed}
use Rattle.buffer.proofs.passed_by_fours.Given as goal

abbrev pub invariant-loop-i : goal.invariant-loop-i
invariant-loop-i l = Passed l.b l.s l.i

abbrev pub decreases-loop-i : goal.decreases-loop-i
decreases-loop-i l = length l.s - l.i
