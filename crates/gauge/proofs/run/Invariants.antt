-- `gauge::run` is safe and ends: what is kept has room in the input.
use Prim.Native.Nat.{◌≤◌}
use lib.ListN.{length}
use Rattle.gauge.proofs.run.Given as goal

abbrev pub invariant-loop : goal.invariant-loop
invariant-loop g l = (l.kept ≤ 110) × (65536 ≤ length l.input)
