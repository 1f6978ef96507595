-- `frames::checksum` meets its contract. The invariant: the sum so far and the sum of what is left are the whole sum, mod 64.
use Rattle.std.proofs.Common.{arith}
use Rattle.frames.specs.Checksum.{checksum_of}
use Rattle.frames.proofs.Laws.{sum_step, sum_end}
use Rattle.frames.proofs.checksum.Goals as goal

pub loop-b-preserved : goal.loop-b-preserved
unfolding checksum_of
loop-b-preserved c = (omega arith, omega (arith, sum_step c.args.s.now c.loop-b.b-index (omega arith)))

pub returns : goal.returns
unfolding checksum_of
returns c = omega (arith, sum_end c.args.s.now c.loop-b.b-index (omega arith))
