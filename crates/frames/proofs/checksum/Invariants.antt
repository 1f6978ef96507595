-- `frames::checksum` meets its contract. The invariant: the sum so far and the sum of what is left are the whole sum, mod 64.
use Rattle.std.proofs.Common.{◌≡◌, ◌+◌, ◌%◌, ◌<◌, drop}
use Rattle.frames.specs.Checksum.{sum_of}
use Rattle.frames.proofs.checksum.Given as goal

abbrev pub invariant-loop-b : goal.invariant-loop-b
invariant-loop-b l = (l.sum < 64) × ((l.sum + sum_of (drop l.b-index l.s)) % 64 ≡ sum_of l.s % 64)
