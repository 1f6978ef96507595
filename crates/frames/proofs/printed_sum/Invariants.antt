-- `frames::printed_sum` meets its contract. The invariant: what is left is all within exactly if the whole is, and the sum so far with
-- the sum of what is left is the whole sum, mod 64.
use Rattle.std.proofs.Common.{◌≡◌, ◌+◌, ◌%◌, drop}
use Rattle.buffer.specs.Byte.{within, every}
use Rattle.frames.specs.Checksum.{sum_of}
use Rattle.frames.proofs.printed_sum.Given as goal

abbrev pub invariant-loop-b : goal.invariant-loop-b
invariant-loop-b l =
    (every (within 32 126) (drop l.b-index l.s) ≡ every (within 32 126) l.s) × ((l.sum + sum_of (drop l.b-index l.s)) % 64 ≡ sum_of l.s % 64)
