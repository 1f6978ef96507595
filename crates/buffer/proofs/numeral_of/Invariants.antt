-- `buffer::numeral_of` meets its contract. The invariant: what is left of the first six characters, after v, spells the whole.
use mathlib.Core.Path.{◌≡◌}
use Prim.Native.Nat.{◌+◌, ◌*◌, ◌^◌, ◌≤◌}
use lib.ListN.{take, drop}
use Rattle.buffer.specs.Byte.{numeral_from, numeral}
use Rattle.buffer.proofs.numeral_of.Given as goal

abbrev pub invariant-loop-b : goal.invariant-loop-b
invariant-loop-b l =
    (l.v + 23 ≤ 23 * 10 ^ l.b-index) × (numeral_from l.v (drop l.b-index l.first) ≡ numeral (take 6 l.s))
