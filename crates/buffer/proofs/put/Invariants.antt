-- `buffer::put` meets its contract. The invariant: with what is left of src stored from at + i on, the memory is as it is to be.
use mathlib.Core.Path.{◌≡◌}
use Prim.Native.Nat.{◌+◌, ◌≤◌}
use lib.ListN.{length, drop}
use lib.Seq.{sets}
use Rattle.buffer.proofs.put.Given as goal

abbrev pub invariant-loop-i : goal.invariant-loop-i
invariant-loop-i l = (l.i ≤ length l.out) × (sets l.out (l.at + l.i) (drop l.i l.src) ≡ sets l.initial.out l.at l.src)
