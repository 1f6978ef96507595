-- `line::put_tail` meets its contract. The invariant: with the rows that are left stored from p on, the memory is as it is to be.
use mathlib.Core.Path.{◌≡◌}
use Prim.Native.Nat.{◌+◌, ◌*◌, ◌≤◌}
use lib.ListN.{length, drop}
use lib.Seq.{sets}
use Rattle.line.specs.Rows.{tail_rows}
use Rattle.line.proofs.put_tail.Given as goal

abbrev pub invariant-loop-row : goal.invariant-loop-row
invariant-loop-row l =
    (l.p ≤ l.at + 12 * l.row-index)
    × (l.p + length (tail_rows (drop l.row-index l.row-items)) ≡ l.at + length (tail_rows l.row-items))
    × (sets l.out l.p (tail_rows (drop l.row-index l.row-items)) ≡ sets l.initial.out l.at (tail_rows l.row-items))
