-- `line::rows_of` meets its contract. The invariant: with the values that are left stored from row i + 1 on, the rows are as they are to be.
use mathlib.Core.Path.{◌≡◌}
use mathlib.Core.List.{map}
use Prim.Native.Nat.{◌+◌}
use lib.ListN.{drop}
use lib.Seq.{sets}
use Rattle.line.specs.Line.{line_value}
use Rattle.line.specs.Rows.{row_of}
use Rattle.line.proofs.rows_of.Given as goal

abbrev pub invariant-loop-i : goal.invariant-loop-i
invariant-loop-i l =
    sets l.rows (l.i + 1) (map row_of (map (line_value l.r) (drop l.i l.listed))) ≡ sets l.initial.rows 1 (map row_of (map (line_value l.r) l.listed))
