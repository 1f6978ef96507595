-- `line::put_row` meets its contract.
use mathlib.Core.Path.{◌≡◌}
use mathlib.Core.List.{List}
use Prim.Native.Nat.{ℕ, ◌≤◌}
use native.Mathlib.Omega.{arith}
use borrow.Author.Rules.{rules}
use lib.ListN.{length, take, length-take}
use Rattle.buffer.specs.Byte.{until_of}
use Rattle.buffer.proofs.Laws.{until_le}
use Rattle.line.specs.Rows.{row_text}
use Rattle.line.proofs.put_row.Goals as goal

until_in : (n : ℕ) (row : List ℕ) → n ≡ until_of 0 row → n ≤ length row
until_in n row e = rw e (until_le 0 row)

pub slice_bounds-row-end : goal.slice_bounds-row-end
slice_bounds-row-end c = until_in c.until-n.result c.args.row c.until-n.ensures

pub slice_bounds-put-end : goal.slice_bounds-put-end
slice_bounds-put-end c = simp length-take (omega (arith, until_in c.until-n.result c.args.row c.until-n.ensures))

pub overflow_add-result : goal.overflow_add-result
overflow_add-result c =
    let w : length c.args.row ≡ 11 = search rules in
    omega (arith, until_in c.until-n.result c.args.row c.until-n.ensures)

pub returns : goal.returns
unfolding row_text
returns c =
    let row = c.args.row in
    let u = c.until-n.result in
    let w : length row ≡ 11 = search rules in
    let e : take u row ≡ row_text row = rw c.until-n.ensures in
    let n : u ≡ length (row_text row) = simp length-take (omega (arith, until_le 0 row, c.until-n.ensures)) in
    record { stored = rw e at c.put.ensures; value = omega (arith, n); upper_bound = omega (arith, until_in u row c.until-n.ensures) }
