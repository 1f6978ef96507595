-- `line::write_line` meets its contract. The first row, the others and the end, one after the other.
use mathlib.Core.Path.{◌≡◌}
use mathlib.Core.List.{List, [], ◌++◌}
use Prim.Native.Nat.{ℕ, ◌+◌}
use native.Mathlib.Omega.{arith}
use lib.ListN.{length, drop, get_or, length-append}
use Rattle.buffer.proofs.Laws.{then}
use Rattle.frame_writer.proofs.Laws.{closes}
use Rattle.line.specs.Rows.{row_text, tail_rows, line_of}
use Rattle.line.proofs.Laws.{length_end}
use Rattle.line.proofs.write_line.Goals as goal

-- where the end is stored
length_line : (rows : List (List ℕ)) (p q : ℕ) → p ≡ 0 + length (row_text (get_or rows 0 [])) → q ≡ p + length (tail_rows (drop 1 rows)) → q + 2 ≡ length (line_of rows)
unfolding line_of
length_line rows p q e f =
    omega (arith, length_end (row_text (get_or rows 0 []) ++ tail_rows (drop 1 rows)), length-append (row_text (get_or rows 0 [])) (tail_rows (drop 1 rows)), e, f)

pub put_tail-q-requires : goal.put_tail-q-requires
put_tail-q-requires c = omega (arith, c.put_row-p.ensures.upper_bound)

pub overflow_add-result : goal.overflow_add-result
overflow_add-result c = omega (arith, length_line c.args.rows _ _ c.put_row-p.ensures.value c.put_tail-q.ensures.value)

pub returns : goal.returns
unfolding line_of
returns c =
    let rows = c.args.rows in
    let first = row_text (get_or rows 0 []) in
    let others = tail_rows (drop 1 rows) in
    let body = then c.put_row-p.result c.put_row-p.ensures.stored c.put_row-p.ensures.value c.put_tail-q.ensures.stored in
    let n : c.put_tail-q.result ≡ length (first ++ others) = omega (arith, length-append first others, c.put_row-p.ensures.value, c.put_tail-q.ensures.value) in
    record { stored = closes c.put_tail-q.result body n (omega (arith, length_end (first ++ others))) c.put_end.ensures; value = length_line rows _ _ c.put_row-p.ensures.value c.put_tail-q.ensures.value }
