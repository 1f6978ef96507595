-- `line::put_tail` meets its contract. The invariant: with the rows that are left stored from p on, the memory is as it is to be.
use mathlib.Core.Path.{◌≡◌, refl, ◌∙◌}
use mathlib.Core.List.{List, [], ◌∷◌, ◌++◌}
use Prim.Native.Nat.{ℕ, ◌+◌}
use native.Mathlib.Omega.{arith}
use borrow.Author.Rules.{rules}
use borrow.Author.Tests.{eq-eqb, ne_eqb}
use lib.ListN.{length, take, drop, get_or, length-append, length-drop, drop_of_length-le}
use lib.Seq.{take_all}
use Rattle.buffer.proofs.Laws.{then}
use Rattle.line.specs.Rows.{row_text, tail_rows}
use Rattle.line.proofs.Laws.{left, tail_stop, tail_step}
use Rattle.line.proofs.put_tail.Goals as goal

-- the rows that the loop reads are those after the first
after_first : (rows : List (List ℕ)) → length rows ≡ 8 → take 7 (drop 1 rows) ≡ drop 1 rows
after_first rows w = take_all 7 (drop 1 rows) (simp length-drop (omega arith))

pub returns-then-row-eq0 : goal.returns-then-row-eq0
returns-then-row-eq0 c =
    let l = c.loop-row in
    let w : length c.args.rows ≡ 8 = search rules in
    let tail = take 7 (drop 1 c.args.rows) in
    let e = tail_stop tail l.row-index (omega arith) (eq-eqb _ _ c.if-row-eq0.true) in
    let f = after_first c.args.rows w in
    record { stored = record { memory = rw (e, f) at l.invariant.2 }; value = omega (arith, rw (e, f) at l.invariant.1) }

pub loop-row-preserved : goal.loop-row-preserved
loop-row-preserved c =
    let l = c.loop-row in
    let tail = take 7 (drop 1 c.args.rows) in
    let row = get_or tail l.row-index [] in
    let e = tail_step tail l.row-index (omega arith) (ne_eqb _ _ c.if-row-eq0.false) in
    let n = length-append ((59 ∷ []) ++ row_text row) (tail_rows (drop (l.row-index + 1) tail)) in
    let next : c.put_row-p.result ≡ l.p + 1 + length (row_text row) = c.put_row-p.ensures.value in
    let stored = then (l.p + 1) c.put.ensures refl c.put_row-p.ensures.stored in (
      omega (arith, c.put_row-p.ensures.upper_bound),
      omega (arith, next, n, rw e at l.invariant.1),
      left c.put_row-p.result (tail_rows (drop (l.row-index + 1) tail)) stored (omega (arith, next)) ∙ rw e at l.invariant.2,
    )

pub returns : goal.returns
unfolding tail_rows
returns c =
    let l = c.loop-row in
    let w : length c.args.rows ≡ 8 = search rules in
    let tail = take 7 (drop 1 c.args.rows) in
    let e : drop l.row-index tail ≡ [] = drop_of_length-le tail {i = l.row-index} (omega arith) in
    let f = after_first c.args.rows w in
    record { stored = record { memory = rw (e, f) at l.invariant.2 }; value = omega (arith, rw (e, f) at l.invariant.1) }
