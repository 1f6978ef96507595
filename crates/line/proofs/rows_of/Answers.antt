-- `line::rows_of` meets its contract. The invariant: with the values that are left stored from row i + 1 on, the rows are as they are to be.
use mathlib.Core.Path.{◌≡◌, sym, ap, ◌∙◌}
use mathlib.Core.List.{List, []}
use Prim.Native.Nat.{ℕ, ◌≤◌}
use native.Mathlib.Omega.{arith}
use borrow.Author.Rules.{rules}
use lib.ListN.{length, take, drop, get_or, drop_of_length-le}
use Rattle.buffer.proofs.Laws.{take_taken}
use Rattle.sources.specs.Source.{list_of}
use Rattle.sources.specs.declared.Sources.{Sources}
use Rattle.settings.specs.Limits.{width_of}
use Rattle.readings.specs.Reading.{value_text}
use Rattle.readings.specs.declared.Readings.{Readings}
use Rattle.sources.proofs.Laws.{list_few}
use Rattle.line.specs.Line.{line_value, values_of}
use Rattle.line.specs.Rows.{row_of, rows_of}
use Rattle.line.proofs.Laws.{rows_step}
use Rattle.line.proofs.rows_of.Goals as goal

-- the list has at most seven codes
size_le : (n : ℕ) (q : Sources) → length q.codes ≡ 7 → n ≡ length (list_of q) → n ≤ 7
size_le n q h e = omega (arith, e, list_few q h)

-- the row that is made of a source's text and width
row : (r : Readings) (code width : ℕ) (text made : List ℕ) → made ≡ row_of (take width text) → width ≡ width_of code → text ≡ value_text code r → made ≡ row_of (line_value r code)
unfolding line_value
row r code width text made e w t = rw (w, t) at e

pub shared_ref_as_front-listed : goal.shared_ref_as_front-listed
shared_ref_as_front-listed c = size_le c.size.result c.args.list (search rules) c.size.ensures

pub loop-i-preserved : goal.loop-i-preserved
loop-i-preserved c =
    let a = c.args in
    let n = c.size.result in
    let codes = a.list.codes in
    let i = c.loop-i.i in
    let same : c.row_of-in-loop-i.result ≡ row_of (line_value a.r (get_or (take n codes) i 0)) = row a.r _ _ _ _ c.row_of-in-loop-i.ensures c.width-in-loop-i.ensures c.text-in-loop-i.ensures in
    rw same (sym (rows_step (line_value a.r) c.loop-i.rows (take n codes) i (omega arith)) ∙ c.loop-i.invariant)

pub returns : goal.returns
unfolding rows_of values_of list_of
returns c =
    let l = c.loop-i in
    let q = c.args.list in
    let n = c.size.result in
    let e : take n q.codes ≡ list_of q = ap (λ (k : ℕ). take k q.codes) c.size.ensures ∙ take_taken q.count q.codes in
    let none : drop l.i (take n q.codes) ≡ [] = drop_of_length-le (take n q.codes) {i = l.i} (omega arith) in
    rw (none, e, row c.args.r 0 _ _ _ c.row_of.ensures c.width.ensures c.text.ensures) at l.invariant
