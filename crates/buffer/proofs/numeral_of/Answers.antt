-- `buffer::numeral_of` meets its contract. The invariant: what is left of the first six characters, after v, spells the whole.
use native.Mathlib.Omega.{arith}
use lib.ListN.{drop_of_length-le, take}
use Rattle.buffer.specs.Byte.{numeral_from}
use Rattle.buffer.proofs.Laws.{drop_step, ten_step}
use Rattle.buffer.proofs.numeral_of.Goals as goal

pub loop-b-preserved : goal.loop-b-preserved
unfolding numeral_from
loop-b-preserved c =
    let l = c.loop-b in
    let first = take c.min.result c.args.s.now in
    (omega (arith, ten_step l.b-index, c.type_inv.s l.b-index), rw c.value.ensures (rw (drop_step first l.b-index (omega arith)) at l.invariant.1))

pub returns : goal.returns
unfolding numeral_from
returns c =
    let l = c.loop-b in
    let first = take c.min.result c.args.s.now in
    rw (drop_of_length-le first {i = l.b-index} (omega arith)) at l.invariant.1
