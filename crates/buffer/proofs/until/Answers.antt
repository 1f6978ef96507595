-- `buffer::until` meets its contract. The invariant: the first b does not stand before place i.
use mathlib.Core.Path.{◌≡◌, refl}
use mathlib.Core.Bool.{true}
use native.Mathlib.Omega.{arith}
use borrow.Author.Tests.{eq-eqb}
use lib.Dec.{eqb}
use lib.ListN.{get_or}
use Rattle.buffer.proofs.Laws.{pass, until_step, until_end}
use Rattle.buffer.proofs.until.Goals as goal

pub returns-then-s-i : goal.returns-then-s-i
returns-then-s-i c =
    let l = c.loop-i in
    let a = c.args in
    let found : eqb (get_or a.s.now l.i 0) a.b ≡ true = eq-eqb _ _ c.if-s-i.true in
    let e = rw found at (until_step a.b a.s.now l.i (omega arith)) in
    omega (arith, e)

pub loop-i-preserved : goal.loop-i-preserved
loop-i-preserved c = pass _ c.args.s.now _ _ (omega arith) c.if-s-i.false refl c.loop-i.invariant

pub returns : goal.returns
returns c = let a = c.args in omega (arith, until_end a.b a.s.now c.loop-i.i (omega arith))
