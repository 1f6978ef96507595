-- `sources::all_differ` meets its contract. The invariant: in what is left no code stands twice exactly if in the whole none does.
use mathlib.Core.Path.{refl, sym, ◌∙◌}
use mathlib.Core.Bool.{true, false}
use native.Mathlib.Omega.{arith}
use lib.ListN.{drop_of_length-le}
use Rattle.sources.specs.Source.{all_differ}
use Rattle.sources.proofs.Laws.{differ_step}
use Rattle.sources.proofs.all_differ.Goals as goal

pub loop-i-init : goal.loop-i-init
loop-i-init c = refl

pub returns-then-contains : goal.returns-then-contains
returns-then-contains c = let l = c.loop-i in sym (differ_step c.args.codes.now l.i _ _ true (omega arith) (omega arith) c.contains.ensures.value c.if-contains.true) ∙ l.invariant

pub loop-i-preserved : goal.loop-i-preserved
loop-i-preserved c = let l = c.loop-i in sym (differ_step c.args.codes.now l.i _ _ false (omega arith) (omega arith) c.contains.ensures.value c.if-contains.false) ∙ l.invariant

pub returns : goal.returns
unfolding all_differ
returns c = rw (drop_of_length-le c.args.codes.now c.loop-i-test.false) at c.loop-i.invariant
