-- `sources::all_known` meets its contract. The invariant: what is left is known exactly if the whole is.
use mathlib.Core.Path.{◌≡◌, sym, ◌∙◌}
use mathlib.Core.Bool.{true, false}
use native.Mathlib.Omega.{arith}
use lib.ListN.{drop_of_length-le, get_or}
use Rattle.buffer.specs.Byte.{every}
use Rattle.buffer.proofs.Laws.{drop_step}
use Rattle.sources.specs.Source.{sources_of, among}
use Rattle.sources.proofs.all_known.Goals as goal

pub returns-then-not-offers : goal.returns-then-not-offers
unfolding every
returns-then-not-offers c =
    let l = c.loop-c in
    let s = c.as_slice-c-items.result.now in
    let out : among (sources_of c.args.profile) (get_or s l.c-index 0) ≡ false = sym c.offers.ensures ∙ c.if-not-offers.true in
    rw (drop_step s l.c-index (omega arith), out, c.as_slice-c-items.ensures) at l.invariant

pub loop-c-preserved : goal.loop-c-preserved
unfolding every
loop-c-preserved c =
    let l = c.loop-c in
    let s = c.as_slice-c-items.result.now in
    let known : among (sources_of c.args.profile) (get_or s l.c-index 0) ≡ true = sym c.offers.ensures ∙ c.if-not-offers.false in
    rw (drop_step s l.c-index (omega arith), known) at l.invariant

pub returns : goal.returns
unfolding every
returns c = let s = c.as_slice-c-items.result.now in rw (drop_of_length-le s c.loop-c-test.false, c.as_slice-c-items.ensures) at c.loop-c.invariant
