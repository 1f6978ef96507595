-- `frames::printed_sum` meets its contract. The invariant: what is left is all within exactly if the whole is, and the sum so far with
-- the sum of what is left is the whole sum, mod 64.
use Rattle.std.proofs.Common.{◌≡◌, true, false, get_or, Some, sym, refl, ap, ◌∙◌, arith, drop_of_length-le}
use Rattle.buffer.specs.Byte.{within, every}
use Rattle.buffer.proofs.Laws.{drop_step}
use Rattle.buffer.proofs.Rules.{past, stop}
use Rattle.frames.specs.Checksum.{checksum_of}
use Rattle.frames.proofs.Laws.{sum_step, sum_end}
use Rattle.frames.proofs.printed_sum.Goals as goal

pub returns-then-not-is_within : goal.returns-then-not-is_within
unfolding every
returns-then-not-is_within c =
    let l = c.loop-b in
    let s = c.args.s.now in
    let out : within 32 126 (get_or s l.b-index 0) ≡ false = sym c.is_within.ensures ∙ c.if-not-is_within.true in
    past _ _ _ _ (sym (rw (drop_step s l.b-index (omega arith), out) at l.invariant.0)) refl

pub loop-b-preserved : goal.loop-b-preserved
unfolding every
loop-b-preserved c =
    let l = c.loop-b in
    let s = c.args.s.now in
    let in' : within 32 126 (get_or s l.b-index 0) ≡ true = sym c.is_within.ensures ∙ c.if-not-is_within.false in
    (rw (drop_step s l.b-index (omega arith), in') at l.invariant.0, omega (arith, sum_step s l.b-index (omega arith)))

pub returns : goal.returns
unfolding every checksum_of
returns c =
    let l = c.loop-b in
    let s = c.args.s.now in
    stop _ _ _ _ (sym (rw (drop_of_length-le s {i = l.b-index} (omega arith)) at l.invariant.0)) (ap Some (omega (arith, sum_end s l.b-index (omega arith))))
