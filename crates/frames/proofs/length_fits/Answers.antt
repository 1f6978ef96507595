-- `frames::length_fits` meets its contract.
use Rattle.std.proofs.Common.{sym, ◌∙◌}
use native.Mathlib.Omega.{arith}
use borrow.Author.Tests.{ltb-false}
use Rattle.buffer.specs.Byte.{within}
use Rattle.frames.proofs.Laws.{in_low, out_low, as_v2, as_v1, as_other, too_short}
use Rattle.frames.proofs.length_fits.Goals as goal

pub returns-then-n-ge10 : goal.returns-then-n-ge10
unfolding within
returns-then-n-ge10 c = as_v2 c.args.s.now c.in-Some.b.now (c.in-Some.ensures.lookup.3.1 0) _ (sym c.is_ascii_digit.ensures.value ∙ c.if-is_ascii_digit.true) (in_low 10 109 _ c.if-n-ge10.true)

pub returns-else-n-ge10 : goal.returns-else-n-ge10
unfolding within
returns-else-n-ge10 c = as_v2 c.args.s.now c.in-Some.b.now (c.in-Some.ensures.lookup.3.1 0) _ (sym c.is_ascii_digit.ensures.value ∙ c.if-is_ascii_digit.true) (out_low 10 109 _ c.if-n-ge10.false)

pub returns-then-n-ge6 : goal.returns-then-n-ge6
unfolding within
returns-then-n-ge6 c = as_v1 c.args.s.now c.in-Some.b.now (c.in-Some.ensures.lookup.3.1 0) _ (sym c.is_ascii_digit.ensures.value ∙ c.if-is_ascii_digit.false) (sym c.is_letter.ensures ∙ c.if-is_letter.true) (in_low 6 12 _ c.if-n-ge6.true)

pub returns-else-n-ge6 : goal.returns-else-n-ge6
unfolding within
returns-else-n-ge6 c = as_v1 c.args.s.now c.in-Some.b.now (c.in-Some.ensures.lookup.3.1 0) _ (sym c.is_ascii_digit.ensures.value ∙ c.if-is_ascii_digit.false) (sym c.is_letter.ensures ∙ c.if-is_letter.true) (out_low 6 12 _ c.if-n-ge6.false)

pub returns-in_default : goal.returns-in_default
unfolding within
returns-in_default c = as_other c.args.s.now c.in-Some.b.now (c.in-Some.ensures.lookup.3.1 0) (sym c.is_ascii_digit.ensures.value ∙ c.if-is_ascii_digit.false) (sym c.is_letter.ensures ∙ c.if-is_letter.false)

pub returns-in_default-2 : goal.returns-in_default-2
returns-in_default-2 c = let e = rw c.in_default.is at c.get.ensures.lookup.0 in too_short c.args.s.now (omega (arith, ltb-false _ _ (sym e)))
