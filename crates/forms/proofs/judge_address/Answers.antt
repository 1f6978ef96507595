-- `forms::judge_address` meets its contract.
use mathlib.Core.Path.{◌≡◌, sym, ap, ◌∙◌}
use native.Mathlib.Omega.{arith}
use borrow.Author.Tests.{eq-eqb}
use Rattle.buffer.specs.First.{pick}
use lib.ListN.{length, take}
use lib.Seq.{take_all}
use Prim.Native.Nat.{ℕ}
use mathlib.Core.List.{List}
use Rattle.buffer.specs.Byte.{numeral}
use Rattle.buffer.proofs.Laws.{within_true}
use Rattle.forms.specs.Forms.{address_data}
use Rattle.forms.proofs.judge_address.Goals as goal

-- three characters are all that is read
three : (s : List ℕ) {n : ℕ} → n ≡ numeral (take 6 s) → length s ≡ 3 → numeral s ≡ n
three s e h = ap numeral (sym (take_all 6 s (omega arith))) ∙ sym e

pub returns-then-not-is_address : goal.returns-then-not-is_address
unfolding address_data pick
returns-then-not-is_address c =
    rw (eq-eqb _ 3 c.if-s-ne3.false, sym c.all_within.ensures ∙ c.if-not-all_within.false, three c.args.s.now c.numeral_of-n.ensures c.if-s-ne3.false, sym c.is_address.ensures ∙ c.if-not-is_address.true)

pub overflow_cast-result : goal.overflow_cast-result
overflow_cast-result c = record { fits = omega (arith, within_true 1 16 c.numeral_of-n.result (sym c.is_address.ensures ∙ c.if-not-is_address.false)) }

pub returns : goal.returns
unfolding address_data pick
returns c =
    rw (eq-eqb _ 3 c.if-s-ne3.false, sym c.all_within.ensures ∙ c.if-not-all_within.false, three c.args.s.now c.numeral_of-n.ensures c.if-s-ne3.false, sym c.is_address.ensures ∙ c.if-not-is_address.false)
