-- `replies_v1::read_pressure` meets its contract.
use mathlib.Core.Path.{◌≡◌, sym, ◌∙◌}
use mathlib.Core.Bool.{true}
use mathlib.Core.Logic.{inl, inr}
use Rattle.buffer.specs.First.{pick}
use Rattle.buffer.proofs.Laws.{within_in, within_below, within_above}
use Rattle.requests.specs.AskV1.{six_digits}
use Rattle.replies_v1.proofs.Laws.{exponent_left}
use native.Mathlib.Omega.{arith}
use Rattle.replies_v1.proofs.read_pressure.Goals as goal

pub returns-then-exponent-lt11 : goal.returns-then-exponent-lt11
unfolding pick
returns-then-exponent-lt11 c =
    let six : six_digits c.args.d.now ≡ true = sym c.has_six_digits.ensures ∙ c.if-not-has_six_digits.false in
    rw (exponent_left c.args.d.now _ _ six c.numeral_of-mantissa.ensures (rw c.rest.ensures at c.numeral_of-exponent.ensures) (omega arith))
    (elim c.then-exponent-lt11.either [ inl h ↦ rw (within_below 11 30 _ h) | inr h ↦ rw (within_above 11 30 _ h.1) ])

pub returns : goal.returns
unfolding pick
returns c =
    let six : six_digits c.args.d.now ≡ true = sym c.has_six_digits.ensures ∙ c.if-not-has_six_digits.false in
    rw (exponent_left c.args.d.now _ _ six c.numeral_of-mantissa.ensures (rw c.rest.ensures at c.numeral_of-exponent.ensures) (omega arith))
    (rw (within_in 11 30 c.numeral_of-exponent.result c.if-exponent-lt11.false c.if-exponent-gt30.false))
