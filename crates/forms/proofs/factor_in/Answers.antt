-- `forms::factor_in` meets its contract.
use mathlib.Core.Path.{sym, ◌∙◌}
use Rattle.buffer.specs.First.{pick}
use Rattle.forms.specs.Forms.{factor_in}
use Rattle.forms.proofs.factor_in.Goals as goal

pub returns-in-Some : goal.returns-in-Some
unfolding factor_in pick
returns-in-Some c = rw (c.in-Some.is, sym c.is_factor.ensures ∙ c.if-is_factor.true)

pub returns-in_default : goal.returns-in_default
unfolding factor_in pick
returns-in_default c = rw (c.in-Some.is, sym c.is_factor.ensures ∙ c.if-is_factor.false)
