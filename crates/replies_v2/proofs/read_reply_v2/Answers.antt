-- `replies_v2::read_reply_v2` meets its contract.
use mathlib.Core.Path.{refl, sym, ap, ◌∙◌}
use Rattle.std.specs.Prelude.{Ok}
use Rattle.buffer.proofs.Rules.{past, stop, unflag, not_eqb, not_neqb}
use Rattle.replies_v2.proofs.Laws.{via_frame, at_frame, no_frame, refuses, from_body}
use Rattle.replies_v2.proofs.read_reply_v2.Goals as goal

pub returns-then-not-has_digit : goal.returns-then-not-has_digit
returns-then-not-has_digit c = refuses _ _ _ _ _ _ c.alone.ensures (no_frame _ _ _ _ (unflag _ _ _ c.has_digit.ensures c.if-not-has_digit.true))

pub returns-in-Err : goal.returns-in-Err
unfolding via_frame
returns-in-Err c = refuses _ _ _ _ _ _ c.alone-in-Err.ensures (at_frame _ _ _ _ _ (sym c.has_digit.ensures ∙ c.if-not-has_digit.false) (sym c.read_frame.ensures ∙ c.in-Err.is))

pub returns-in-Ok-V1 : goal.returns-in-Ok-V1
unfolding via_frame
returns-in-Ok-V1 c =
    let f = sym c.read_frame.ensures ∙ c.in-Ok-V1.is ∙ ap Ok c.in-Ok-V1.field-0-is in
    refuses _ _ _ _ _ _ c.alone-in-Ok-V1.ensures (at_frame _ _ _ _ _ (sym c.has_digit.ensures ∙ c.if-not-has_digit.false) f)

pub returns-then-head-address : goal.returns-then-head-address
unfolding via_frame
returns-then-head-address c =
    let f = sym c.read_frame.ensures ∙ c.in-Ok-Length.is ∙ ap Ok c.in-Ok-Length.field-0-is in
    refuses _ _ _ _ _ _ c.alone-then-head-address.ensures (stop _ _ _ _ (not_neqb _ _ c.if-head-address.true) refl ∙ at_frame _ _ _ _ _ (sym c.has_digit.ensures ∙ c.if-not-has_digit.false) f)

pub returns-else-head-address : goal.returns-else-head-address
unfolding via_frame
returns-else-head-address c =
    let f = sym c.read_frame.ensures ∙ c.in-Ok-Length.is ∙ ap Ok c.in-Ok-Length.field-0-is in
    refuses _ _ _ _ _ _ c.alone-in-Ok-Length.ensures (past _ _ _ _ (not_eqb _ _ c.if-head-address.false) refl ∙ at_frame _ _ _ _ _ (sym c.has_digit.ensures ∙ c.if-not-has_digit.false) f)

pub returns-then-head-address-2 : goal.returns-then-head-address-2
unfolding via_frame
returns-then-head-address-2 c =
    let f = sym c.read_frame.ensures ∙ c.in-Ok-V2.is ∙ ap Ok c.in-Ok-V2.field-0-is in
    refuses _ _ _ _ _ _ c.alone-then-head-address-2.ensures (stop _ _ _ _ (not_neqb _ _ c.if-head-address-2.true) refl ∙ at_frame _ _ _ _ _ (sym c.has_digit.ensures ∙ c.if-not-has_digit.false) f)

pub returns-else-head-address-2 : goal.returns-else-head-address-2
unfolding via_frame
returns-else-head-address-2 c =
    let f = sym c.read_frame.ensures ∙ c.in-Ok-V2.is ∙ ap Ok c.in-Ok-V2.field-0-is in
    from_body _ _ _ _ _ _ (rw c.data_v2.ensures at c.read_body.ensures) (past _ _ _ _ (not_eqb _ _ c.if-head-address-2.false) refl ∙ at_frame _ _ _ _ _ (sym c.has_digit.ensures ∙ c.if-not-has_digit.false) f)
