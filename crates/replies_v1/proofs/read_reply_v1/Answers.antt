-- `replies_v1::read_reply_v1` meets its contract.
use mathlib.Core.Path.{◌≡◌, sym, ap, ◌∙◌}
use mathlib.Core.Bool.{true}
use mathlib.Core.Logic.{inl, inr}
use Rattle.std.specs.Prelude.{Err, Ok}
use Rattle.std.proofs.lemmas.Result.{err_from_is_err_and}
use Rattle.buffer.specs.Byte.{at}
use Rattle.frames.specs.Frame.{is_letter}
use Rattle.frames.specs.declared.Frame.TheVariants.{V1, Length, V2}
use Rattle.replies_v1.specs.Inner.{via_frame}
use Rattle.replies_v1.proofs.Laws.{at_frame}
use Rattle.replies_v1.proofs.read_reply_v1.Goals as goal

pub returns-in_err-head : goal.returns-in_err-head
unfolding via_frame
returns-in_err-head c =
    let letter : is_letter (at c.args.s.now 3) ≡ true = sym c.has_letter.ensures ∙ c.if-not-has_letter.false in
    let p = err_from_is_err_and c.from_residual.result c.from_residual.ensures.1 in
    rw (p.1, p.2) (at_frame _ _ _ (Err _) letter c.in_err-head.ensures)

pub returns-in-V1 : goal.returns-in-V1
unfolding via_frame
returns-in-V1 c =
    let letter : is_letter (at c.args.s.now 3) ≡ true = sym c.has_letter.ensures ∙ c.if-not-has_letter.false in
    c.read_body.ensures ∙ at_frame _ _ _ (Ok (V1 _)) letter (sym (ap Ok c.in-V1.is) ∙ c.in_ok-head.ensures)

pub returns-in-Length : goal.returns-in-Length
unfolding via_frame
returns-in-Length c =
    let letter : is_letter (at c.args.s.now 3) ≡ true = sym c.has_letter.ensures ∙ c.if-not-has_letter.false in
    elim c.in-Length.is [
      | inl p ↦ at_frame _ _ _ (Ok (Length p.0)) letter (sym (ap Ok p.1) ∙ c.in_ok-head.ensures)
      | inr p ↦ at_frame _ _ _ (Ok (V2 p.0)) letter (sym (ap Ok p.1) ∙ c.in_ok-head.ensures)
    ]
