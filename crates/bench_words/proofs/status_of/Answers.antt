-- `bench_words::status_of` meets its contract.
use mathlib.Core.Path.{◌≡◌, refl, sym, ◌∙◌}
use Prim.Native.Nat.{◌/◌, ◌%◌, ◌≤◌}
use native.Mathlib.Omega.{arith}
use borrow.Author.Tests.{lt-leb}
use Rattle.std.specs.Prelude.{None, Some}
use Rattle.buffer.proofs.Rules.{past, stop, not_eqb, not_neqb}
use Rattle.bench_words.proofs.Laws.{status_in, status_by, over_none, fits, fits_not}
use Rattle.bench_words.proofs.status_of.Goals as goal

pub returns-in_err-h : goal.returns-in_err-h
unfolding status_in
returns-in_err-h c =
    let by = status_by c.args.p c.in_ok-n.n None c.in_ok-n.ensures.value c.if-n.false (sym c.in_hundredths.ensures ∙ c.in_err-h.was) in
    c.from_residual-in_err-h.ensures ∙ sym by

pub returns-then-h-ne0 : goal.returns-then-h-ne0
unfolding status_in
returns-then-h-ne0 c =
    let h = c.in_ok-h.h in
    let by = status_by c.args.p c.in_ok-n.n (Some h) c.in_ok-n.ensures.value c.if-n.false (sym c.in_hundredths.ensures ∙ c.in_ok-h.was) in
    rw by (stop _ _ _ _ (not_neqb (h % 100) 0 (λ (e : h % 100 ≡ 0). c.if-h-ne0.true (omega arith))) refl)

pub returns-in_err-status : goal.returns-in_err-status
returns-in_err-status c =
    let h = c.in_ok-h.h in
    let by = status_by c.args.p c.in_ok-n.n (Some h) c.in_ok-n.ensures.value c.if-n.false (sym c.in_hundredths.ensures ∙ c.in_ok-h.was) in
    let over : 25600 ≤ h = omega (arith, fits_not c.try_from.result (h / 100) c.try_from.ensures c.in_err-status.ensures.variant) in
    rw (c.from_residual-in_err-status.ensures, by, over_none h over)

pub returns : goal.returns
unfolding status_in
returns c =
    let h = c.in_ok-h.h in
    let by = status_by c.args.p c.in_ok-n.n (Some h) c.in_ok-n.ensures.value c.if-n.false (sym c.in_hundredths.ensures ∙ c.in_ok-h.was) in
    let w = fits c.try_from.result (h / 100) c.in_ok-status.status c.try_from.ensures c.in_ok-status.ensures.value in
    rw (by, w.1) (past _ _ _ _ (not_eqb _ _ c.if-h-ne0.false) (past _ _ _ _ (lt-leb 25600 h (omega (arith, w.0))) refl))
