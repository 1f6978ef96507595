-- `replies_v2::read_body` meets its contract.
use mathlib.Core.Path.{refl, ◌∙◌}
use native.Mathlib.Omega.{arith}
use borrow.Author.Tests.{eq-eqb, ne_eqb}
use Rattle.std.specs.Prelude.{Err}
use Rattle.buffer.proofs.Rules.{past, stop, flag}
use Rattle.replies_v2.specs.ReplyV2.{error_reply, beside, body_reply}
use Rattle.replies_v2.proofs.Laws.{alone, from_data, beside_error}
use Rattle.replies_v2.proofs.read_body.Goals as goal
use Rattle.refusals.specs.declared.Refusal.{Refusal}

pub returns-then-is_mismatched : goal.returns-then-is_mismatched
unfolding body_reply beside
returns-then-is_mismatched c = alone _ _ _ _ _ (Err Refusal.Mismatch) c.alone.ensures (stop _ _ _ _ (flag _ _ _ c.is_mismatched.ensures c.if-is_mismatched.true) refl) refl

pub returns-then-head-eq55 : goal.returns-then-head-eq55
unfolding body_reply beside
returns-then-head-eq55 c = alone _ _ _ _ _ (error_reply c.args.s.now) (rw (← c.read_error.ensures) c.alone-then-head-eq55.ensures) (past _ _ _ _ (flag _ _ _ c.is_mismatched.ensures c.if-is_mismatched.false) (stop _ _ _ _ (eq-eqb _ 55 c.if-head-eq55.true) refl)) (beside_error c.args.s.now _)

pub returns : goal.returns
unfolding body_reply beside
returns c = from_data _ _ _ _ _ c.read_data.ensures (past _ _ _ _ (flag _ _ _ c.is_mismatched.ensures c.if-is_mismatched.false) (past _ _ _ _ (ne_eqb c.args.head.access 55 (λ e. omega arith)) refl))
