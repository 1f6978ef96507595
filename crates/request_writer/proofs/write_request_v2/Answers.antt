-- `request_writer::write_request_v2` meets its contract.
use mathlib.Core.Path.{refl, sym, ◌∙◌}
use native.Mathlib.Omega.{arith}
use Rattle.buffer.proofs.Laws.{refuses}
use Rattle.request_texts.specs.RequestText.{head_for}
use Rattle.frame_writer.proofs.Laws.{sent_v2_lem}
use Rattle.request_writer.specs.Written.{sent_v2}
use Rattle.request_writer.proofs.Laws.{carried_v2, lent_is, written_is_v2}
use Rattle.request_writer.proofs.write_request_v2.Goals as goal

pub returns-in-Err : goal.returns-in-Err
unfolding sent_v2
returns-in-Err c = rw (written_is_v2 _ _ _ _ _, sym c.formed_v2.ensures ∙ c.in-Err.is, c.refused.ensures) (refuses _ _ refl)

pub returns-in-Ok : goal.returns-in-Ok
unfolding sent_v2 head_for
returns-in-Ok c =
    let f = sym c.formed_v2.ensures ∙ c.in-Ok.is in
    let l = lent_is _ _ _ _ f in
    let w = c.write_text.ensures in
    let d = c.data_v2.ensures in
    rw (written_is_v2 _ _ _ _ _, f, ← d)
    (sent_v2_lem _ _ _ _ _ (omega (arith, l.0, w.text_len_bound)) (carried_v2 _ _ _ _ l.1 d (omega (arith, w.text_len_bound))) l.1 (rw c.head_for-head.ensures at w.sent))
