-- `request_writer::write_request_v1` meets its contract.
use mathlib.Core.Path.{refl, sym, ◌∙◌}
use native.Mathlib.Omega.{arith}
use Rattle.buffer.proofs.Laws.{refuses}
use Rattle.frame_writer.proofs.Laws as writer
use Rattle.frames_facts.proofs.Accepted.{sendable_exactly_v1}
use Rattle.printed_facts.proofs.Sendable.{data_v1_le, request_sendable_v1}
use Rattle.request_writer.specs.Written.{sent_v1}
use Rattle.request_writer.proofs.Laws.{lent_is, written_is_v1}
use Rattle.request_writer.proofs.write_request_v1.Goals as goal

pub returns-in-Err : goal.returns-in-Err
unfolding sent_v1
returns-in-Err c = rw (written_is_v1 _ _ _, sym c.formed_v1.ensures ∙ c.in-Err.is, c.refused.ensures) (refuses _ _ refl)

pub returns-in-Ok : goal.returns-in-Ok
unfolding sent_v1
returns-in-Ok c =
    let r = c.in-Ok.r in
    let f = sym c.formed_v1.ensures ∙ c.in-Ok.is in
    let l = lent_is _ _ _ _ f in
    let ok = (sendable_exactly_v1 _ _).0 (request_sendable_v1 c.args.address r l.1) in
    rw (written_is_v1 _ _ _, f)
    (writer.sent_v1 _ _ _ _ _ (omega (arith, l.0, data_v1_le r)) ok.0 l.1 (rw (c.data_v1.ensures, c.letter_v1-letter.ensures) at c.write_text.ensures.sent))
