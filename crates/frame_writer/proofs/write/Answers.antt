-- `frame_writer::write` meets its contract. Each refusal by its tests; the head, the data and the end, one after the other.
use Rattle.std.proofs.Common.{◌≡◌, ℕ, ◌+◌, List, ◌++◌, not, length, take, sym, ap, ◌∙◌, arith, length-append}
use Rattle.refusals.specs.declared.Refusal.{Refusal}
use Rattle.buffer.proofs.Rules.{unflag}
use Rattle.buffer.proofs.Laws.{then, sends}
use Rattle.frames.specs.Checksum.{closed}
use Rattle.frame_writer.proofs.Laws.{length_closed, closes, refuses_by, no_room, no_frame, outside, written}
use Rattle.frame_writer.proofs.write.Goals as goal

frame_length : (start d : List ℕ) (k n : ℕ) → k ≡ n → length start ≡ n → length (closed (start ++ d)) ≡ k + length d + 2
frame_length start d k n e h = omega (arith, length_closed start d)

pub returns-then-out-k : goal.returns-then-out-k
returns-then-out-k g c =
    let h = c.args.head in
    let d = c.args.bytes.now in
    let m = c.args.out.now in
    let n = frame_length (g.H.Head.start h (length d)) d _ _ c.SIZE-k.ensures (g.met.H.Head.size_is h (length d)) in
    refuses_by m Refusal.Room _ (g.met.H.Head.written_is (length m) h d ∙ no_room _ _ _ _ (omega (arith, n))) c.refused.ensures.number c.refused.ensures.len

pub returns-then-not-carries : goal.returns-then-not-carries
returns-then-not-carries g c =
    let h = c.args.head in
    let d = c.args.bytes.now in
    let m = c.args.out.now in
    let n = frame_length (g.H.Head.start h (length d)) d _ _ c.SIZE-k.ensures (g.met.H.Head.size_is h (length d)) in
    let r = c.refused-then-not-carries.ensures in
    refuses_by m Refusal.Shape _ (g.met.H.Head.written_is (length m) h d ∙ no_frame _ _ _ _ (omega (arith, n)) (ap not (sym c.carries.ensures ∙ c.if-not-carries.true))) r.number r.len

pub returns-then-not-is_address : goal.returns-then-not-is_address
returns-then-not-is_address g c =
    let h = c.args.head in
    let d = c.args.bytes.now in
    let m = c.args.out.now in
    let n = frame_length (g.H.Head.start h (length d)) d _ _ c.SIZE-k.ensures (g.met.H.Head.size_is h (length d)) in
    let o = unflag _ _ _ (rw c.address.ensures at c.is_address.ensures) c.if-not-is_address.true in
    let r = c.refused-then-not-is_address.ensures in
    refuses_by m Refusal.Address _ (g.met.H.Head.written_is (length m) h d ∙ outside _ _ _ _ (omega (arith, n)) (ap not (sym c.carries.ensures ∙ c.if-not-carries.false)) o) r.number r.len

pub returns : goal.returns
returns g c =
    let d = c.args.bytes.now in
    let k = c.SIZE-k.result in
    let h = g.H.Head.start c.args.head (length d) in
    let n : length h ≡ k = g.met.H.Head.size_is c.args.head (length d) ∙ sym c.SIZE-k.ensures in
    let head : take k c.start-start.result ≡ h = rw c.SIZE-k.ensures c.start-start.ensures in
    let body = then k (rw head at c.put.ensures) (omega arith) c.put-2.ensures in
    rw (g.met.H.Head.written_is (length c.args.out.now) c.args.head d) (
    sends
    0
    (k + length d + 2)
    (
    written _ _ _ _ (rw length_closed (omega arith)) (ap not (sym c.carries.ensures ∙ c.if-not-carries.false))
    (unflag _ _ _ (rw c.address.ensures at c.is_address.ensures) c.if-not-is_address.false)
    )
    (closes (k + length d) body (rw length-append (omega arith)) (rw length-append (omega arith)) c.put_end.ensures)
    (rw length_closed (omega arith))
    (rw length_closed (omega arith))
    )
