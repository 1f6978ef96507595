-- `opg_frame_writer::write_frame` meets its contract. Each refusal by its tests; the head, the data and the CRC, one after the other.
use mathlib.Core.Path.{sym}
use Prim.Native.Nat.{◌+◌}
use native.Mathlib.Omega.{arith}
use lib.ListN.{length}
use Rattle.buffer.proofs.Laws.{then, refuses, sends}
use Rattle.opg_frames.specs.Number.{refusal_number}
use Rattle.opg_frame_writer.specs.Written.{frame}
use Rattle.opg_frame_writer.proofs.Laws.{length_frame, seals, no_room, too_long, too_many, fits}
use Rattle.opg_frame_writer.proofs.write_frame.Goals as goal
use Rattle.opg_frame_writer.proofs.write_frame.Goals.{then-room-lt32-via-then-room-lt32, then-room-lt32-via-else-room-lt32+then-room-n}

pub returns-then-room-lt32 : goal.returns-then-room-lt32
unfolding refusal_number
returns-then-room-lt32 c =
    rw c.answer.ensures
    (refuses _ 21
    (elim c.then-room-lt32.branch [
      | then-room-lt32-via-then-room-lt32 w ↦ no_room _ _ _ _ (omega arith)
      | then-room-lt32-via-else-room-lt32+then-room-n w ↦ too_long _ _ _ _ (omega arith) (rw length_frame (omega arith))
    ]))

pub returns-then-n-gt65530 : goal.returns-then-n-gt65530
unfolding refusal_number
returns-then-n-gt65530 c = rw c.answer-then-n-gt65530.ensures (refuses _ 22 (too_many _ _ _ _ (omega arith) (rw length_frame (omega arith)) (omega arith)))

pub returns : goal.returns
unfolding frame
returns c =
    let a = c.args in
    let d = a.bytes.now in
    let head = rw (c.to_be_bytes.ensures, c.to_be_bytes-2.ensures) at c.put.ensures in
    let body = then 10 head (omega arith) c.put-2.ensures in
    let n = length_frame a.id a.header a.cmd a.pid d in
    sends
    a.number
    (length d + 12)
    (fits (length a.out.now) a.number d _ (rw n (omega arith)) (omega arith) (omega arith))
    (seals (length d + 10) body (omega arith) (omega arith) c.put_crc.ensures)
    (sym n)
    (rw n (omega arith))
