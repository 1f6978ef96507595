-- `opg_request_writer::write_request` meets its contract.
use mathlib.Core.Path.{◌≡◌, sym, ◌∙◌}
use mathlib.Core.List.{List}
use Prim.Native.Nat.{ℕ, ◌≤◌}
use native.Mathlib.Omega.{arith}
use lib.ListN.{length, length-take}
use Rattle.buffer.proofs.Laws.{refuses}
use Rattle.opg_frames.specs.Number.{refusal_number, error_byte}
use Rattle.opg_commands.specs.declared.Request.{Request}
use Rattle.opg_request_writer.specs.Inner.{request_count, request_bytes}
use Rattle.opg_request_writer.proofs.Laws.{data_is, count_le, no_room, outside, sent}
use Rattle.opg_request_writer.proofs.write_request.Goals as goal

-- the data are a part of the bytes
part : (r : Request) (n : ℕ) (bytes : List ℕ) → n ≡ request_count r → bytes ≡ request_bytes r → n ≤ length bytes
part r n bytes h k = rw (h, k) (count_le r)

pub returns-then-out-lt32 : goal.returns-then-out-lt32
unfolding refusal_number
returns-then-out-lt32 c = rw c.answer.ensures (refuses _ 21 (no_room _ _ c.if-out-lt32.true))

pub returns-then-is_outside : goal.returns-then-is_outside
unfolding error_byte
returns-then-is_outside c = rw c.number.ensures (refuses _ 1002 (outside _ _ c.if-out-lt32.false (sym c.is_outside.ensures ∙ c.if-is_outside.true)))

pub slice_bounds-bytes-end : goal.slice_bounds-bytes-end
slice_bounds-bytes-end c = part c.args.r _ _ c.request_count-n.ensures c.request_bytes-bytes.ensures

pub slice_bounds-write_request_frame-end : goal.slice_bounds-write_request_frame-end
slice_bounds-write_request_frame-end c =
    let n = part c.args.r _ _ c.request_count-n.ensures c.request_bytes-bytes.ensures in
    simp length-take (omega (arith, n))

pub returns : goal.returns
returns c =
    let a = c.args in
    rw (sent (length a.out.now) a.r c.if-out-lt32.false (sym c.is_outside.ensures ∙ c.if-is_outside.false))
    (rw (c.pid.ensures, c.cmd.ensures, c.request_count-n.ensures, c.request_bytes-bytes.ensures, data_is a.r)
    at c.write_request_frame.ensures)
