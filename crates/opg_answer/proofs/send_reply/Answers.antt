-- `opg_answer::send_reply` meets its contract.
use mathlib.Core.Path.{◌≡◌}
use mathlib.Core.List.{List}
use Prim.Native.Nat.{ℕ, ◌≤◌}
use native.Mathlib.Omega.{arith}
use lib.ListN.{length, length-take}
use Rattle.opg_commands.specs.Request.{reply_count}
use Rattle.opg_commands.specs.declared.Request.{Request}
use Rattle.opg_gauge.specs.declared.Gauge.{Gauge}
use Rattle.opg_answer.specs.Inner.{reply_bytes, sent_reply}
use Rattle.opg_answer.proofs.Laws.{data_is, count_le, bytes_four}
use Rattle.opg_answer.proofs.send_reply.Goals as goal

-- the data are a part of the bytes
part : (g : Gauge) (r : Request) (n : ℕ) (bytes : List ℕ) → n ≡ reply_count r → bytes ≡ reply_bytes g r → n ≤ length bytes
part g r n bytes h k = rw (h, k, bytes_four g r) (count_le g r)

pub slice_bounds-bytes-end : goal.slice_bounds-bytes-end
slice_bounds-bytes-end c = part c.args.g c.args.r _ _ c.reply_count-n.ensures c.reply_bytes-bytes.ensures

pub slice_bounds-write_reply_frame-end : goal.slice_bounds-write_reply_frame-end
slice_bounds-write_reply_frame-end c =
    let n = part c.args.g c.args.r _ _ c.reply_count-n.ensures c.reply_bytes-bytes.ensures in
    simp length-take (omega (arith, n))

pub returns : goal.returns
unfolding sent_reply
returns c =
    rw (c.pid.ensures, c.reply_cmd.ensures, c.reply_count-n.ensures, c.reply_bytes-bytes.ensures, data_is c.args.g c.args.r)
    at c.write_reply_frame.ensures
