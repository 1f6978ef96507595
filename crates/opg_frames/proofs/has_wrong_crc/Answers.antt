-- `opg_frames::has_wrong_crc` meets its contract.
use mathlib.Core.Path.{◌≡◌, ap, sym}
use mathlib.Core.Bool.{not}
use Prim.Native.Nat.{◌-◌}
use native.Mathlib.Omega.{arith}
use lib.ListN.{length, drop, length-drop}
use Rattle.buffer.proofs.Laws.{same_lengths}
use Rattle.opg_frames.specs.Frame.{body, crc_bytes, wrong_crc}
use Rattle.opg_frames.proofs.has_wrong_crc.Goals as goal

-- fewer than two bytes are no CRC
pub returns-then-n-lt2 : goal.returns-then-n-lt2
unfolding crc_bytes wrong_crc
returns-then-n-lt2 c =
    let s = c.args.s.now in
    let end = drop (length s - 2) s in
    ap not (sym (same_lengths end (crc_bytes (body s)) (λ (e : length end ≡ 2). omega (arith, length-drop (length s - 2) s))))
