-- `opg_frame_writer::put_crc` meets its contract.
use mathlib.Core.Path.{sym}
use native.Mathlib.Omega.{arith}
use lib.ListN.{take}
use Rattle.buffer.proofs.Laws.{sets_out}
use Rattle.opg_frames.specs.Frame.{crc_bytes}
use Rattle.opg_frame_writer.proofs.put_crc.Goals as goal

pub returns-then-out-at : goal.returns-then-out-at
returns-then-out-at c =
    let a = c.args in
    record { memory = sym (sets_out a.out.now a.at (crc_bytes (take a.at a.out.now)) (omega arith)) }
