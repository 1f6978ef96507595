-- `frame_writer::put_end` meets its contract.
use mathlib.Core.Path.{sym}
use native.Mathlib.Omega.{arith}
use lib.ListN.{take, length-take}
use Rattle.buffer.proofs.Laws.{sets_out}
use Rattle.frames.specs.Checksum.{end_of}
use Rattle.frame_writer.proofs.put_end.Goals as goal

pub returns-then-out-at : goal.returns-then-out-at
returns-then-out-at c =
    let a = c.args in
    record { memory = sym (sets_out a.out.now a.at (end_of (take a.at a.out.now)) (omega arith)) }

pub slice_bounds-checksum-end-2 : goal.slice_bounds-checksum-end-2
slice_bounds-checksum-end-2 c = simp length-take (omega arith)

pub returns : goal.returns
unfolding end_of
returns c = rw c.checksum.ensures at c.put.ensures
