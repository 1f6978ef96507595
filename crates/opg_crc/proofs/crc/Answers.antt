-- `opg_crc::crc` meets its contract. The invariant: the CRC of what is left, from the number so far, is the whole CRC.
use mathlib.Core.Path.{refl, sym, ◌∙◌}
use native.Mathlib.Omega.{arith}
use Rattle.opg_crc.specs.Crc.{crc_of}
use Rattle.opg_crc.proofs.Laws.{byte_lt, crc_step, crc_end}
use Rattle.opg_crc.proofs.crc.Goals as goal

pub loop-b-init : goal.loop-b-init
unfolding crc_of
loop-b-init c = (omega arith, refl)

pub loop-b-preserved : goal.loop-b-preserved
loop-b-preserved c =
    let l = c.loop-b in
    let s = c.args.s.now in (
      rw c.byte-c.ensures (byte_lt l.c _ l.invariant.0 (omega arith)),
      rw c.byte-c.ensures (sym (crc_step l.c s l.b-index (omega arith) l.invariant.0 (omega arith)) ∙ l.invariant.1),
    )

pub returns : goal.returns
returns c = let l = c.loop-b in sym (crc_end l.c c.args.s.now l.b-index (omega arith) l.invariant.0) ∙ l.invariant.1
