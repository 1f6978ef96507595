-- `service::keep` meets its contract.
use native.Mathlib.Omega.{arith}
use Rattle.service.proofs.Kept.{none_kept, moved}
use Rattle.service.proofs.keep.Goals as goal

pub returns-then-end-from : goal.returns-then-end-from
returns-then-end-from c =
    let x = c.args in
    record { keeps = none_kept x.buf.now x.from x.to (omega (arith, c.min-end.ensures)); upper_bound = omega arith }

pub returns : goal.returns
returns c =
    let x = c.args in
    record { keeps = moved x.buf.now _ x.from x.to _ (rw c.min-end.ensures at c.min-n.ensures) c.copy_within.ensures.after; upper_bound = omega (arith, c.min-n.ensures) }
