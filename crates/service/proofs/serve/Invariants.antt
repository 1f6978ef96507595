-- `service::serve` meets its contract.
use Prim.Native.Nat.{◌-◌}
use lib.ListN.{length}
use Rattle.sources.specs.Source.{Counted}
use Rattle.service.proofs.Sofar.{Sofar, gauge}
use Rattle.service.proofs.serve.Given as goal

abbrev pub invariant-loop-out : goal.invariant-loop-out
invariant-loop-out l =
    Sofar (gauge l.g.profile l.initial.settings l.g.readings l.initial.unlocked) l.input l.initial.out (gauge l.g.profile l.settings l.g.readings l.unlocked) l.at l.used l.out × (Counted l.initial.settings.sources → Counted l.settings.sources)

abbrev pub decreases-loop-out : goal.decreases-loop-out
decreases-loop-out l = length l.input - l.at
