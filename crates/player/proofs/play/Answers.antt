-- `player::play` meets its contract: Sofar has the reasoning, this file the places of the facts.
use mathlib.Core.Path.{◌≡◌}
use native.Mathlib.Omega.{arith}
use Rattle.player.proofs.Sofar.{started, of_profile, first, next, full, stops}
use Rattle.player.proofs.play.Goals as goal

pub loop-i-init : goal.loop-i-init
loop-i-init c = first _ _ _ _ _ _ (started c.at_start-gauges.ensures.1 c.at_start-gauges.ensures.0)

pub returns-in_default : goal.returns-in_default
returns-in_default c = of_profile c.at_start-gauges.ensures.1 (stops c.loop-i.invariant c.in_default.ensures)

-- one call more
pub loop-i-preserved : goal.loop-i-preserved
loop-i-preserved c =
    let l = c.loop-i in
    next (omega arith) (omega arith) c.one.auto.memory l.invariant c.in-Some.ensures

pub returns : goal.returns
returns c =
    let all : c.loop-i.i ≡ c.min-places.result = omega arith in
    rw (← all) (of_profile c.at_start-gauges.ensures.1 (full c.loop-i.invariant (omega (arith, c.min-places.ensures))))
