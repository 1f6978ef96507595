-- `player::play` meets its contract: Sofar has the reasoning, this file the places of the facts.
use Rattle.player.proofs.Sofar.{Sofar}
use Rattle.player.proofs.play.Given as goal

abbrev pub invariant-loop-i : goal.invariant-loop-i
invariant-loop-i l = Sofar l.initial.gauges.text.profile l.script l.initial.memory l.initial.numbers l.initial.lens l.gauges l.at l.used l.i l.memory l.numbers l.lens
