-- Sound states: limits that a gauge can have, settings within them, ST's F strictly below T, readings as the bench can set them.
use Rattle.readings_facts.specs.Sound.{SoundReadings}
use Rattle.forms_facts.specs.Sound.{SoundSettings, Proper}
use Rattle.gauge_rules.specs.State.{State}

pub record SoundState (g : State) : Type 0 where
  pub proper : Proper g.limits
  pub settings : SoundSettings g.limits g.settings
  pub readings : SoundReadings g.readings
