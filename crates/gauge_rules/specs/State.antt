-- What a text gauge holds.
use Rattle.std.specs.Prelude.{Bool, false}
use Rattle.settings.specs.Limits.{ProfileLimits, limits_of}
use Rattle.settings.specs.Settings.{Held, held, factory}
use Rattle.readings.specs.Reading.{start}
use Rattle.readings.specs.declared.Readings.{Readings}
use Rattle.gauge_rules.specs.declared.Gauge.{Gauge}

-- the limits of its profile, "chosen when the gauge is made and fixed after that"; "one set of settings"; the readings and FS, which "no request
-- changes"; and the unlock, which is no setting
pub record State : Type 0 where
  pub limits : ProfileLimits
  pub settings : Held
  pub readings : Readings
  pub unlocked : Bool

abbrev pub state_of : Gauge → State
state_of g = record { limits = limits_of g.profile; settings = held g.settings; readings = g.readings; unlocked = g.unlocked }

-- the state with these settings, with these readings, and unlocked or locked: nothing else changes
abbrev pub settled : State → Held → State
settled g h = record { limits = g.limits; settings = h; readings = g.readings; unlocked = g.unlocked }

abbrev pub measured : State → Readings → State
measured g r = record { limits = g.limits; settings = g.settings; readings = r; unlocked = g.unlocked }

abbrev pub unlocked_as : State → Bool → State
unlocked_as g u = record { limits = g.limits; settings = g.settings; readings = g.readings; unlocked = u }

-- "It starts with factory values and the bench's start, a text gauge's also locked."
abbrev pub fresh : ProfileLimits → State
fresh limits = record { limits = limits; settings = factory limits; readings = start; unlocked = false }
