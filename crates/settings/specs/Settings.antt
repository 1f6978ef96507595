-- The settings: what they hold, factory values, and what a write or a restore changes.
use Rattle.std.specs.Prelude.{Bool, false, List, [], ℕ, None, Option, Some}
use Rattle.sources.specs.Source.{list_of}
use Rattle.settings.specs.Limits.{ProfileLimits}
use Rattle.settings.specs.declared.PressureUnit.{PressureUnit}
use Rattle.settings.specs.declared.PressureUnit.TheVariants.{Mbar}
use Rattle.settings.specs.declared.Transition.{Transition}
use Rattle.settings.specs.declared.Key.{Key}
use Rattle.settings.specs.declared.Key.TheVariants.{DA, DU, C1, CM, CC, FC, ST, SM}
use Rattle.settings.specs.declared.Setting.{Setting}
use Rattle.settings.specs.declared.Setting.TheVariants.{Address, PressureIn, Factor, Control, Cathode, Filament, Switch, Stream}
use Rattle.settings.specs.declared.Settings.{Settings}

-- what settings hold, the sources as a list; the list counts while lines are sent
pub record Held : Type 0 where
  pub address : ℕ
  pub unit : PressureUnit
  pub factor : ℕ
  pub control : ℕ
  pub cathode : ℕ
  pub filament : ℕ
  pub transition : Transition
  pub streaming : Bool
  pub list : List ℕ

abbrev pub held : Settings → Held
held s = record { address = s.address; unit = s.unit; factor = s.factor; control = s.control; cathode = s.cathode; filament = s.filament; transition = s.transition; streaming = s.streaming; list = list_of s.sources }

-- the column "Factory", with the profile's transition
abbrev pub factory : ProfileLimits → Held
factory limits = record { address = 1; unit = Mbar; factor = 100; control = 1; cathode = 1; filament = 0; transition = limits.factory_transition; streaming = false; list = [] }

-- the command of a setting
abbrev pub key_of : Setting → Key
key_of (Address v) = DA
key_of (PressureIn u) = DU
key_of (Factor h) = C1
key_of (Control d) = CM
key_of (Cathode d) = CC
key_of (Filament d) = FC
key_of (Switch t) = ST
key_of (Stream on) = SM

-- the factory value of one setting
unfoldable pub factory_of : ProfileLimits → Key → Setting
factory_of limits DA = Address (factory limits).address
factory_of limits DU = PressureIn (factory limits).unit
factory_of limits C1 = Factor (factory limits).factor
factory_of limits CM = Control (factory limits).control
factory_of limits CC = Cathode (factory limits).cathode
factory_of limits FC = Filament (factory limits).filament
factory_of limits ST = Switch (factory limits).transition
factory_of limits SM = Stream (factory limits).streaming

-- the settings with this unit and this transition
abbrev pub both_of : Held → PressureUnit → Transition → Held
both_of s u t = record { address = s.address; unit = u; factor = s.factor; control = s.control; cathode = s.cathode; filament = s.filament; transition = t; streaming = s.streaming; list = s.list }

-- the settings with one of them set, and no other changed; the list counts for SM only
unfoldable pub put_of : Held → Setting → List ℕ → Held
put_of s (Address v) list = record { address = v; unit = s.unit; factor = s.factor; control = s.control; cathode = s.cathode; filament = s.filament; transition = s.transition; streaming = s.streaming; list = s.list }
put_of s (PressureIn v) list = both_of s v s.transition
put_of s (Factor v) list = record { address = s.address; unit = s.unit; factor = v; control = s.control; cathode = s.cathode; filament = s.filament; transition = s.transition; streaming = s.streaming; list = s.list }
put_of s (Control v) list = record { address = s.address; unit = s.unit; factor = s.factor; control = v; cathode = s.cathode; filament = s.filament; transition = s.transition; streaming = s.streaming; list = s.list }
put_of s (Cathode v) list = record { address = s.address; unit = s.unit; factor = s.factor; control = s.control; cathode = v; filament = s.filament; transition = s.transition; streaming = s.streaming; list = s.list }
put_of s (Filament v) list = record { address = s.address; unit = s.unit; factor = s.factor; control = s.control; cathode = s.cathode; filament = v; transition = s.transition; streaming = s.streaming; list = s.list }
put_of s (Switch v) list = both_of s s.unit v
put_of s (Stream v) list = record { address = s.address; unit = s.unit; factor = s.factor; control = s.control; cathode = s.cathode; filament = s.filament; transition = s.transition; streaming = v; list = list }

-- the settings with one of them at its factory value
unfoldable pub restore_of : ProfileLimits → Held → Key → Held
restore_of limits s key = put_of s (factory_of limits key) []

-- the settings after a change: as they were, or with one of them set
unfoldable pub changed_by : Held → Option Setting → List ℕ → Held
changed_by s None list = s
changed_by s (Some x) list = put_of s x list
