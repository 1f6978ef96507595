-- Document 01, the column "Data": values within the limits.
use Rattle.std.specs.Prelude.{◌≡◌, true, false, ◌≤◌, length}
use Rattle.buffer.specs.Byte.{every}
use Rattle.decimal.specs.Number.{below_of}
use Rattle.decimal.specs.declared.Number.{Number}
use Rattle.decimal_facts.specs.Canonical.{Canonical}
use Rattle.sources.specs.Source.{known_sources, among, capacity}
use Rattle.settings.specs.Limits.{ProfileLimits, standard}
use Rattle.settings.specs.Settings.{Held}
use Rattle.settings.specs.declared.Key.{Key}
use Rattle.settings.specs.declared.Key.TheVariants.{DA, DU, C1, CM, CC, FC, ST, SM}
use Rattle.settings.specs.declared.Transition.TheVariants.{Direct, Between}
use Rattle.settings.specs.declared.Setting.{Setting}
use Rattle.settings.specs.declared.Setting.TheVariants.{Address, PressureIn, Factor, Control, Cathode, Filament, Switch, Stream}
use Rattle.forms_facts.specs.Codes.{GoodList}

-- a number of ST within the profile's limits ("each 1 to 20"; on VSH and VSM from 4E-4 on), and one of the decimal form
pub record InLimits (limits : ProfileLimits) (n : Number) : Type 0 where
  pub canonical : Canonical n
  pub low : below_of n limits.transition_low ≡ false
  pub high : below_of limits.transition_high n ≡ false

-- a setting within the limits of its column "Data"; the form with F is the profile's, and
-- "ST's F must lie strictly below T"
abbrev pub Sound : ProfileLimits → Setting → Type 0
Sound limits (Address v) = (standard.address_low ≤ v) × (v ≤ standard.address_high)
Sound limits (PressureIn u) = Unit {0}
Sound limits (Factor h) = (standard.factor_low ≤ h) × (h ≤ standard.factor_high)
Sound limits (Control d) = d ≤ standard.control_high
Sound limits (Cathode d) = d ≤ standard.cathode_high
Sound limits (Filament d) = d ≤ standard.filament_high
Sound limits (Switch (Direct n)) = InLimits limits n
Sound limits (Switch (Between a b)) = (limits.between_form ≡ true) × InLimits limits a × InLimits limits b × (below_of a b ≡ true)
Sound limits (Stream on) = Unit {0}

-- settings within the limits, the list of sources too
pub record SoundSettings (limits : ProfileLimits) (s : Held) : Type 0 where
  pub address : Sound limits (Address s.address)
  pub factor : Sound limits (Factor s.factor)
  pub control : Sound limits (Control s.control)
  pub cathode : Sound limits (Cathode s.cathode)
  pub filament : Sound limits (Filament s.filament)
  pub transition : Sound limits (Switch s.transition)
  pub list : GoodList limits.source_codes s.list

-- limits that a gauge can have: `0`, which is always first on the line, is one of the sources, the others are document 01's, and each has a place
-- in a list; the factory transition is within the limits
pub record Proper (limits : ProfileLimits) : Type 0 where
  pub first : among limits.source_codes 0 ≡ true
  pub here : every (among known_sources) limits.source_codes ≡ true
  pub few : length limits.source_codes ≤ capacity
  pub factory : Sound limits (Switch limits.factory_transition)

-- the value that settings hold for a command
abbrev pub setting_in : Key → Held → Setting
setting_in DA s = Address s.address
setting_in DU s = PressureIn s.unit
setting_in C1 s = Factor s.factor
setting_in CM s = Control s.control
setting_in CC s = Cathode s.cathode
setting_in FC s = Filament s.filament
setting_in ST s = Switch s.transition
setting_in SM s = Stream s.streaming
