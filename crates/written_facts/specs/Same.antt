-- Document 01, "The master's side": "Numbers are the same by value, and the list counts for an SM write only."
use Rattle.std.specs.Prelude.{◌≡◌, true, List, ℕ}
use Rattle.decimal.specs.Number.{same_value}
use Rattle.decimal.specs.declared.Number.{Number}
use Rattle.settings.specs.declared.Transition.{Transition}
use Rattle.settings.specs.declared.Transition.TheVariants.{Direct, Between}
use Rattle.settings.specs.declared.Setting.{Setting}
use Rattle.settings.specs.declared.Setting.TheVariants.{Address, PressureIn, Factor, Control, Cathode, Filament, Switch, Stream}
use Rattle.requests.specs.declared.RequestV2.{RequestV2}
use Rattle.requests.specs.declared.RequestV2.TheVariants.{Read, Restore, Set}

abbrev pub SameNumber : Number → Number → Type 0
SameNumber a b = same_value a b ≡ true

abbrev pub SameTransition : Transition → Transition → Type 0
SameTransition (Direct a) (Direct b) = SameNumber a b
SameTransition (Direct a) (Between c d) = ⊥
SameTransition (Between a b) (Direct c) = ⊥
SameTransition (Between a b) (Between c d) = SameNumber a c × SameNumber b d

abbrev pub SameSwitch : Transition → Setting → Type 0
SameSwitch t (Switch u) = SameTransition t u
SameSwitch t (Address v) = ⊥
SameSwitch t (PressureIn v) = ⊥
SameSwitch t (Factor v) = ⊥
SameSwitch t (Control v) = ⊥
SameSwitch t (Cathode v) = ⊥
SameSwitch t (Filament v) = ⊥
SameSwitch t (Stream v) = ⊥

-- equality, but for the numbers of ST
abbrev pub SameSetting : Setting → Setting → Type 0
SameSetting (Address v) y = Address v ≡ y
SameSetting (PressureIn v) y = PressureIn v ≡ y
SameSetting (Factor v) y = Factor v ≡ y
SameSetting (Control v) y = Control v ≡ y
SameSetting (Cathode v) y = Cathode v ≡ y
SameSetting (Filament v) y = Filament v ≡ y
SameSetting (Switch t) y = SameSwitch t y
SameSetting (Stream on) y = Stream on ≡ y

abbrev pub SameV2 : RequestV2 → RequestV2 → Type 0
SameV2 (Read c) s = Read c ≡ s
SameV2 (Restore c) s = Restore c ≡ s
SameV2 (Set x) (Set y) = SameSetting x y
SameV2 (Set x) (Read c) = ⊥
SameV2 (Set x) (Restore c) = ⊥

-- the list counts for a write of SM
abbrev pub SameList : RequestV2 → List ℕ → List ℕ → Type 0
SameList (Set (Stream on)) a b = a ≡ b
SameList (Set (Address v)) a b = Unit {0}
SameList (Set (PressureIn v)) a b = Unit {0}
SameList (Set (Factor v)) a b = Unit {0}
SameList (Set (Control v)) a b = Unit {0}
SameList (Set (Cathode v)) a b = Unit {0}
SameList (Set (Filament v)) a b = Unit {0}
SameList (Set (Switch v)) a b = Unit {0}
SameList (Read c) a b = Unit {0}
SameList (Restore c) a b = Unit {0}
