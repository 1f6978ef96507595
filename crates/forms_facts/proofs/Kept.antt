-- Settings stay within the limits: at factory, and after what is accepted.
use mathlib.Core.List.{List, []}
use Prim.Native.Nat.{ℕ}
use native.Mathlib.Omega.{arith}
use Rattle.settings.specs.Limits.{ProfileLimits}
use Rattle.settings.specs.Settings.{Held, factory_of, put_of, restore_of}
use Rattle.settings.specs.declared.Key.{Key}
use Rattle.settings.specs.declared.Key.TheVariants.{DA, DU, C1, CM, CC, FC, ST, SM}
use Rattle.settings.specs.declared.Setting.{Setting}
use Rattle.settings.specs.declared.Setting.TheVariants.{Address, PressureIn, Factor, Control, Cathode, Filament, Switch, Stream}
use Rattle.forms.specs.Judged.{list_in}
use Rattle.forms_facts.specs.Codes.{GoodList}
use Rattle.forms_facts.specs.Sound.{Sound, SoundSettings, Proper}
use Rattle.forms_facts.proofs.Within.{accepted_sound, accepted_list}
use Rattle.forms_facts.proofs.Lemmas.Lists.{none_good}
use Rattle.forms_facts.specs.Theorems.{FactorySound, WriteSound, RestoreSound}

-- a gauge starts within the limits
pub factory_sound : FactorySound
factory_sound limits ok =
    record {
      address = (omega arith, omega arith);
      factor = (omega arith, omega arith);
      control = omega arith;
      cathode = omega arith;
      filament = omega arith;
      transition = ok.factory;
      list = none_good limits.source_codes;
    }

-- one setting set to what is sound
pub put_sound : (limits : ProfileLimits) (s : Held) (x : Setting) (list : List ℕ) → SoundSettings limits s → Sound limits x → GoodList limits.source_codes list → SoundSettings limits (put_of s x list)
unfolding put_of
put_sound limits s (Address v) list f h k = record { address = h; factor = f.factor; control = f.control; cathode = f.cathode; filament = f.filament; transition = f.transition; list = f.list }
put_sound limits s (PressureIn v) list f h k = record { address = f.address; factor = f.factor; control = f.control; cathode = f.cathode; filament = f.filament; transition = f.transition; list = f.list }
put_sound limits s (Factor v) list f h k = record { address = f.address; factor = h; control = f.control; cathode = f.cathode; filament = f.filament; transition = f.transition; list = f.list }
put_sound limits s (Control v) list f h k = record { address = f.address; factor = f.factor; control = h; cathode = f.cathode; filament = f.filament; transition = f.transition; list = f.list }
put_sound limits s (Cathode v) list f h k = record { address = f.address; factor = f.factor; control = f.control; cathode = h; filament = f.filament; transition = f.transition; list = f.list }
put_sound limits s (Filament v) list f h k = record { address = f.address; factor = f.factor; control = f.control; cathode = f.cathode; filament = h; transition = f.transition; list = f.list }
put_sound limits s (Switch v) list f h k = record { address = f.address; factor = f.factor; control = f.control; cathode = f.cathode; filament = f.filament; transition = h; list = f.list }
put_sound limits s (Stream v) list f h k = record { address = f.address; factor = f.factor; control = f.control; cathode = f.cathode; filament = f.filament; transition = f.transition; list = k }

-- an accepted write keeps them there
pub write_sound : WriteSound
write_sound limits key t x s f e = put_sound limits s x (list_in limits key t) f (accepted_sound limits key t x e) (accepted_list limits key t)

factory_value : (limits : ProfileLimits) → Proper limits → (key : Key) → Sound limits (factory_of limits key)
unfolding factory_of
factory_value limits ok DA = (factory_sound limits ok).address
factory_value limits ok DU = tt
factory_value limits ok C1 = (factory_sound limits ok).factor
factory_value limits ok CM = (factory_sound limits ok).control
factory_value limits ok CC = (factory_sound limits ok).cathode
factory_value limits ok FC = (factory_sound limits ok).filament
factory_value limits ok ST = (factory_sound limits ok).transition
factory_value limits ok SM = tt

-- and so does a restore
pub restore_sound : RestoreSound
unfolding restore_of
restore_sound limits ok key s f = put_sound limits s (factory_of limits key) [] f (factory_value limits ok key) (none_good limits.source_codes)
