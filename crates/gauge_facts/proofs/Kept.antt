-- Every state that calls reach is sound: settings within the limits, ST's F strictly below T, readings as the bench can set them.
use mathlib.Core.Path.{◌≡◌, refl}
use mathlib.Core.Bool.{true, false}
use mathlib.Core.List.{List}
use Prim.Native.Nat.{ℕ}
use borrow.Author.Tests.{eqb-true}
use lib.Dec.{eqb}
use Rattle.std.specs.Prelude.{None, Option, Some}
use Rattle.frames.specs.Frame.{data_from, head_v2}
use Rattle.settings.specs.declared.Transition.TheVariants.{Between}
use Rattle.settings.specs.declared.Setting.TheVariants.{Switch}
use Rattle.settings.specs.Limits.{limits_of}
use Rattle.readings_facts.proofs.Kept as readings
use Rattle.forms_facts.specs.Sound.{Sound, SoundSettings, Proper}
use Rattle.forms_facts.proofs.Profiles.{proper}
use Rattle.forms_facts.proofs.Kept.{factory_sound}
use Rattle.gauge_rules.specs.State.{State}
use Rattle.gauge_rules.specs.BenchIn.{bench_in}
use Rattle.gauge_table.specs.Asked.{is_v1, asked_v1}
use Rattle.gauge_table.specs.Table.{number_of}
use Rattle.gauge_table.proofs.DecidedV2.{by}
use Rattle.gauge_table.specs.Decided.{decided_v1}
use Rattle.gauge_table.proofs.Numbers.{number_v1}
use Rattle.gauge_table.specs.After.{afterwards, next_of, benched}
use Rattle.gauge_facts.specs.Sound.{SoundState}
use Rattle.gauge_facts.specs.Theorems.{FreshSound, NextSound, BenchSound, LowerBelow}
use Rattle.gauge_facts.proofs.Refused.{refused_keeps, readings_stay}
use Rattle.gauge_facts.proofs.Profile.{bench_exactly}
use Rattle.gauge_facts.proofs.Typed.{passed}
use Rattle.gauge_facts.proofs.Lemmas.Entered.{v2_sound, v1_sound}
use Rattle.readings.specs.declared.Reading.{Reading}

-- a gauge starts so
pub fresh_sound : FreshSound
fresh_sound p = record { proper = proper p; settings = factory_sound (limits_of p) (proper p); readings = readings.start_sound }

module _ (g : State) (room : ℕ) (s : List ℕ) where
  -- an accepted V1 request is decided by the rules of V1
  pub decided : is_v1 s ≡ true → eqb (number_of g room s) 0 ≡ true → number_of g room s ≡ decided_v1 g (asked_v1 s)
  decided l e = let p = passed g room s (eqb-true (number_of g room s) 0 e) in number_v1 s g room p.room_fits p.framed p.own l

  accepted_v1_lem : Proper g.limits → SoundSettings g.limits g.settings → eqb (number_of g room s) 0 ≡ true → is_v1 s ≡ true → SoundSettings g.limits (next_of g room s).settings
  unfolding next_of afterwards
  accepted_v1_lem ok f e l = rw (e, l) (v1_sound g ok (asked_v1 s) f (rw (decided l e) at e))

  accepted_v2_lem : Proper g.limits → SoundSettings g.limits g.settings → eqb (number_of g room s) 0 ≡ true → is_v1 s ≡ false → SoundSettings g.limits (next_of g room s).settings
  unfolding next_of afterwards
  accepted_v2_lem ok f e l = rw (e, l) (v2_sound g.limits ok g.settings f (head_v2 s) (data_from 8 s))

  settings_sound : Proper g.limits → SoundSettings g.limits g.settings → SoundSettings g.limits (next_of g room s).settings
  settings_sound ok f =
      by (eqb (number_of g room s) 0)
      (λ e. by (is_v1 s) (accepted_v1_lem ok f e) (accepted_v2_lem ok f e))
      (λ e. rw (refused_keeps g room s e) f)

-- any request leaves it so, whatever its bytes and the memory lent
pub next_sound : NextSound
unfolding next_of afterwards
next_sound g room s f = record { proper = f.proper; settings = settings_sound g room s f.proper f.settings; readings = rw (readings_stay g room s) f.readings }

-- and so does any bench setting
pub bench_sound : BenchSound
unfolding benched
bench_sound g b f = go (bench_in g.limits b) refl
  where
    go : (x : Option Reading) → bench_in g.limits b ≡ x → SoundState (benched g x)
    go (Some r) e = record { proper = f.proper; settings = f.settings; readings = readings.bench_sound g.readings b r f.readings ((bench_exactly g.limits b r).0 e).1 }
    go None e = f

-- "A transition's lower end stays below its upper end."
pub lower_below : LowerBelow
lower_below g low high f e = let h : Sound g.limits (Switch (Between low high)) = rw e at f.settings.transition in h.3
