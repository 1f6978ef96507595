-- What an accepted request enters lies within the limits.
use mathlib.Core.Path.{◌≡◌, refl}
use mathlib.Core.Bool.{Bool, true, false, not}
use mathlib.Core.List.{List, []}
use Prim.Native.Nat.{ℕ}
use borrow.Author.Tests.{eqb-true}
use lib.Dec.{eqb}
use lib.ListN.{length}
use Rattle.std.specs.Prelude.{Err, None, Ok, Option, Result, Some}
use Rattle.buffer.specs.First.{pick}
use Rattle.buffer.proofs.Laws.{within_true}
use Rattle.buffer.proofs.Rules.{each}
use Rattle.frames.specs.declared.HeadV2.{HeadV2}
use Rattle.settings.specs.Limits.{ProfileLimits, is_factor}
use Rattle.settings.specs.Settings.{Held, put_of}
use Rattle.settings.specs.declared.Key.{Key}
use Rattle.settings.specs.declared.Setting.TheVariants.{Factor}
use Rattle.forms.specs.Judged.{verdict_of, list_in}
use Rattle.forms_facts.specs.Sound.{SoundSettings, Proper}
use Rattle.forms_facts.proofs.Kept.{write_sound, restore_sound}
use Rattle.requests.specs.Command.{command_of, write_code, restore_code, is_access, lacks_access}
use Rattle.requests.specs.AskV2.{set_of, write_of, ask_known, ask_named, ask_v2, write_list, named_list, ask_list}
use Rattle.requests.specs.declared.Command.{Command}
use Rattle.requests.specs.declared.Command.TheVariants.{MV, T2, FN, FS, Of}
use Rattle.requests.specs.declared.RequestV2.TheVariants.{Read, Restore}
use Rattle.requests.specs.declared.RequestV1.TheVariants.{Measure, ReadFactor, Unlock, SetFactor, ReadUnit, SetUnit}
use Rattle.gauge_rules.specs.State.{State}
use Rattle.gauge_rules.specs.RulesV2.{enter_v2}
use Rattle.gauge_rules_v1.specs.RulesV1.{grant_v1, enter_v1}
use Rattle.gauge_rules_v1.proofs.Laws.{factor_in_lem}
use Rattle.gauge_table.specs.Decided.{decided_v1}
use Rattle.gauge_table.specs.After.{entered_v2, entered_v1}
use Rattle.refusals.specs.declared.Refusal.{Refusal}
use Rattle.requests.specs.declared.RequestV2.{RequestV2}
use Rattle.requests.specs.declared.RequestV1.{RequestV1}
use Rattle.settings.specs.declared.Setting.{Setting}

module _ (limits : ProfileLimits) (ok : Proper limits) (h : Held) (f : SoundSettings limits h) where
  -- ---- V2, whatever the state: what is asked, and the list beside it

  abbrev Keeps : List ℕ → Result RequestV2 Refusal → Type 0
  Keeps list ask = SoundSettings limits (entered_v2 limits h list ask)

  -- a list and a request that go by the same test
  both : (t : Bool) (a c : List ℕ) (b d : Result RequestV2 Refusal) → (t ≡ true → Keeps a b) → (t ≡ false → Keeps c d) → Keeps (pick t a c) (pick t b d)
  unfolding pick
  both true a c b d k l = k refl
  both false a c b d k l = l refl

  refused : (list : List ℕ) (k : Refusal) → Keeps list (Err k)
  unfolding entered_v2
  refused list k = f

  judged : (key : Key) (d : List ℕ) (v : Result Setting Refusal) → verdict_of limits key d ≡ v → Keeps (list_in limits key d) (set_of v)
  unfolding entered_v2 enter_v2 set_of
  judged key d (Ok x) e = write_sound limits key d x h f e
  judged key d (Err k) e = f

  written : (c : Command) (d : List ℕ) → Keeps (write_list limits c d) (write_of limits c d)
  unfolding entered_v2 write_list write_of
  written MV d = f
  written T2 d = f
  written FN d = f
  written FS d = f
  written (Of key) d = judged key d (verdict_of limits key d) refl

  restored : (c : Command) → Keeps [] (Ok (Restore c))
  unfolding entered_v2 enter_v2
  restored MV = f
  restored T2 = f
  restored FN = f
  restored FS = f
  restored (Of key) = restore_sound limits ok key h f

  unwritten : (a : ℕ) (c : Command) (d : List ℕ) → Keeps [] (pick (not (eqb (length d) 0)) (Err Refusal.Syntax) (pick (eqb a restore_code) (Ok (Restore c)) (Ok (Read c))))
  unfolding entered_v2 enter_v2
  unwritten a c d =
      each (Keeps []) (not (eqb (length d) 0)) _ _ (λ _. f)
      (λ _. each (Keeps []) (eqb a restore_code) (Ok (Restore c)) (Ok (Read c)) (λ _. restored c) (λ _. f))

  known : (a : ℕ) (n : Option Command) (d : List ℕ) → Keeps (named_list limits a n d) (ask_named limits a n d)
  unfolding named_list ask_named ask_known
  known a None d = refused [] Refusal.NoDef
  known a (Some c) d =
      both (lacks_access a c) _ _ _ _ (λ _. refused [] Refusal.Access)
      (λ _. both (eqb a write_code) _ _ _ _ (λ _. written c d) (λ _. unwritten a c d))

  pub v2_sound : (head : HeadV2) (d : List ℕ) → Keeps (ask_list limits head d) (ask_v2 limits head d)
  unfolding ask_list ask_v2
  v2_sound head d = both (not (is_access head.access)) _ _ _ _ (λ _. refused [] Refusal.Code) (λ _. known head.access (command_of head.first head.second) d)

  -- ---- V1: a number that is not within the limits is not accepted

  factor_sound : (n : ℕ) → is_factor n ≡ true → SoundSettings limits (put_of h (Factor n) [])
  unfolding put_of
  factor_sound n e = record { address = f.address; factor = within_true _ _ n e; control = f.control; cathode = f.cathode; filament = f.filament; transition = f.transition; list = f.list }

-- a V1 request that is accepted
pub v1_sound : (g : State) → Proper g.limits → (ask : Result RequestV1 Refusal) → SoundSettings g.limits g.settings → eqb (decided_v1 g ask) 0 ≡ true → SoundSettings g.limits (entered_v1 g.settings ask)
unfolding decided_v1 grant_v1 entered_v1 enter_v1 put_of
v1_sound g ok (Ok Measure) f e = f
v1_sound g ok (Ok ReadFactor) f e = f
v1_sound g ok (Ok Unlock) f e = f
v1_sound g ok (Ok (SetFactor n)) f e = factor_sound g.limits ok g.settings f n (factor_in_lem g.unlocked n (eqb-true _ 0 e))
v1_sound g ok (Ok ReadUnit) f e = f
v1_sound g ok (Ok (SetUnit u)) f e = record { address = f.address; factor = f.factor; control = f.control; cathode = f.cathode; filament = f.filament; transition = f.transition; list = f.list }
v1_sound g ok (Err k) f e = f
