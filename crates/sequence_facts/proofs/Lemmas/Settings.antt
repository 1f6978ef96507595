-- A value that is put is held at its own setting, and what an accepted write's data say is that value.
use mathlib.Core.Path.{◌≡◌, refl}
use mathlib.Core.Bool.{Bool, true, false}
use mathlib.Core.List.{List, [], ◌∷◌, ◌++◌}
use mathlib.Core.Option.{Option, none, some}
use Prim.Native.Nat.{ℕ, ◌+◌, ◌-◌, ◌*◌, ◌/◌, ◌^◌}
use native.Mathlib.Omega.{arith}
use lib.ListN.{length}
use lib.Seq.{take_at, drop-append-add}
use Rattle.std.specs.Prelude.{Ok}
use Rattle.buffer.specs.First.{pick}
use Rattle.buffer.specs.Byte.{every, same_text, numeral_from, numeral, digits3}
use Rattle.decimal.specs.Exact.{units}
use Rattle.decimal.specs.Form.{number_of}
use Rattle.decimal.specs.declared.Number.{Number}
use Rattle.sources.specs.Source.{source_text, known_sources, among, list_text}
use Rattle.settings.specs.Limits.{ProfileLimits}
use Rattle.settings.specs.Settings.{Held, key_of, factory, factory_of, put_of}
use Rattle.settings.specs.Sent.{unit_text, stream_text}
use Rattle.settings.specs.declared.PressureUnit.{PressureUnit}
use Rattle.settings.specs.declared.PressureUnit.TheVariants.{Mbar, Torr, HPa}
use Rattle.settings.specs.declared.Transition.TheVariants.{Direct, Between}
use Rattle.settings.specs.declared.Key.{Key}
use Rattle.settings.specs.declared.Key.TheVariants.{DA, DU, C1, CM, CC, FC, ST, SM}
use Rattle.settings.specs.declared.Setting.{Setting}
use Rattle.settings.specs.declared.Setting.TheVariants.{Address, PressureIn, Factor, Control, Cathode, Filament, Switch, Stream}
use Rattle.forms.specs.Judged.{list_in}
use Rattle.forms_facts.specs.Codes.{GoodList}
use Rattle.forms_facts.specs.Sound.{Sound, Proper}
use Rattle.forms_facts.specs.Form.{Form}
use Rattle.forms_facts.proofs.Exactly.{accepted_with_list}
use Rattle.forms_facts.proofs.Lemmas.Lacks.{split, until_lacks}
use Rattle.forms_facts.proofs.Lemmas.Lists.{none_good}
use Rattle.forms_facts.proofs.Lemmas.Numbers.{read_lacks}
use Rattle.forms_facts.proofs.Lemmas.Texts.{of_each, all_among}
use Rattle.history.specs.Latest.{or_else}
use Rattle.sequence_facts.specs.Writes.{Value, holding, number_in, unit_named, transition_in, source_at, entries, stream_in, written_v2, name_of}

-- what holds of each setting's name holds of every name
pub every_key : (P : Key → Type 0) → P DA → P DU → P C1 → P CM → P CC → P FC → P ST → P SM → (key : Key) → P key
every_key P da du c1 cm cc fc st sm DA = da
every_key P da du c1 cm cc fc st sm DU = du
every_key P da du c1 cm cc fc st sm C1 = c1
every_key P da du c1 cm cc fc st sm CM = cm
every_key P da du c1 cm cc fc st sm CC = cc
every_key P da du c1 cm cc fc st sm FC = fc
every_key P da du c1 cm cc fc st sm ST = st
every_key P da du c1 cm cc fc st sm SM = sm

-- ---- what is put

-- the list counts for SM only
unfoldable pub beside_of : Setting → List ℕ → List ℕ
beside_of (Address v) list = []
beside_of (PressureIn v) list = []
beside_of (Factor v) list = []
beside_of (Control v) list = []
beside_of (Cathode v) list = []
beside_of (Filament v) list = []
beside_of (Switch v) list = []
beside_of (Stream v) list = list

-- what this value says of a setting: something of its own, by the names, and nothing of any other
unfoldable pub for_key : Key → Setting → List ℕ → Option Value
for_key key x list = pick (same_text (name_of (key_of x)) (name_of key)) (some (x, beside_of x list)) none

-- one law over the setting's name: a value that is put is held at its own name, and every other name holds what it held
abbrev Puts : Held → Setting → List ℕ → Key → Type 0
Puts h x list key = holding key (put_of h x list) ≡ or_else (for_key key x list) (holding key h)

pub put_says : (key : Key) (h : Held) (x : Setting) (list : List ℕ) → Puts h x list key
unfolding holding put_of or_else for_key name_of same_text beside_of pick
put_says key h (Address v) list = every_key (Puts h (Address v) list) refl refl refl refl refl refl refl refl key
put_says key h (PressureIn v) list = every_key (Puts h (PressureIn v) list) refl refl refl refl refl refl refl refl key
put_says key h (Factor v) list = every_key (Puts h (Factor v) list) refl refl refl refl refl refl refl refl key
put_says key h (Control v) list = every_key (Puts h (Control v) list) refl refl refl refl refl refl refl refl key
put_says key h (Cathode v) list = every_key (Puts h (Cathode v) list) refl refl refl refl refl refl refl refl key
put_says key h (Filament v) list = every_key (Puts h (Filament v) list) refl refl refl refl refl refl refl refl key
put_says key h (Switch v) list = every_key (Puts h (Switch v) list) refl refl refl refl refl refl refl refl key
put_says key h (Stream v) list = every_key (Puts h (Stream v) list) refl refl refl refl refl refl refl refl key

-- a factory value is what the setting holds at factory
abbrev Restores : ProfileLimits → Key → Key → Type 0
Restores limits k key = for_key key (factory_of limits k) [] ≡ pick (same_text (name_of k) (name_of key)) (some (holding key (factory limits))) none

pub restore_says : (limits : ProfileLimits) (k key : Key) → Restores limits k key
unfolding holding for_key factory_of name_of same_text beside_of pick
restore_says limits DA key = every_key (Restores limits DA) refl refl refl refl refl refl refl refl key
restore_says limits DU key = every_key (Restores limits DU) refl refl refl refl refl refl refl refl key
restore_says limits C1 key = every_key (Restores limits C1) refl refl refl refl refl refl refl refl key
restore_says limits CM key = every_key (Restores limits CM) refl refl refl refl refl refl refl refl key
restore_says limits CC key = every_key (Restores limits CC) refl refl refl refl refl refl refl refl key
restore_says limits FC key = every_key (Restores limits FC) refl refl refl refl refl refl refl refl key
restore_says limits ST key = every_key (Restores limits ST) refl refl refl refl refl refl refl refl key
restore_says limits SM key = every_key (Restores limits SM) refl refl refl refl refl refl refl refl key

-- ---- what the data of an accepted write say

-- three digits spell their number
three_spell : (limits : ProfileLimits) (v : ℕ) → Sound limits (Address v) → numeral (digits3 v) ≡ v
unfolding numeral_from
three_spell limits v h = omega (arith, h.0, h.1)

unit_said : (u : PressureUnit) → unit_named (unit_text u) ≡ some (PressureIn u, [])
unfolding unit_named unit_text same_text pick
unit_said Mbar = refl
unit_said Torr = refl
unit_said HPa = refl

digit_said : (v : ℕ) → v + 48 - 48 ≡ v
digit_said v = omega arith

factor_said : (n : Number) (h : ℕ) → units n ≡ h * 10 ^ 12 → units n / 10 ^ 12 ≡ h
factor_said n h e = omega arith

direct_said : (t : List ℕ) (n : Number) → number_of t ≡ Ok n → transition_in (68 ∷ t) ≡ some (Switch (Direct n), [])
unfolding transition_in number_in pick
direct_said t n e = rw e

between_said : (t u : List ℕ) (a b : Number) → number_of t ≡ Ok a → number_of u ≡ Ok b
    → transition_in (70 ∷ (t ++ 84 ∷ u)) ≡ some (Switch (Between a b), [])
unfolding transition_in number_in pick
between_said t u a b e f =
    rw (until_lacks 84 t u (read_lacks t a e), take_at t (84 ∷ u) (length t) refl, drop-append-add t (84 ∷ u) 1, e, f)

-- the source at the front is read back, and no `D` stands in it
abbrev Reads : ℕ → Type 0
Reads c = (rest : List ℕ) → (source_at (source_text c ++ rest) ≡ c) × (entries (source_text c ++ rest) ≡ entries rest)

reads : (c : ℕ) → among known_sources c ≡ true → Reads c
unfolding source_text source_at entries pick
reads c e = of_each Reads known_sources c (λ _. (refl, refl), (λ _. (refl, refl), (λ _. (refl, refl), (λ _. (refl, refl), (λ _. (refl, refl), (λ _. (refl, refl), (λ _. (refl, refl), tt))))))) e

entries_said : (list : List ℕ) → every (among known_sources) list ≡ true → entries (list_text list) ≡ list
unfolding entries list_text every
entries_said [] e = refl
entries_said (c ∷ list) e =
    let w = split (among known_sources c) (every (among known_sources) list) e in
    let r = reads c w.0 (list_text list) in
    rw (r.0, r.1, entries_said list w.1)

stream_said : (limits : ProfileLimits) → Proper limits → (on : Bool) (list : List ℕ) → GoodList limits.source_codes list → stream_in (stream_text on list) ≡ some (Stream on, list_in limits SM (stream_text on list))
unfolding stream_in stream_text entries pick
stream_said limits ok true list h = rw (((accepted_with_list limits ok SM (stream_text true list) (Stream true) list).1 (refl, refl, tt, h)).1, entries_said list (all_among known_sources limits.source_codes ok.here list h.known))
stream_said limits ok false list h = rw ((accepted_with_list limits ok SM (stream_text false list) (Stream false) []).1 (refl, (refl, refl), tt, none_good limits.source_codes)).1

-- what the data of a write say, where they are accepted as x
abbrev Wrote : ProfileLimits → List ℕ → Setting → Key → Type 0
Wrote limits d x key = for_key key x (list_in limits (key_of x) d) ≡ pick (same_text (name_of (key_of x)) (name_of key)) (written_v2 key d) none

pub wrote : (limits : ProfileLimits) → Proper limits → (key : Key) (d : List ℕ) (x : Setting) → Form limits d x → Sound limits x → Wrote limits d x key
unfolding for_key name_of same_text beside_of written_v2 number_in pick
wrote limits ok key d (Address v) f h = every_key (Wrote limits d (Address v)) (rw (f, three_spell limits v h)) refl refl refl refl refl refl refl key
wrote limits ok key d (PressureIn u) f h = every_key (Wrote limits d (PressureIn u)) refl (rw (f, unit_said u)) refl refl refl refl refl refl key
wrote limits ok key d (Factor k) f h = every_key (Wrote limits d (Factor k)) refl refl (rw (f.1, factor_said f.0 k f.3)) refl refl refl refl refl key
wrote limits ok key d (Control v) f h = every_key (Wrote limits d (Control v)) refl refl refl (rw (f, digit_said v)) refl refl refl refl key
wrote limits ok key d (Cathode v) f h = every_key (Wrote limits d (Cathode v)) refl refl refl refl (rw (f, digit_said v)) refl refl refl key
wrote limits ok key d (Filament v) f h = every_key (Wrote limits d (Filament v)) refl refl refl refl refl (rw (f, digit_said v)) refl refl key
wrote limits ok key d (Switch (Direct n)) f h = every_key (Wrote limits d (Switch (Direct n))) refl refl refl refl refl refl (rw (f.1, direct_said f.0 n f.2)) refl key
wrote limits ok key d (Switch (Between a b)) f h = every_key (Wrote limits d (Switch (Between a b))) refl refl refl refl refl refl (rw (f.2, between_said f.0 f.1 a b f.3 f.4)) refl key
wrote limits ok key d (Stream on) f h = every_key (Wrote limits d (Stream on)) refl refl refl refl refl refl refl (rw (f.2, stream_said limits ok on f.0 f.1)) key
