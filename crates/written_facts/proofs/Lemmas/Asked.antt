-- What the head and the data of a request that is formed ask.
use mathlib.Core.Path.{◌≡◌, refl, ap, ◌∙◌}
use mathlib.Core.Bool.{Bool, true, false}
use mathlib.Core.List.{List, [], ◌∷◌}
use Prim.Native.Nat.{ℕ, ◌+◌, ◌*◌, ◌/◌, ◌%◌, ◌<◌, ◌≤◌}
use native.Mathlib.Omega.{arith}
use Rattle.std.specs.Prelude.{Ok, Some}
use Rattle.buffer.specs.First.{pick}
use Rattle.buffer.specs.Byte.{at, within, every, is_digit, same_text, numeral_from, numeral, digit, leading, starts_with}
use Rattle.buffer.proofs.Laws.{within_in}
use Rattle.sources.specs.declared.Profile.TheVariants.{Standard}
use Rattle.sources.specs.Entries.{source_texts, entries_of, opens, entries_number, entries_list}
use Rattle.settings.specs.Limits.{ProfileLimits, limits_of, standard}
use Rattle.settings.specs.Settings.{Held, key_of, factory, put_of}
use Rattle.settings.specs.Sent.{stream_text, read_text}
use Rattle.settings.specs.declared.PressureUnit.{PressureUnit}
use Rattle.settings.specs.declared.PressureUnit.TheVariants.{Mbar, Torr, HPa}
use Rattle.settings.specs.declared.Key.TheVariants.{DA, DU, C1, CM, CC, FC, ST, SM}
use Rattle.settings.specs.declared.Setting.{Setting}
use Rattle.settings.specs.declared.Setting.TheVariants.{Address, PressureIn, Factor, Control, Cathode, Filament, Switch, Stream}
use Rattle.forms.specs.Forms.{digit_data, idle_list, known_mode, stream_of, stream_data}
use Rattle.forms.specs.Judged.{verdict_of, if_set, list_in}
use Rattle.forms_facts.specs.Sound.{Sound, SoundSettings, Proper}
use Rattle.forms_facts.specs.Codes.{GoodList}
use Rattle.forms_facts.proofs.Lemmas.Lists.{none_good}
use Rattle.forms_facts.proofs.Kept.{factory_sound, put_sound}
use Rattle.forms_facts.proofs.Read.{read_again, list_read_again}
use Rattle.requests.specs.Command.{command_of, find_command, command_text, restore_code, is_access, can_write, lacks_access}
use Rattle.requests.specs.AskV2.{set_of, write_of, ask_known, ask_named, ask_v2, write_list, named_list, ask_list}
use Rattle.requests.specs.AskV1.{six_digits, bare_of, digit_one, one_of, unit_at, ask_v1}
use Rattle.requests.specs.declared.Command.{Command}
use Rattle.requests.specs.declared.Command.TheVariants.{MV, T2, FN, FS, Of}
use Rattle.requests.specs.declared.RequestV2.TheVariants.{Read, Restore, Set}
use Rattle.requests.specs.declared.RequestV1.{RequestV1}
use Rattle.requests.specs.declared.RequestV1.TheVariants.{Measure, ReadFactor, Unlock, SetFactor, ReadUnit, SetUnit}
use Rattle.request_texts.specs.RequestText.{access_of, command_in, head_for, data_v2, digits6, letter_v1, data_v1}
use Rattle.settings.specs.Units.{unit_code}
use Rattle.sources.specs.Source.{among, all_differ}
use Rattle.written_facts.proofs.Lemmas.Typed.{ListFits}

-- ---- V2

-- a command's two characters name it
pub named : (c : Command) → command_of (at (command_text c) 0) (at (command_text c) 1) ≡ Some c
unfolding command_of find_command same_text command_text pick
named MV = refl
named T2 = refl
named FN = refl
named FS = refl
named (Of DA) = refl
named (Of DU) = refl
named (Of C1) = refl
named (Of CM) = refl
named (Of CC) = refl
named (Of FC) = refl
named (Of ST) = refl
named (Of SM) = refl

pub read_asked : (limits : ProfileLimits) (a : ℕ) (c : Command) (list : List ℕ) → ask_v2 limits (head_for a (Read c)) (data_v2 (Read c) list) ≡ Ok (Read c)
unfolding ask_v2 head_for access_of command_in data_v2 is_access pick ask_named ask_known lacks_access
read_asked limits a c list = rw (named c)

pub restore_asked : (limits : ProfileLimits) (a : ℕ) (c : Command) (list : List ℕ) → lacks_access restore_code c ≡ false → ask_v2 limits (head_for a (Restore c)) (data_v2 (Restore c) list) ≡ Ok (Restore c)
unfolding ask_v2 head_for access_of command_in data_v2 is_access pick ask_named ask_known
restore_asked limits a c list h = rw (named c, h)

-- what else is held does not count
put_alike : (h k : Held) (y : Setting) (list : List ℕ) → read_text (key_of y) (put_of h y list) ≡ read_text (key_of y) (put_of k y list)
unfolding put_of read_text
put_alike h k (Address v) list = refl
put_alike h k (PressureIn v) list = refl
put_alike h k (Factor v) list = refl
put_alike h k (Control v) list = refl
put_alike h k (Cathode v) list = refl
put_alike h k (Filament v) list = refl
put_alike h k (Switch v) list = refl
put_alike h k (Stream v) list = refl

module _ (limits : ProfileLimits) (ok : Proper limits) where
  put_here : (y : Setting) (list : List ℕ) → Sound limits y → GoodList limits.source_codes list → SoundSettings limits (put_of (factory limits) y list)
  put_here y list h k = put_sound limits (factory limits) y list (factory_sound limits ok) h k

  -- the text of a setting within the limits is judged as that setting
  judged_here : (y : Setting) (list : List ℕ) → Sound limits y → ListFits limits y list → verdict_of limits (key_of y) (read_text (key_of y) (put_of (factory limits) y list)) ≡ Ok y
  unfolding put_of
  judged_here (Address v) list h k = read_again limits ok DA _ (put_here (Address v) [] h (none_good limits.source_codes))
  judged_here (PressureIn v) list h k = read_again limits ok DU _ (put_here (PressureIn v) [] h (none_good limits.source_codes))
  judged_here (Factor v) list h k = read_again limits ok C1 _ (put_here (Factor v) [] h (none_good limits.source_codes))
  judged_here (Control v) list h k = read_again limits ok CM _ (put_here (Control v) [] h (none_good limits.source_codes))
  judged_here (Cathode v) list h k = read_again limits ok CC _ (put_here (Cathode v) [] h (none_good limits.source_codes))
  judged_here (Filament v) list h k = read_again limits ok FC _ (put_here (Filament v) [] h (none_good limits.source_codes))
  judged_here (Switch v) list h k = read_again limits ok ST _ (put_here (Switch v) [] h (none_good limits.source_codes))
  judged_here (Stream v) list h k = read_again limits ok SM _ (put_here (Stream v) list h k.0)

  judged_again : (y : Setting) (list : List ℕ) → Sound limits y → ListFits limits y list → verdict_of limits (key_of y) (read_text (key_of y) (put_of (factory (limits_of Standard)) y list)) ≡ Ok y
  judged_again y list h k = ap (verdict_of limits (key_of y)) (put_alike (factory (limits_of Standard)) (factory limits) y list) ∙ judged_here y list h k

  pub set_asked : (a : ℕ) (y : Setting) (list : List ℕ) → Sound limits y → ListFits limits y list → ask_v2 limits (head_for a (Set y)) (data_v2 (Set y) list) ≡ Ok (Set y)
  unfolding ask_v2 head_for access_of command_in data_v2 is_access pick ask_named ask_known lacks_access can_write write_of set_of
  set_asked a y list h k = rw (named (Of (key_of y)), judged_again y list h k)

  -- and its list is read again
  no_list : list_in limits SM (48 ∷ []) ≡ []
  unfolding list_in if_set stream_data stream_of entries_number entries_list entries_of source_texts opens leading starts_with idle_list known_mode pick within every all_differ among
  no_list = refl

  off_list : (list : List ℕ) → list_in limits SM (read_text SM (put_of (factory (limits_of Standard)) (Stream false) list)) ≡ []
  unfolding read_text stream_text put_of
  off_list list = no_list

  on_list : (list : List ℕ) → GoodList limits.source_codes list → list_in limits SM (read_text SM (put_of (factory (limits_of Standard)) (Stream true) list)) ≡ list
  unfolding put_of
  on_list list k = ap (list_in limits SM) (put_alike (factory (limits_of Standard)) (factory limits) (Stream true) list) ∙ list_read_again limits ok _ (put_here (Stream true) list tt k) refl

  pub list_asked : (a : ℕ) (on : Bool) (list : List ℕ) → ListFits limits (Stream on) list → ask_list limits (head_for a (Set (Stream on))) (data_v2 (Set (Stream on)) list) ≡ list
  unfolding ask_list head_for access_of command_in data_v2 is_access pick named_list lacks_access can_write write_list
  list_asked a true list k = rw (named (Of SM)) (on_list list k.0)
  list_asked a false list k = rw (named (Of SM)) (off_list list ∙ rw (k.1 refl))

-- ---- V1

digit_in : (k : ℕ) → is_digit (digit k) ≡ true
digit_in k = within_in 48 57 (digit k) (omega arith) (omega arith)

six_in : (n : ℕ) → six_digits (digits6 n) ≡ true
unfolding six_digits every
six_in n = rw (digit_in (n / 1000 / 100), digit_in (n / 1000 / 10), digit_in (n / 1000), digit_in (n / 100), digit_in (n / 10), digit_in n)

three : (x : ℕ) → x < 1000 → x / 100 % 10 * 100 + x / 10 % 10 * 10 + x % 10 ≡ x
three x h = omega arith

low_three : (x : ℕ) → x / 100 % 10 * 100 + x / 10 % 10 * 10 + x % 10 ≡ x % 1000
low_three x = omega arith

six_spells : (n : ℕ) → n < 1000000 → numeral (digits6 n) ≡ n
unfolding numeral_from
six_spells n h =
    let a = three (n / 1000) (omega arith) in
    let b = low_three n in
    let c : n ≡ n / 1000 * 1000 + n % 1000 = omega arith in
    joined (n / 1000 / 100 % 10) (n / 1000 / 10 % 10) (n / 1000 % 10) (n / 100 % 10) (n / 10 % 10) (n % 10) ∙ omega (arith, a, b, c)
  where
    joined : (f g h i j k : ℕ)
        → numeral ((f + 48) ∷ (g + 48) ∷ (h + 48) ∷ (i + 48) ∷ (j + 48) ∷ (k + 48) ∷ []) ≡ (f * 100 + g * 10 + h) * 1000 + (i * 100 + j * 10 + k)
    joined f g h i j k = omega arith

unit_again : (u : PressureUnit) → unit_at (unit_code u) ≡ Ok (SetUnit u)
unfolding unit_at unit_code pick
unit_again Mbar = refl
unit_again Torr = refl
unit_again HPa = refl

unit_low_lem : (u : PressureUnit) → unit_code u < 1000000
unfolding unit_code
unit_low_lem Mbar = omega arith
unit_low_lem Torr = omega arith
unit_low_lem HPa = omega arith

-- a factor has six digits
abbrev pub Written : RequestV1 → Type 0
Written Measure = Unit {0}
Written ReadFactor = Unit {0}
Written Unlock = Unit {0}
Written (SetFactor n) = (standard.factor_low ≤ n) × (n ≤ standard.factor_high)
Written ReadUnit = Unit {0}
Written (SetUnit u) = Unit {0}

factor_asked : (n : ℕ) → n < 1000000 → ask_v1 99 (digits6 n) ≡ Ok (SetFactor n)
unfolding ask_v1 pick
factor_asked n h = rw (six_in n, six_spells n h)

unit_asked : (u : PressureUnit) → ask_v1 117 (digits6 (unit_code u)) ≡ Ok (SetUnit u)
unfolding ask_v1 pick
unit_asked u = rw (six_in (unit_code u), six_spells (unit_code u) (unit_low_lem u)) (unit_again u)

pub asked_v1_lem : (r : RequestV1) → Written r → ask_v1 (letter_v1 r) (data_v1 r) ≡ Ok r
unfolding ask_v1 letter_v1 data_v1 pick bare_of one_of digit_one digit_data six_digits every within
asked_v1_lem Measure h = refl
asked_v1_lem ReadFactor h = refl
asked_v1_lem Unlock h = refl
asked_v1_lem (SetFactor n) h = factor_asked n (omega (arith, h.1))
asked_v1_lem ReadUnit h = refl
asked_v1_lem (SetUnit u) h = unit_asked u
