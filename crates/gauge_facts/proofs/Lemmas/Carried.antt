-- A V2 request with data of its form can be sent: its bytes are 32 to 126, and its data at most 99.
use mathlib.Core.Path.{◌≡◌, refl}
use mathlib.Core.Bool.{Bool, true, false}
use mathlib.Core.List.{List, [], ◌∷◌, ◌++◌}
use mathlib.Core.Logic.{◌⊎◌, inl, inr}
use Prim.Native.Nat.{ℕ, ◌+◌, ◌≤◌}
use native.Mathlib.Omega.{arith}
use lib.ListN.{length, length-append}
use Rattle.std.specs.Prelude.{Ok}
use Rattle.buffer.specs.Byte.{at, within, is_digit, every, Printed}
use Rattle.buffer.proofs.Laws.{within_true}
use Rattle.decimal.specs.Form.{number_of}
use Rattle.decimal.specs.declared.Number.{Number}
use Rattle.decimal_facts.specs.Grammar.{Parts, Good, dash, point, exponent, spelled_of}
use Rattle.sources.specs.Source.{list_text}
use Rattle.sources.specs.declared.Profile.TheVariants.{Standard}
use Rattle.settings.specs.Limits.{ProfileLimits, limits_of}
use Rattle.settings.specs.Settings.{factory, put_of}
use Rattle.settings.specs.Sent.{unit_text, stream_text, read_text}
use Rattle.settings.specs.declared.PressureUnit.{PressureUnit}
use Rattle.settings.specs.declared.PressureUnit.TheVariants.{Mbar, Torr, HPa}
use Rattle.settings.specs.declared.Transition.TheVariants.{Direct, Between}
use Rattle.settings.specs.declared.Key.TheVariants.{DA, DU, C1, CM, CC, FC, ST, SM}
use Rattle.settings.specs.declared.Setting.{Setting}
use Rattle.settings.specs.declared.Setting.TheVariants.{Address, PressureIn, Factor, Control, Cathode, Filament, Switch, Stream}
use Rattle.forms_facts.proofs.Lemmas.Lists.{at_most_entries}
use Rattle.forms_facts.specs.Codes.{GoodList}
use Rattle.forms_facts.specs.Sound.{Sound, Proper}
use Rattle.forms_facts.specs.Form.{FormWith}
use Rattle.forms_facts.proofs.Lemmas.Lacks.{split}
use Rattle.forms_facts.proofs.Lemmas.Numbers.{read_form}
use Rattle.requests.specs.Command.{command_text}
use Rattle.requests.specs.declared.Command.{Command}
use Rattle.requests.specs.declared.Command.TheVariants.{MV, T2, FN, FS, Of}
use Rattle.requests.specs.declared.RequestV2.{RequestV2}
use Rattle.requests.specs.declared.RequestV2.TheVariants.{Read, Restore, Set}
use Rattle.request_texts.specs.RequestText.{head_for}
use Rattle.printed_facts.proofs.Printed.{join, next, digits3_printed, read_printed}
use Rattle.printed_facts.proofs.Fits.{read_le}
use Rattle.printed_facts.proofs.Sendable.{head_sendable_v2}
use Rattle.frame_writer.specs.Sendable.{SendableV2}
use Rattle.gauge_facts.specs.Request.{DataFor}

-- ---- the text of a number

pub digits_printed : (s : List ℕ) → every is_digit s ≡ true → Printed s
unfolding every
digits_printed [] e = refl
digits_printed (x ∷ s) e =
    let w = split (is_digit x) (every is_digit s) e in
    let d = within_true 48 57 x w.0 in
    next x s (omega (arith, d.0)) (omega (arith, d.1)) (digits_printed s w.1)

-- printed, and of at most `most` bytes
pub record Fits (most : ℕ) (s : List ℕ) : Type 0 where
  pub printed : Printed s
  pub few : length s ≤ most

fits_join : (m n : ℕ) (s t : List ℕ) → Fits m s → Fits n t → Fits (m + n) (s ++ t)
fits_join m n s t f h = record { printed = join s t f.printed h.printed; few = simp length-append (omega (arith, f.few, h.few)) }

fits_next : (m x : ℕ) (s : List ℕ) → 32 ≤ x → x ≤ 126 → Fits m s → Fits (m + 1) (x ∷ s)
fits_next m x s h k f = record { printed = next x s h k f.printed; few = omega (arith, f.few) }

fits_none : Fits 0 []
unfolding every
fits_none = record { printed = refl; few = omega arith }

more : (m n : ℕ) (s : List ℕ) → m ≤ n → Fits m s → Fits n s
more m n s h f = record { printed = f.printed; few = omega (arith, f.few) }

dash_fits : (b : Bool) → Fits 1 (dash b)
unfolding dash
dash_fits true = fits_next 0 45 [] (omega arith) (omega arith) fits_none
dash_fits false = more 0 1 [] (omega arith) fits_none

digits_fit : (s : List ℕ) → every is_digit s ≡ true → Fits (length s) s
digits_fit s e = record { printed = digits_printed s e; few = omega arith }

point_fits : (s : List ℕ) → every is_digit s ≡ true → Fits (length s + 1) (point s)
unfolding point
point_fits [] e = more 0 1 [] (omega arith) fits_none
point_fits (x ∷ s) e = fits_next (length (x ∷ s)) 46 (x ∷ s) (omega arith) (omega arith) (digits_fit (x ∷ s) e)

exponent_fits : (mark : ℕ) (below : Bool) (s : List ℕ) → (mark ≡ 101) ⊎ (mark ≡ 69) → every is_digit s ≡ true → Fits (length s + 2) (exponent mark below s)
unfolding exponent
exponent_fits mark below [] m e = more 0 2 [] (omega arith) fits_none
exponent_fits mark below (x ∷ s) m e = go m
  where
    rest : Fits (1 + length (x ∷ s)) (dash below ++ x ∷ s)
    rest = fits_join 1 (length (x ∷ s)) (dash below) (x ∷ s) (dash_fits below) (digits_fit (x ∷ s) e)

    go : (mark ≡ 101) ⊎ (mark ≡ 69) → Fits (length (x ∷ s) + 2) (mark ∷ dash below ++ x ∷ s)
    go (inl k) = more (1 + length (x ∷ s) + 1) _ _ (omega arith) (fits_next _ mark _ (omega arith) (omega arith) rest)
    go (inr k) = more (1 + length (x ∷ s) + 1) _ _ (omega arith) (fits_next _ mark _ (omega arith) (omega arith) rest)

form_fits : (p : Parts) → Good p → Fits 12 (spelled_of p)
unfolding spelled_of
form_fits p g =
    let a = fits_join 1 _ (dash p.negative) p.whole (dash_fits p.negative) (digits_fit p.whole g.whole_digits) in
    let b = fits_join _ _ (dash p.negative ++ p.whole) (point p.fraction) a (point_fits p.fraction g.fraction_digits) in
    let c = fits_join _ _ (dash p.negative ++ p.whole ++ point p.fraction) (exponent p.mark p.below p.power) b (exponent_fits p.mark p.below p.power g.marked g.power_digits) in
    more _ 12 _ (omega (arith, g.six, g.two)) c

number_fits : (s : List ℕ) (n : Number) → number_of s ≡ Ok n → Fits 12 s
number_fits s n e = let w = read_form s n e in rw w.2 at (form_fits w.0 w.1)

-- ---- the data of each setting

unit_fits : (u : PressureUnit) → Fits 4 (unit_text u)
unfolding unit_text read_text put_of
unit_fits Mbar = record { printed = read_printed DU (put_of (factory (limits_of Standard)) (PressureIn Mbar) []); few = omega arith }
unit_fits Torr = record { printed = read_printed DU (put_of (factory (limits_of Standard)) (PressureIn Torr) []); few = omega arith }
unit_fits HPa = record { printed = read_printed DU (put_of (factory (limits_of Standard)) (PressureIn HPa) []); few = omega arith }

digit_fits : (v : ℕ) → v ≤ 9 → Fits 1 ((v + 48) ∷ [])
digit_fits v h = fits_next 0 (v + 48) [] (omega arith) (omega arith) fits_none

list_fits : (limits : ProfileLimits) → Proper limits → (list : List ℕ) → GoodList limits.source_codes list → Fits 24 (52 ∷ list_text list)
unfolding read_text put_of stream_text
list_fits limits ok list h = record { printed = read_printed SM (put_of (factory (limits_of Standard)) (Stream true) list); few = read_le (put_of (factory (limits_of Standard)) (Stream true) list) (omega (arith, at_most_entries limits ok list h, ok.few)) SM }

setting_fits : (limits : ProfileLimits) → Proper limits → (x : Setting) (list d : List ℕ) → FormWith limits d x list → Sound limits x → GoodList limits.source_codes list → Fits 99 d
setting_fits limits ok (Address v) list d f h k = rw f.0 (record { printed = digits3_printed v; few = omega arith })
setting_fits limits ok (PressureIn u) list d f h k = rw f.0 (more 4 99 _ (omega arith) (unit_fits u))
setting_fits limits ok (Factor c) list d f h k = more 12 99 d (omega arith) (number_fits d f.0.0 f.0.1)
setting_fits limits ok (Control v) list d f h k = rw f.0 (more 1 99 _ (omega arith) (digit_fits v (omega (arith, h))))
setting_fits limits ok (Cathode v) list d f h k = rw f.0 (more 1 99 _ (omega arith) (digit_fits v (omega (arith, h))))
setting_fits limits ok (Filament v) list d f h k = rw f.0 (more 1 99 _ (omega arith) (digit_fits v (omega (arith, h))))
setting_fits limits ok (Switch (Direct n)) list d f h k = let w = f.0 in rw w.1 (more 13 99 _ (omega arith) (fits_next 12 68 w.0 (omega arith) (omega arith) (number_fits w.0 n w.2)))
setting_fits limits ok (Switch (Between a b)) list d f h k =
    let w = f.0 in
    let u = fits_next 12 84 w.1 (omega arith) (omega arith) (number_fits w.1 b w.4) in
    let t = fits_join 12 13 w.0 (84 ∷ w.1) (number_fits w.0 a w.3) u in
    rw w.2 (more 26 99 _ (omega arith) (fits_next 25 70 (w.0 ++ 84 ∷ w.1) (omega arith) (omega arith) t))
setting_fits limits ok (Stream false) list d f h k = rw f.0 (more 1 99 _ (omega arith) (digit_fits 0 (omega arith)))
setting_fits limits ok (Stream true) list d f h k = rw f (more 24 99 _ (omega arith) (list_fits limits ok list k))

data_fits_lem : (limits : ProfileLimits) → Proper limits → (r : RequestV2) (list d : List ℕ) → DataFor limits r list d → Fits 99 d
data_fits_lem limits ok (Read c) list d f = rw f.0 (more 0 99 [] (omega arith) fits_none)
data_fits_lem limits ok (Restore c) list d f = rw f.1 (more 0 99 [] (omega arith) fits_none)
data_fits_lem limits ok (Set x) list d f = setting_fits limits ok x list d f.0 f.1 f.2

-- ---- the head

-- a command is two characters
pub command_two : (c : Command) → at (command_text c) 0 ∷ at (command_text c) 1 ∷ [] ≡ command_text c
unfolding command_text
command_two MV = refl
command_two T2 = refl
command_two FN = refl
command_two FS = refl
command_two (Of DA) = refl
command_two (Of DU) = refl
command_two (Of C1) = refl
command_two (Of CM) = refl
command_two (Of CC) = refl
command_two (Of FC) = refl
command_two (Of ST) = refl
command_two (Of SM) = refl

pub carried : (limits : ProfileLimits) → Proper limits → (a : ℕ) (r : RequestV2) (list d : List ℕ) → within 1 999 a ≡ true → DataFor limits r list d → SendableV2 (head_for a r) d
carried limits ok a r list d e f = let w = data_fits_lem limits ok r list d f in head_sendable_v2 a r d e w.printed w.few
