-- Document 01, the answer numbers of a write's data: 10 SYNTAX, 11 RANGE or 12 LOGIC.
use mathlib.Core.Path.{◌≡◌, refl}
use mathlib.Core.Bool.{not, ◌&&◌}
use mathlib.Core.List.{List}
use mathlib.Core.Logic.{◌⊎◌, inl, inr}
use Prim.Native.Nat.{ℕ, ◌+◌, ◌-◌}
use lib.Dec.{eqb, leb, ltb}
use lib.ListN.{length, take, drop}
use Rattle.std.specs.Prelude.{Err, None, Ok, Option, Result, Some}
use Rattle.buffer.specs.First.{pick}
use Rattle.buffer.specs.Byte.{at, within, is_digit, every, same_text, until_of, numeral, leading, starts_with}
use Rattle.buffer.proofs.Rules.{each}
use Rattle.decimal.specs.Form.{unsigned_of, scan_of, parsed_of, number_of}
use Rattle.decimal.specs.Number.{below_of, hundredths_of}
use Rattle.sources.specs.Entries.{entries_number}
use Rattle.settings.specs.Limits.{ProfileLimits, standard, is_factor}
use Rattle.settings.specs.Sent.{unit_text}
use Rattle.settings.specs.declared.PressureUnit.TheVariants.{Mbar, Torr, HPa}
use Rattle.settings.specs.declared.Transition.TheVariants.{Between}
use Rattle.settings.specs.declared.Key.{Key}
use Rattle.settings.specs.declared.Key.TheVariants.{DA, DU, C1, CM, CC, FC, ST, SM}
use Rattle.settings.specs.declared.Setting.{Setting}
use Rattle.settings.specs.declared.Setting.TheVariants.{PressureIn, Factor, Control, Cathode, Filament, Switch, Stream}
use Rattle.forms.specs.Forms.{address_data, unit_data, factor_in, factor_of, digit_data, digit_of, limited_of, direct_of, earlier, between_of, ends_of, transition_of, transition_data, idle_list, known_mode, stream_of, stream_data}
use Rattle.forms.specs.Judged.{verdict_of}
use Rattle.forms.specs.declared.Ends.{Ends}
use Rattle.requests_facts.specs.Theorems.{RefusedData, NoneWithWrite}
use Rattle.decimal.specs.declared.Number.{Number}
use Rattle.decimal.specs.declared.NumberError.{NumberError}
use Rattle.refusals.specs.declared.Refusal.{Refusal}

-- SYNTAX or RANGE
abbrev Low : Refusal → Type 0
Low k = (k ≡ Refusal.Syntax) ⊎ (k ≡ Refusal.Range)

-- SYNTAX, RANGE or LOGIC
abbrev OfData : Refusal → Type 0
OfData k = (k ≡ Refusal.Syntax) ⊎ ((k ≡ Refusal.Range) ⊎ (k ≡ Refusal.Logic))

syntax : OfData Refusal.Syntax
syntax = inl refl

range : OfData Refusal.Range
range = inr (inl refl)

logic : OfData Refusal.Logic
logic = inr (inr refl)

any : (k : Refusal) → Low k → OfData k
any k (inl e) = inl e
any k (inr e) = inr (inl e)

-- a verdict that refuses with one of the three only
abbrev Told : Result Setting Refusal → Type 0
Told (Ok x) = Unit {0}
Told (Err k) = OfData k

address_told : (s : List ℕ) → Told (address_data s)
unfolding address_data
address_told s =
    each Told (not (eqb (length s) 3)) (Err Refusal.Syntax) _ (λ _. syntax)
    (λ _. each Told (not (every is_digit s)) (Err Refusal.Syntax) _ (λ _. syntax)
    (λ _. each Told (not (within standard.address_low standard.address_high (numeral s))) (Err Refusal.Range) _ (λ _. range) (λ _. tt)))

unit_told : (s : List ℕ) → Told (unit_data s)
unfolding unit_data
unit_told s =
    each Told (same_text s (unit_text Mbar)) (Ok (PressureIn Mbar)) _ (λ _. tt)
    (λ _. each Told (same_text s (unit_text Torr)) (Ok (PressureIn Torr)) _ (λ _. tt)
    (λ _. each Told (same_text s (unit_text HPa)) (Ok (PressureIn HPa)) (Err Refusal.Syntax) (λ _. tt) (λ _. syntax)))

factor_in_told : (h : Option ℕ) → Told (factor_in h)
unfolding factor_in
factor_in_told (Some h) = each Told (not (is_factor h)) (Err Refusal.Range) (Ok (Factor h)) (λ _. range) (λ _. tt)
factor_in_told None = range

factor_told : (p : Result Number NumberError) → Told (factor_of p)
unfolding factor_of
factor_told (Err NumberError.Syntax) = syntax
factor_told (Err NumberError.Range) = range
factor_told (Ok n) = each Told n.negative (Err Refusal.Range) (factor_in (hundredths_of n)) (λ _. range) (λ _. factor_in_told (hundredths_of n))

abbrev Read : Result ℕ Refusal → Type 0
Read (Ok d) = Unit {0}
Read (Err k) = Low k

digit_read : (most : ℕ) (s : List ℕ) → Read (digit_data most s)
unfolding digit_data
digit_read most s =
    each Read (not (eqb (length s) 1)) (Err Refusal.Syntax) _ (λ _. inl refl)
    (λ _. each Read (not (is_digit (at s 0))) (Err Refusal.Syntax) _ (λ _. inl refl)
    (λ _. each Read (ltb most (at s 0 - 48)) (Err Refusal.Range) (Ok (at s 0 - 48)) (λ _. inr refl) (λ _. tt)))

digit_told : (setting : ℕ → Setting) (r : Result ℕ Refusal) → Read r → Told (digit_of setting r)
unfolding digit_of
digit_told setting (Ok d) h = tt
digit_told setting (Err k) h = any k h

abbrev Passed : Result Number Refusal → Type 0
Passed (Ok n) = Unit {0}
Passed (Err k) = Low k

limited_passed : (limits : ProfileLimits) (p : Result Number NumberError) → Passed (limited_of limits p)
unfolding limited_of
limited_passed limits (Err NumberError.Syntax) = inl refl
limited_passed limits (Err NumberError.Range) = inr refl
limited_passed limits (Ok n) =
    each Passed (below_of n limits.transition_low) (Err Refusal.Range) _ (λ _. inr refl)
    (λ _. each Passed (below_of limits.transition_high n) (Err Refusal.Range) (Ok n) (λ _. inr refl) (λ _. tt))

direct_told : (r : Result Number Refusal) → Passed r → Told (direct_of r)
unfolding direct_of
direct_told (Ok n) h = tt
direct_told (Err k) h = any k h

-- of two refusals the one with the lesser number
earlier_low : (j k : Refusal) → Low j → Low k → Low (earlier j k)
unfolding earlier
earlier_low j k h l = each Low _ j k (λ _. h) (λ _. l)

between_told : (a b : Result Number Refusal) → Passed a → Passed b → Told (between_of a b)
unfolding between_of
between_told (Ok a) (Ok b) h l = each Told (not (below_of a b)) (Err Refusal.Logic) (Ok (Switch (Between a b))) (λ _. logic) (λ _. tt)
between_told (Ok a) (Err k) h l = any k l
between_told (Err j) (Ok b) h l = any j h
between_told (Err j) (Err k) h l = any _ (earlier_low j k h l)

transition_told : (limits : ProfileLimits) (s : List ℕ) → Told (transition_data limits s)
unfolding transition_data ends_of transition_of
transition_told limits s =
    let t = drop 1 s in
    let k = until_of 84 t in
    let P : Ends Refusal → Type 0 = λ (e : Ends Refusal). Told (transition_of e) in
    each P (starts_with 68 s) (Ends.One (limited_of limits (number_of t))) _ (λ _. direct_told _ (limited_passed limits (number_of t)))
    (λ _. each P (not (starts_with 70 s && limits.between_form)) Ends.None _ (λ _. syntax)
    (λ _. each P (leb (length t) k) Ends.None _ (λ _. syntax)
    (λ _. between_told _ _ (limited_passed limits (number_of (take k t))) (limited_passed limits (number_of (drop (k + 1) t))))))

stream_told : (s : List ℕ) (n : ℕ) → Told (stream_of s n)
unfolding stream_of
stream_told s n =
    each Told (eqb (leading s) 0) (Err Refusal.Syntax) _ (λ _. syntax)
    (λ _. each Told (eqb n 10) (Err Refusal.Syntax) _ (λ _. syntax)
    (λ _. each Told (idle_list s) (Err Refusal.Syntax) _ (λ _. syntax)
    (λ _. each Told (not (known_mode s)) (Err Refusal.Range) _ (λ _. range)
    (λ _. each Told (eqb n 11) (Err Refusal.Range) _ (λ _. range)
    (λ _. each Told (eqb n 12) (Err Refusal.Logic) (Ok (Stream (starts_with 52 s))) (λ _. logic) (λ _. tt))))))

told : (limits : ProfileLimits) (key : Key) (s : List ℕ) → Told (verdict_of limits key s)
unfolding verdict_of stream_data
told limits DA s = address_told s
told limits DU s = unit_told s
told limits C1 s = factor_told (number_of s)
told limits CM s = digit_told Control _ (digit_read standard.control_high s)
told limits CC s = digit_told Cathode _ (digit_read standard.cathode_high s)
told limits FC s = digit_told Filament _ (digit_read standard.filament_high s)
told limits ST s = transition_told limits s
told limits SM s = stream_told s (entries_number limits.source_codes (drop 1 s))

-- a write's data are refused with SYNTAX, RANGE or LOGIC only
pub refused_data : RefusedData
refused_data limits key s k e = rw e at (told limits key s)

-- "none with a write" is SYNTAX
pub none_with_write : NoneWithWrite
unfolding verdict_of address_data unit_data unit_text same_text factor_of number_of scan_of parsed_of unsigned_of leading starts_with digit_data digit_of ends_of transition_of transition_data stream_data stream_of pick
none_with_write limits DA = refl
none_with_write limits DU = refl
none_with_write limits C1 = refl
none_with_write limits CM = refl
none_with_write limits CC = refl
none_with_write limits FC = refl
none_with_write limits ST = refl
none_with_write limits SM = refl
