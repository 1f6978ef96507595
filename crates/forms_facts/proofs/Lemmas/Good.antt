-- What is accepted lies within the limits, a lemma for each form.
use mathlib.Core.Path.{◌≡◌, refl}
use mathlib.Core.Bool.{true, not, ◌&&◌}
use mathlib.Core.List.{List}
use Prim.Native.Nat.{ℕ, ◌+◌, ◌≤◌}
use borrow.Author.Tests.{not-false}
use lib.Dec.{eqb, leb}
use lib.ListN.{length, take, drop}
use Rattle.std.specs.Prelude.{Err, None, Ok, Option, Result, Some}
use Rattle.buffer.specs.Byte.{within, is_digit, every, same_text, until_of, numeral, leading, starts_with}
use Rattle.buffer.proofs.Rules.{each}
use Rattle.buffer.proofs.Laws.{within_true}
use Rattle.decimal.specs.Form.{number_of}
use Rattle.decimal.specs.Number.{below_of, hundredths_of}
use Rattle.sources.specs.Entries.{entries_number}
use Rattle.settings.specs.Limits.{ProfileLimits, standard, is_factor}
use Rattle.settings.specs.Sent.{unit_text}
use Rattle.settings.specs.declared.PressureUnit.TheVariants.{Mbar, Torr, HPa}
use Rattle.settings.specs.declared.Transition.TheVariants.{Between}
use Rattle.settings.specs.declared.Key.{Key}
use Rattle.settings.specs.declared.Key.TheVariants.{DA, DU, C1, CM, CC, FC, ST, SM}
use Rattle.settings.specs.declared.Setting.{Setting}
use Rattle.settings.specs.declared.Setting.TheVariants.{PressureIn, Factor, Control, Cathode, Filament, Switch, Stream}
use Rattle.forms.specs.Forms.{address_data, unit_data, factor_in, factor_of, digit_data, digit_of, limited_of, direct_of, between_of, ends_of, transition_of, transition_data, idle_list, known_mode, stream_of, stream_data}
use Rattle.forms.specs.Judged.{verdict_of}
use Rattle.forms.specs.declared.Ends.{Ends}
use Rattle.forms.specs.declared.Ends.TheVariants.{One}
use Rattle.forms_facts.proofs.Digit.{digit_exactly}
use Rattle.forms_facts.proofs.Lemmas.Lacks.{both_told}
use Rattle.forms_facts.proofs.Lemmas.Numbers.{read_canonical}
use Rattle.settings.proofs.Laws.{factor_true}
use Rattle.forms_facts.specs.Sound.{InLimits, Sound}
use Rattle.decimal.specs.declared.Number.{Number}
use Rattle.decimal.specs.declared.NumberError.{NumberError}
use Rattle.refusals.specs.declared.Refusal.{Refusal}

-- a verdict that accepts what is sound only
abbrev pub Good : ProfileLimits → Result Setting Refusal → Type 0
Good limits (Ok x) = Sound limits x
Good limits (Err k) = Unit {0}

address_good : (limits : ProfileLimits) (s : List ℕ) → Good limits (address_data s)
unfolding address_data
address_good limits s =
    each (Good limits) (not (eqb (length s) 3)) (Err Refusal.Syntax) _ (λ _. tt)
    (λ _. each (Good limits) (not (every is_digit s)) (Err Refusal.Syntax) _ (λ _. tt)
    (λ _. each (Good limits) (not (within standard.address_low standard.address_high (numeral s))) (Err Refusal.Range) _ (λ _. tt)
    (λ e. within_true standard.address_low standard.address_high (numeral s) (not-false _ e))))

unit_good : (limits : ProfileLimits) (s : List ℕ) → Good limits (unit_data s)
unfolding unit_data
unit_good limits s =
    each (Good limits) (same_text s (unit_text Mbar)) (Ok (PressureIn Mbar)) _ (λ _. tt)
    (λ _. each (Good limits) (same_text s (unit_text Torr)) (Ok (PressureIn Torr)) _ (λ _. tt)
    (λ _. each (Good limits) (same_text s (unit_text HPa)) (Ok (PressureIn HPa)) (Err Refusal.Syntax) (λ _. tt) (λ _. tt)))

factor_in_good : (limits : ProfileLimits) (h : Option ℕ) → Good limits (factor_in h)
unfolding factor_in
factor_in_good limits (Some h) =
    each (Good limits) (not (is_factor h)) (Err Refusal.Range) (Ok (Factor h)) (λ _. tt)
    (λ e. factor_true h (not-false _ e))
factor_in_good limits None = tt

factor_good : (limits : ProfileLimits) (p : Result Number NumberError) → Good limits (factor_of p)
unfolding factor_of
factor_good limits (Err x) = tt
factor_good limits (Ok n) = each (Good limits) n.negative (Err Refusal.Range) (factor_in (hundredths_of n)) (λ _. tt) (λ _. factor_in_good limits (hundredths_of n))

digit_good : (limits : ProfileLimits) (setting : ℕ → Setting) (most : ℕ) (s : List ℕ) → ((d : ℕ) → d ≤ most → Sound limits (setting d)) → Good limits (digit_of setting (digit_data most s))
unfolding digit_of
digit_good limits setting most s f = go (digit_data most s) refl
  where
    go : (r : Result ℕ Refusal) → digit_data most s ≡ r → Good limits (digit_of setting r)
    go (Ok d) e = f d ((digit_exactly most s d).0 e).1
    go (Err k) e = tt

-- a number that passes the limits
abbrev Passed : ProfileLimits → Result Number Refusal → Type 0
Passed limits (Ok n) = InLimits limits n
Passed limits (Err k) = Unit {0}

limited_passed : (limits : ProfileLimits) (s : List ℕ) → Passed limits (limited_of limits (number_of s))
unfolding limited_of
limited_passed limits s = go (number_of s) refl
  where
    go : (p : Result Number NumberError) → number_of s ≡ p → Passed limits (limited_of limits p)
    go (Err x) e = tt
    go (Ok n) e =
        each (Passed limits) (below_of n limits.transition_low) (Err Refusal.Range) _ (λ _. tt)
        (λ l. each (Passed limits) (below_of limits.transition_high n) (Err Refusal.Range) (Ok n) (λ _. tt)
        (λ h. record { canonical = read_canonical s n e; low = l; high = h }))

direct_good : (limits : ProfileLimits) (r : Result Number Refusal) → Passed limits r → Good limits (direct_of r)
unfolding direct_of
direct_good limits (Ok n) h = h
direct_good limits (Err k) h = tt

between_good : (limits : ProfileLimits) (a b : Result Number Refusal) → limits.between_form ≡ true → Passed limits a → Passed limits b → Good limits (between_of a b)
unfolding between_of
between_good limits (Ok a) (Ok b) f h k = each (Good limits) (not (below_of a b)) (Err Refusal.Logic) (Ok (Switch (Between a b))) (λ _. tt) (λ e. (f, h, k, not-false _ e))
between_good limits (Ok a) (Err k) f h l = tt
between_good limits (Err j) (Ok b) f h l = tt
between_good limits (Err j) (Err k) f h l = tt

transition_good : (limits : ProfileLimits) (s : List ℕ) → Good limits (transition_data limits s)
unfolding transition_data ends_of transition_of
transition_good limits s =
    let t = drop 1 s in
    let k = until_of 84 t in
    let P : Ends Refusal → Type 0 = λ (e : Ends Refusal). Good limits (transition_of e) in
    each P (starts_with 68 s) (One (limited_of limits (number_of t))) _ (λ _. direct_good limits _ (limited_passed limits t))
    (λ _. each P (not (starts_with 70 s && limits.between_form)) Ends.None _ (λ _. tt)
    (λ f. each P (leb (length t) k) Ends.None _ (λ _. tt)
    (λ _. between_good limits _ _ (both_told (starts_with 70 s) limits.between_form f).1 (limited_passed limits (take k t)) (limited_passed limits (drop (k + 1) t)))))

stream_good : (limits : ProfileLimits) (s : List ℕ) (n : ℕ) → Good limits (stream_of s n)
unfolding stream_of
stream_good limits s n =
    each (Good limits) (eqb (leading s) 0) (Err Refusal.Syntax) _ (λ _. tt)
    (λ _. each (Good limits) (eqb n 10) (Err Refusal.Syntax) _ (λ _. tt)
    (λ _. each (Good limits) (idle_list s) (Err Refusal.Syntax) _ (λ _. tt)
    (λ _. each (Good limits) (not (known_mode s)) (Err Refusal.Range) _ (λ _. tt)
    (λ _. each (Good limits) (eqb n 11) (Err Refusal.Range) _ (λ _. tt)
    (λ _. each (Good limits) (eqb n 12) (Err Refusal.Logic) (Ok (Stream (starts_with 52 s))) (λ _. tt) (λ _. tt))))))

pub good : (limits : ProfileLimits) (key : Key) (s : List ℕ) → Good limits (verdict_of limits key s)
unfolding verdict_of stream_data
good limits DA s = address_good limits s
good limits DU s = unit_good limits s
good limits C1 s = factor_good limits (number_of s)
good limits CM s = digit_good limits Control standard.control_high s (λ d h. h)
good limits CC s = digit_good limits Cathode standard.cathode_high s (λ d h. h)
good limits FC s = digit_good limits Filament standard.filament_high s (λ d h. h)
good limits ST s = transition_good limits s
good limits SM s = stream_good limits s (entries_number limits.source_codes (drop 1 s))
