-- The number of the V2 reader's answer to any bytes.
use mathlib.Core.Path.{◌≡◌, refl, sym}
use mathlib.Core.Bool.{Bool, true, false, cond, not, ◌&&◌, ◌||◌}
use mathlib.Core.List.{List}
use mathlib.Core.Logic.{◌⊎◌, inl, inr}
use Prim.Native.Nat.{ℕ, ◌+◌, ◌-◌}
use lib.Dec.{eqb, ltb}
use lib.ListN.{length, take, drop}
use Rattle.std.specs.Prelude.{Err, None, Ok, Option, Result, Some}
use Rattle.buffer.specs.First.{pick}
use Rattle.buffer.specs.Byte.{at, is_digit, same_text, until_of}
use Rattle.buffer.proofs.Rules.{each}
use Rattle.frames.specs.Frame.{data_from}
use Rattle.error_texts.specs.Texts.{error_bytes}
use Rattle.error_texts.specs.declared.ErrorText.TheVariants as error
use Rattle.decimal.specs.Form.{number_of, parsed_number}
use Rattle.decimal.specs.Number.{below_of, hundredths_of}
use Rattle.sources.specs.Entries.{entries_number}
use Rattle.settings.specs.Limits.{ProfileLimits, standard, bench_limits}
use Rattle.settings.specs.declared.Transition.TheVariants.{Between}
use Rattle.settings.specs.declared.Key.{Key}
use Rattle.settings.specs.declared.Key.TheVariants.{DA, DU, C1, CM, CC, FC, ST, SM}
use Rattle.settings.specs.declared.Setting.{Setting}
use Rattle.settings.specs.declared.Setting.TheVariants.{Control, Cathode, Filament, Switch}
use Rattle.readings.specs.Bench.{takes, outside_degrees}
use Rattle.forms.specs.Forms.{address_data, unit_data, factor_in, factor_of, digit_data, digit_of, limited_of, direct_of, earlier, between_of, ends_of, transition_of, transition_data, stream_of, stream_data}
use Rattle.forms.specs.Judged.{verdict_of, verdict_number}
use Rattle.forms.specs.declared.Ends.{Ends}
use Rattle.requests.specs.Command.{command_text}
use Rattle.requests.specs.declared.Command.{Command}
use Rattle.requests.specs.declared.Command.TheVariants.{MV, T2, FN, FS, Of}
use Rattle.requests.specs.declared.RequestV2.{RequestV2}
use Rattle.requests.specs.declared.RequestV2.TheVariants as request
use Rattle.replies_v2_values.specs.Value.{measured_reply, pressure_reply, degrees_reply, temperature_reply, filament_reply, status_reply, held_reply, both_ends, transition_reply, setting_reply, value_reply}
use Rattle.replies_v2_values.specs.declared.ReplyV2.{ReplyV2}
use Rattle.replies_v2_values.specs.declared.ReplyV2.TheVariants.{Measured, UnderRange, OverRange, Degrees, FilamentNumber, StatusNumber, Holds, Done, Error}
use Rattle.replies_v2.specs.ReplyV2.{error_reply, done_reply, data_reply, body_reply, read_v2, read_shown_v2}
use Rattle.answers_facts.specs.Rows.{Told}
use Rattle.answers_facts.specs.ReadV2.{read_number, is_read, unmeasured, one_digit, bad_value, too_low, beyond, no_degrees, outside, error_text, bad_data, outside_data, repeated, repeated_data}
use Rattle.answers_facts.specs.Theorems.{ReplyNumberV2}
use Rattle.answers_facts.proofs.Rows.{row, to, through, not_0}
use Rattle.readings.specs.Reading.{under_text, over_text}
use Rattle.decimal.specs.declared.Number.{Number}
use Rattle.decimal.specs.declared.NumberError.{NumberError}
use Rattle.refusals.specs.Number.{refusal_number}
use Rattle.refusals.specs.declared.Refusal.{Refusal}

abbrev Numbered : Result ReplyV2 Refusal → ℕ → Type 0
Numbered = Told read_number is_read 0

refused : (k : Refusal) → Numbered (Err k) (refusal_number k)
unfolding read_number is_read read_shown_v2
refused k = record { number_is = refl; exactly = sym (not_0 k) }

read : (x : ReplyV2) → Numbered (Ok x) 0
unfolding read_number is_read read_shown_v2
read (Measured n) = record { number_is = refl; exactly = refl }
read UnderRange = record { number_is = refl; exactly = refl }
read OverRange = record { number_is = refl; exactly = refl }
read (Degrees negative h) = record { number_is = refl; exactly = refl }
read (FilamentNumber d) = record { number_is = refl; exactly = refl }
read (StatusNumber d) = record { number_is = refl; exactly = refl }
read (Holds x) = record { number_is = refl; exactly = refl }
read Done = record { number_is = refl; exactly = refl }
read (Error e) = record { number_is = refl; exactly = refl }

-- the rows of data, and those of all but SM's: nothing is 12
abbrev all : Bool → Bool → Bool → ℕ
all b o t = pick b 10 (pick o 11 (pick t 12 0))

abbrev rows : Bool → Bool → ℕ
rows b o = pick b 10 (pick o 11 0)

never : (b : Bool) → ◌≡◌ {A = ℕ} (pick b 10 0) (rows b false)
unfolding pick
never b = refl

parsed_measured : (p : Result Number NumberError) → Numbered (measured_reply p) (rows (eqb (parsed_number p) 10) (too_low p))
unfolding measured_reply too_low pick
parsed_measured (Ok n) = row (not (takes 0 n)) (refused Refusal.Range) (read (Measured n))
parsed_measured (Err NumberError.Syntax) = refused Refusal.Syntax
parsed_measured (Err NumberError.Range) = refused Refusal.Range

-- `UR`, `OR` and numbers
either : (u o b z : Bool) → ◌≡◌ {A = ℕ} (pick u 0 (pick o 0 (rows b z))) (rows (not (u || o) && b) (not (u || o) && z))
unfolding pick
either true o b z = refl
either false true b z = refl
either false false b z = refl

hundredths : (negative : Bool) (h : Option ℕ) → Numbered (degrees_reply negative h) (rows false (beyond negative h))
unfolding degrees_reply beyond pick
hundredths negative (Some h) = row (outside_degrees negative h) (refused Refusal.Range) (read (Degrees negative h))
hundredths negative None = refused Refusal.Range

parsed_degrees : (p : Result Number NumberError) → Numbered (temperature_reply p) (rows (eqb (parsed_number p) 10) (no_degrees p))
unfolding temperature_reply no_degrees pick
parsed_degrees (Ok n) = hundredths n.negative (hundredths_of n)
parsed_degrees (Err NumberError.Syntax) = refused Refusal.Syntax
parsed_degrees (Err NumberError.Range) = refused Refusal.Range

-- one digit
digit : (a b z : Bool) → ◌≡◌ {A = ℕ} (pick (not a) 10 (pick (not b) 10 (pick z 11 0))) (rows (not (a && b)) z)
unfolding pick
digit true true z = refl
digit true false z = refl
digit false b z = refl

both : (a b y z : Bool) → ◌≡◌ {A = ℕ} (pick (not a) 10 (pick (not b) 10 (pick y 11 (pick z 11 0)))) (rows (not (a && b)) (y || z))
unfolding pick
both true true true z = refl
both true true false z = refl
both true false y z = refl
both false b y z = refl

status_is : (v : ℕ) → Numbered (status_reply (Ok v)) 0
unfolding status_reply
status_is v = read _

status_not : (k : Refusal) → Numbered (status_reply (Err k)) (refusal_number k)
unfolding status_reply
status_not k = refused k

filament_is : (v : ℕ) → Numbered (filament_reply (Ok v)) (pick (ltb v bench_limits.filament_low) 11 0)
unfolding filament_reply
filament_is v = row _ (refused Refusal.Range) (read _)

filament_not : (k : Refusal) → Numbered (filament_reply (Err k)) (refusal_number k)
unfolding filament_reply
filament_not k = refused k

status_number : (d : List ℕ) → Numbered (status_reply (digit_data bench_limits.status_high d)) (rows (not (one_digit d)) (ltb bench_limits.status_high (at d 0 - 48)))
unfolding digit_data
status_number d =
    to (digit (eqb (length d) 1) (is_digit (at d 0)) (ltb bench_limits.status_high (at d 0 - 48)))
    (through status_reply _ (Err Refusal.Syntax) _ (status_not Refusal.Syntax) (through status_reply _ (Err Refusal.Syntax) _ (status_not Refusal.Syntax) (through status_reply _ (Err Refusal.Range) _ (status_not Refusal.Range) (status_is _))))

filament_number : (d : List ℕ) → Numbered (filament_reply (digit_data bench_limits.filament_high d)) (rows (not (one_digit d)) (ltb bench_limits.filament_high (at d 0 - 48) || ltb (at d 0 - 48) bench_limits.filament_low))
unfolding digit_data
filament_number d =
    to (both (eqb (length d) 1) (is_digit (at d 0)) (ltb bench_limits.filament_high (at d 0 - 48)) (ltb (at d 0 - 48) bench_limits.filament_low))
    (through filament_reply _ (Err Refusal.Syntax) _ (filament_not Refusal.Syntax) (through filament_reply _ (Err Refusal.Syntax) _ (filament_not Refusal.Syntax) (through filament_reply _ (Err Refusal.Range) _ (filament_not Refusal.Range) (filament_is _))))

-- settings

-- SYNTAX or RANGE
abbrev Low : Refusal → Type 0
Low k = (k ≡ Refusal.Syntax) ⊎ (k ≡ Refusal.Range)

-- a verdict that refuses with these only
abbrev Judged : Result Setting Refusal → Type 0
Judged (Ok x) = Unit {0}
Judged (Err k) = Low k

abbrev written : ℕ → ℕ
written w = rows (eqb w 10) (eqb w 11)

refused_low : (k : Refusal) → Low k → Numbered (Err k) (written (refusal_number k))
unfolding pick
refused_low k (inl e) = rw e (refused Refusal.Syntax)
refused_low k (inr e) = rw e (refused Refusal.Range)

held : (v : Result Setting Refusal) → Judged v → Numbered (held_reply v) (written (verdict_number v))
unfolding held_reply pick
held (Ok x) j = read _
held (Err k) j = refused_low k j

syntax : Low Refusal.Syntax
syntax = inl refl

range : Low Refusal.Range
range = inr refl

address_low_lem : (s : List ℕ) → Judged (address_data s)
unfolding address_data
address_low_lem s = each Judged _ (Err Refusal.Syntax) _ (λ _. syntax) (λ _. each Judged _ (Err Refusal.Syntax) _ (λ _. syntax) (λ _. each Judged _ (Err Refusal.Range) _ (λ _. range) (λ _. tt)))

unit_low_lem : (s : List ℕ) → Judged (unit_data s)
unfolding unit_data
unit_low_lem s = each Judged _ _ _ (λ _. tt) (λ _. each Judged _ _ _ (λ _. tt) (λ _. each Judged _ _ (Err Refusal.Syntax) (λ _. tt) (λ _. syntax)))

factor_in_low : (h : Option ℕ) → Judged (factor_in h)
unfolding factor_in
factor_in_low (Some h) = each Judged _ (Err Refusal.Range) _ (λ _. range) (λ _. tt)
factor_in_low None = range

factor_low_lem : (p : Result Number NumberError) → Judged (factor_of p)
unfolding factor_of
factor_low_lem (Err NumberError.Syntax) = syntax
factor_low_lem (Err NumberError.Range) = range
factor_low_lem (Ok n) = each Judged _ (Err Refusal.Range) _ (λ _. range) (λ _. factor_in_low (hundredths_of n))

digit_low : (setting : ℕ → Setting) (most : ℕ) (s : List ℕ) → Judged (digit_of setting (digit_data most s))
unfolding digit_of digit_data
digit_low setting most s =
    let P : Result ℕ Refusal → Type 0 = λ (r : Result ℕ Refusal). Judged (digit_of setting r) in
    each P _ (Err Refusal.Syntax) _ (λ _. syntax) (λ _. each P _ (Err Refusal.Syntax) _ (λ _. syntax) (λ _. each P _ (Err Refusal.Range) _ (λ _. range) (λ _. tt)))

-- SM's list: LOGIC too
abbrev JudgedList : Result Setting Refusal → Type 0
JudgedList (Ok x) = Unit {0}
JudgedList (Err k) = Low k ⊎ (k ≡ Refusal.Logic)

held_list : (v : Result Setting Refusal) → JudgedList v → Numbered (held_reply v) (all (eqb (verdict_number v) 10) (eqb (verdict_number v) 11) (eqb (verdict_number v) 12))
unfolding held_reply pick
held_list (Ok x) j = read _
held_list (Err k) (inl (inl e)) = rw e (refused Refusal.Syntax)
held_list (Err k) (inl (inr e)) = rw e (refused Refusal.Range)
held_list (Err k) (inr e) = rw e (refused Refusal.Logic)

stream_judged : (s : List ℕ) (n : ℕ) → JudgedList (stream_of s n)
unfolding stream_of
stream_judged s n =
    each JudgedList _ (Err Refusal.Syntax) _ (λ _. inl syntax)
    (λ _. each JudgedList _ (Err Refusal.Syntax) _ (λ _. inl syntax)
    (λ _. each JudgedList _ (Err Refusal.Syntax) _ (λ _. inl syntax)
    (λ _. each JudgedList _ (Err Refusal.Range) _ (λ _. inl range)
    (λ _. each JudgedList _ (Err Refusal.Range) _ (λ _. inl range)
    (λ _. each JudgedList _ (Err Refusal.Logic) _ (λ _. inr refl) (λ _. tt))))))

abbrev Passed : Result Number Refusal → Type 0
Passed (Ok n) = Unit {0}
Passed (Err k) = Low k

limited_low : (limits : ProfileLimits) (p : Result Number NumberError) → Passed (limited_of limits p)
unfolding limited_of
limited_low limits (Err NumberError.Syntax) = syntax
limited_low limits (Err NumberError.Range) = range
limited_low limits (Ok n) = each Passed _ (Err Refusal.Range) _ (λ _. range) (λ _. each Passed _ (Err Refusal.Range) _ (λ _. range) (λ _. tt))

-- F and T in a wrong order are refused to a write with 12, and read in a reply
order : (b : Bool) (x : Setting) → written (verdict_number (pick b (Err Refusal.Logic) (Ok x))) ≡ 0
unfolding pick
order true x = refl
order false x = refl

direct_number : (a : Result Number Refusal) → Passed a → Numbered (held_reply (direct_of a)) (written (verdict_number (direct_of a)))
unfolding direct_of
direct_number (Ok n) h = held (Ok _) tt
direct_number (Err k) h = held (Err k) h

-- of two refusals the one with the lesser number
earlier_low : (j k : Refusal) → Low j → Low k → Low (earlier j k)
unfolding earlier
earlier_low j k h l = each Low _ j k (λ _. h) (λ _. l)

both_number : (a b : Result Number Refusal) → Passed a → Passed b → Numbered (both_ends a b) (written (verdict_number (between_of a b)))
unfolding both_ends between_of
both_number (Ok a) (Ok b) h l = to (sym (order (not (below_of a b)) (Switch (Between a b)))) (read _)
both_number (Ok a) (Err k) h l = refused_low k l
both_number (Err j) (Ok b) h l = refused_low j h
both_number (Err j) (Err k) h l = refused_low (earlier j k) (earlier_low j k h l)

ends_number : (limits : ProfileLimits) (s : List ℕ) → Numbered (transition_reply (ends_of limits s)) (written (verdict_number (transition_of (ends_of limits s))))
unfolding ends_of transition_reply transition_of
ends_number limits s =
    let t = drop 1 s in
    let k = until_of 84 t in
    let P : Ends Refusal → Type 0 = λ (e : Ends Refusal). Numbered (transition_reply e) (written (verdict_number (transition_of e))) in
    each P _ (Ends.One (limited_of limits (number_of t))) _ (λ _. direct_number _ (limited_low limits (number_of t)))
    (λ _. each P _ Ends.None _ (λ _. refused_low Refusal.Syntax syntax)
    (λ _. each P _ Ends.None _ (λ _. refused_low Refusal.Syntax syntax)
    (λ _. both_number _ _ (limited_low limits (number_of (take k t))) (limited_low limits (number_of (drop (k + 1) t))))))

setting_number : (limits : ProfileLimits) (key : Key) (s : List ℕ) → Numbered (setting_reply limits key s) (all (eqb (verdict_number (verdict_of limits key s)) 10) (eqb (verdict_number (verdict_of limits key s)) 11) (repeated limits (Of key) s))
unfolding setting_reply verdict_of transition_data stream_data repeated command_text same_text pick
setting_number limits DA s = held _ (address_low_lem s)
setting_number limits DU s = held _ (unit_low_lem s)
setting_number limits C1 s = held _ (factor_low_lem (number_of s))
setting_number limits CM s = held _ (digit_low Control standard.control_high s)
setting_number limits CC s = held _ (digit_low Cathode standard.cathode_high s)
setting_number limits FC s = held _ (digit_low Filament standard.filament_high s)
setting_number limits ST s = ends_number limits s
setting_number limits SM s = held_list _ (stream_judged s (entries_number limits.source_codes (drop 1 s)))

value_number : (limits : ProfileLimits) (c : Command) (d : List ℕ) → Numbered (value_reply limits c d) (all (bad_value limits c d) (outside limits c d) (repeated limits c d))
unfolding value_reply bad_value outside unmeasured pressure_reply repeated command_text same_text pick
value_number limits MV d =
    to (either (same_text d under_text) (same_text d over_text) (eqb (parsed_number (number_of d)) 10) (too_low (number_of d)))
    (row (same_text d under_text) (read UnderRange) (row (same_text d over_text) (read OverRange) (parsed_measured (number_of d))))
value_number limits T2 d = parsed_degrees (number_of d)
value_number limits FN d = filament_number d
value_number limits FS d = status_number d
value_number limits (Of key) d = setting_number limits key d

done_number : (d : List ℕ) → Numbered (done_reply d) (rows (not (eqb (length d) 0)) false)
unfolding done_reply
done_number d = to (never (not (eqb (length d) 0))) (row _ (refused Refusal.Syntax) (read Done))

data_number_lem : (limits : ProfileLimits) (r : RequestV2) (d : List ℕ) → Numbered (data_reply limits r d) (all (bad_data limits r d) (outside_data limits r d) (repeated_data limits r d))
unfolding data_reply bad_data outside_data repeated_data pick
data_number_lem limits (request.Read c) d = value_number limits c d
data_number_lem limits (request.Restore c) d = done_number d
data_number_lem limits (request.Set x) d = done_number d

-- six texts, one after another
six : (a b c d e f : Bool)
    → ◌≡◌ {A = ℕ} (pick a 0 (pick b 0 (pick c 0 (pick d 0 (pick e 0 (pick f 0 10)))))) (pick (not (pick a true (pick b true (pick c true (pick d true (pick e true (pick f true false))))))) 10 0)
unfolding pick
six true b c d e f = refl
six false true c d e f = refl
six false false true d e f = refl
six false false false true e f = refl
six false false false false true f = refl
six false false false false false true = refl
six false false false false false false = refl

error_number : (d : List ℕ) → Numbered (error_reply d) (pick (not (error_text d)) 10 0)
unfolding error_reply error_text error_bytes
error_number d =
    to (six _ _ _ _ _ _) (row _ (read (Error error.Length)) (row _ (read (Error error.Logic)) (row _ (read (Error error.NoDef)) (row _ (read (Error error.Syntax))
    (row _ (read (Error error.Range)) (row _ (read (Error error.Error1)) (refused Refusal.Syntax)))))))

-- a refusal's data, or those of an answer
by_access : (e x y z t : Bool) → ◌≡◌ {A = ℕ} (pick e (pick x 10 0) (all y z t)) (all (cond e x y) (not e && z) (not e && t))
unfolding pick
by_access true x y z t = refl
by_access false x y z t = refl

-- the number of any bytes, read as the reply to any request that was sent to any address; it is 0 exactly if a reply was read
pub reply_number : ReplyNumberV2
unfolding read_v2 body_reply
reply_number limits address r s =
    row _ (refused Refusal.Shape) (row _ (refused Refusal.Checksum) (row _ (refused Refusal.Address) (row _ (refused Refusal.Other) (row _ (refused Refusal.Length) (row _ (refused Refusal.Mismatch)
    (to (by_access _ _ _ _ _) (row _ (error_number (data_from 8 s)) (data_number_lem limits r (data_from 8 s)))))))))
