-- The data that a V2 read sends are read as the value that was sent.
use mathlib.Core.Path.{◌≡◌, refl, ap}
use mathlib.Core.Bool.{Bool, true, false, cond, not}
use mathlib.Core.List.{List, [], ◌∷◌}
use Prim.Native.Nat.{ℕ, zero, suc, ◌+◌, ◌<◌, ◌≤◌}
use native.Mathlib.Omega.{arith}
use borrow.Author.Tests.{le-ltb}
use Rattle.std.specs.Prelude.{Err, Ok, Result}
use Rattle.buffer.specs.First.{pick}
use Rattle.buffer.specs.Byte.{within, same_text, numeral_from, digit, leading, starts_with}
use Rattle.buffer.proofs.Laws.{within_true, same_equal}
use Rattle.buffer.proofs.Rules.{each}
use Rattle.decimal.specs.Exact.{units, size_of, normal_of, zero_number}
use Rattle.decimal.specs.Form.{exponent_of, fraction_of, unsigned_of, scan_of, parsed_of, number_of}
use Rattle.decimal.specs.Number.{below_of, counted_of, hundredths_of}
use Rattle.decimal.specs.declared.Number.{Number}
use Rattle.decimal_text.specs.Written.{sign_text, whole_text, written_of, two_decimals}
use Rattle.decimal_facts.specs.Canonical.{Canonical}
use Rattle.decimal_facts.proofs.RoundTrip.{written_reads, hundredths_read}
use Rattle.sources.specs.Entries.{source_texts, entries_of, entries_list}
use Rattle.settings.specs.Settings.{Held}
use Rattle.settings.specs.Sent.{stream_text, read_text}
use Rattle.settings.specs.declared.Key.{Key}
use Rattle.settings.specs.declared.Key.TheVariants.{DA, DU, C1, CM, CC, FC, ST, SM}
use Rattle.settings.specs.declared.Setting.{Setting}
use Rattle.settings.specs.declared.Setting.TheVariants.{Switch}
use Rattle.settings.specs.declared.Transition.TheVariants.{Between}
use Rattle.readings.specs.Bench.{takes, most_degrees}
use Rattle.forms.specs.Forms.{digit_data, between_of, ends_of, transition_of, transition_data, stream_data}
use Rattle.forms.specs.Judged.{verdict_of, if_set, list_in}
use Rattle.forms.specs.declared.Ends.{Ends}
use Rattle.forms.specs.declared.Ends.TheVariants.{None, One, Two}
use Rattle.forms_facts.specs.Sound.{SoundSettings, Proper, setting_in}
use Rattle.forms_facts.proofs.Digit.{digit_exactly}
use Rattle.forms_facts.proofs.Read.{read_again, list_read_again}
use Rattle.forms_facts.proofs.Lemmas.Texts.{none_number}
use Rattle.gauge_rules.specs.RulesV2.{filament_of}
use Rattle.replies_v2_values.specs.Value.{measured_reply, pressure_reply, degrees_reply, temperature_reply, filament_reply, status_reply, held_reply, both_ends, transition_reply, setting_reply}
use Rattle.replies_v2_values.specs.declared.ReplyV2.TheVariants.{Measured, UnderRange, OverRange, Degrees, FilamentNumber, StatusNumber, Holds}
use Rattle.settings.specs.Limits.{ProfileLimits, bench_limits}
use Rattle.readings.specs.Reading.{under_text, over_text}
use Rattle.decimal.specs.declared.NumberError.{NumberError}
use Rattle.replies_v2_values.specs.declared.ReplyV2.{ReplyV2}
use Rattle.refusals.specs.declared.Refusal.{Refusal}

-- ---- FN and FS

-- a digit that is sent, read again
digit_read : (most d : ℕ) → d ≤ most → d < 10 → digit_data most (digit d ∷ []) ≡ Ok d
digit_read most d h k =
    let e : digit d ≡ d + 48 = omega arith in
    (digit_exactly most (digit d ∷ []) d).1 (rw e, h, k)

-- FN is 1 or 2
filament_in : (filament status : ℕ) → (bench_limits.filament_low ≤ filament_of filament status) × (filament_of filament status ≤ bench_limits.filament_high)
unfolding filament_of
filament_in filament status =
    each P _ _ _ (λ e. within_true 1 2 filament e)
    (λ _. each P _ _ _ (λ _. (omega arith, omega arith))
    (λ _. each P _ _ _ (λ _. (omega arith, omega arith)) (λ _. (omega arith, omega arith))))
  where
    P : ℕ → Type 0
    P n = (1 ≤ n) × (n ≤ 2)

pub filament_read : (filament status : ℕ) → filament_reply (digit_data bench_limits.filament_high (digit (filament_of filament status) ∷ [])) ≡ Ok (FilamentNumber (filament_of filament status))
unfolding filament_reply pick
filament_read filament status =
    let d = filament_of filament status in
    let h = filament_in filament status in
    rw (digit_read bench_limits.filament_high d h.1 (omega arith), le-ltb d bench_limits.filament_low h.0)

pub status_read : (d : ℕ) → d ≤ bench_limits.status_high → status_reply (digit_data bench_limits.status_high (digit d ∷ [])) ≡ Ok (StatusNumber d)
unfolding status_reply
status_read d h = rw (digit_read bench_limits.status_high d h (omega arith))

-- ---- settings

-- ST's two ends: what a write would set is what a read holds
between_held : (low high : Result Number Refusal) (x : Setting) → between_of low high ≡ Ok x → both_ends low high ≡ Ok (Holds x)
unfolding between_of both_ends pick
between_held (Ok low) (Ok high) x e = go (below_of low high) e
  where
    go : (b : Bool) → ◌≡◌ {A = Result Setting Refusal} (pick (not b) (Err Refusal.Logic) (Ok (Switch (Between low high)))) (Ok x) → ◌≡◌ {A = Result ReplyV2 Refusal} (Ok (Holds (Switch (Between low high)))) (Ok (Holds x))
    go true h = cc
    go false h = absurd (let z : ◌≡◌ {A = ℕ} 0 1 = cc in omega arith)
between_held (Ok low) (Err k) x e = absurd (let z : ◌≡◌ {A = ℕ} 0 1 = cc in omega arith)
between_held (Err j) (Ok high) x e = absurd (let z : ◌≡◌ {A = ℕ} 0 1 = cc in omega arith)
between_held (Err j) (Err k) x e = absurd (let z : ◌≡◌ {A = ℕ} 0 1 = cc in omega arith)

transition_held : (t : Ends Refusal) (x : Setting) → transition_of t ≡ Ok x → transition_reply t ≡ Ok (Holds x)
unfolding transition_of transition_reply held_reply
transition_held None x e = absurd (let z : ◌≡◌ {A = ℕ} 0 1 = cc in omega arith)
transition_held (One n) x e = ap held_reply e
transition_held (Two low high) x e = between_held low high x e

-- data that a write would accept are read as the setting that it would set
pub accepted_held : (limits : ProfileLimits) (key : Key) (s : List ℕ) (x : Setting) → verdict_of limits key s ≡ Ok x → setting_reply limits key s ≡ Ok (Holds x)
unfolding setting_reply held_reply verdict_of transition_data
accepted_held limits DA s x e = ap held_reply e
accepted_held limits DU s x e = ap held_reply e
accepted_held limits C1 s x e = ap held_reply e
accepted_held limits CM s x e = ap held_reply e
accepted_held limits CC s x e = ap held_reply e
accepted_held limits FC s x e = ap held_reply e
accepted_held limits ST s x e = transition_held (ends_of limits s) x e
accepted_held limits SM s x e = ap held_reply e

pub setting_read : (limits : ProfileLimits) → Proper limits → (key : Key) (h : Held) → SoundSettings limits h → setting_reply limits key (read_text key h) ≡ Ok (Holds (setting_in key h))
setting_read limits ok key h f = accepted_held limits key (read_text key h) (setting_in key h) (read_again limits ok key h f)

-- no text lists no sources
no_sources : (codes : List ℕ) → entries_list codes [] ≡ []
unfolding entries_list entries_of source_texts
no_sources codes = rw (none_number codes)

none_set : (v : Result Setting Refusal) → if_set v [] ≡ []
unfolding if_set
none_set (Ok x) = refl
none_set (Err k) = refl

-- the list of a read of SM: none while no lines are sent
pub stream_list : (limits : ProfileLimits) → Proper limits → (h : Held) → SoundSettings limits h → (on : Bool) → h.streaming ≡ on → list_in limits SM (read_text SM h) ≡ cond on h.list []
unfolding read_text stream_text list_in
stream_list limits ok h f true e = list_read_again limits ok h f e
stream_list limits ok h f false e = rw (e, no_sources limits.source_codes) (none_set (stream_data limits (48 ∷ [])))

-- ---- MV

-- `UR` and `OR` are no numbers
no_numbers : (number_of under_text ≡ Err NumberError.Syntax) × (number_of over_text ≡ Err NumberError.Syntax)
unfolding number_of parsed_of scan_of unsigned_of leading starts_with pick within
no_numbers = (refl, refl)

-- so the text of a number is neither
number_differs : (s t : List ℕ) (n : Number) → number_of s ≡ Ok n → number_of t ≡ Err NumberError.Syntax → same_text s t ≡ false
number_differs s t n e f = go (same_text s t) refl
  where
    go : (b : Bool) → same_text s t ≡ b → b ≡ false
    go false h = refl
    go true h = absurd (let w = same_equal s t h in let z : ◌≡◌ {A = ℕ} 0 1 = cc in omega arith)

pub measured_read : (n : Number) → Canonical n → below_of zero_number n ≡ true → pressure_reply (written_of n) ≡ Ok (Measured n)
unfolding pressure_reply measured_reply takes pick
measured_read n c h =
    let e = written_reads n c in
    rw (number_differs (written_of n) under_text n e no_numbers.0, number_differs (written_of n) over_text n e no_numbers.1, e, h)

pub below_read : pressure_reply under_text ≡ Ok UnderRange
unfolding pressure_reply same_text pick
below_read = refl

pub above_read : pressure_reply over_text ≡ Ok OverRange
unfolding pressure_reply same_text pick
above_read = refl

-- ---- T2

-- 0.00
zero_degrees : temperature_reply (number_of (two_decimals false 0)) ≡ Ok (Degrees false 0)
unfolding temperature_reply degrees_reply hundredths_of counted_of units two_decimals whole_text sign_text number_of parsed_of scan_of unsigned_of fraction_of exponent_of leading starts_with normal_of size_of pick within numeral_from
zero_degrees = refl

-- any other temperature keeps its sign
signed_degrees : (negative : Bool) (h : ℕ) → 1 ≤ h → h ≤ most_degrees negative → h < 100000 → temperature_reply (number_of (two_decimals negative h)) ≡ Ok (Degrees negative h)
unfolding temperature_reply degrees_reply pick
signed_degrees negative h l m k =
    let w = hundredths_read negative h k in
    rw (w.1, w.2, w.3 l, le-ltb (most_degrees negative) h m)

pub degrees_below_read : (h : ℕ) → 1 ≤ h → h ≤ bench_limits.coldest → temperature_reply (number_of (two_decimals true h)) ≡ Ok (Degrees true h)
degrees_below_read h l m = signed_degrees true h l m (omega arith)

pub degrees_read : (h : ℕ) → h ≤ bench_limits.hottest → temperature_reply (number_of (two_decimals false h)) ≡ Ok (Degrees false h)
degrees_read zero m = zero_degrees
degrees_read (suc h) m = signed_degrees false (suc h) (omega arith) m (omega arith)
