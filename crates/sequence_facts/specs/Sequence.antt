-- Any sequence of calls from factory settings, as it is seen from outside, and the one claim about it.
use Rattle.std.specs.Prelude.{◌≡◌, Bool, true, false, not, ◌&&◌, List, [], ◌∷◌, map, ℕ, ◌≤◌, eqb, length, take}
use Rattle.std.proofs.Math.Option.{Option, none, some}
use Rattle.buffer.specs.First.{pick}
use Rattle.buffer.specs.Byte.{at, within, same_text}
use Rattle.buffer.specs.Answer.{Sent}
use Rattle.buffer.specs.declared.Written.{Written}
use Rattle.buffer.specs.Quoted.{bytes}
use Rattle.frames.specs.Frame.{data_from}
use Rattle.decimal.specs.Number.{below_of}
use Rattle.decimal.specs.declared.Number.{Number}
use Rattle.sources.specs.declared.Profile.{Profile}
use Rattle.sources.specs.declared.Profile.TheVariants.{Standard, Vsh, Vsm}
use Rattle.settings.specs.Limits.{ProfileLimits, longest_line}
use Rattle.settings.specs.Settings.{held, factory}
use Rattle.settings.specs.declared.Transition.TheVariants.{Between}
use Rattle.settings.specs.declared.Key.{Key}
use Rattle.readings.specs.Reading.{start}
use Rattle.readings.specs.Bench.{bench_number}
use Rattle.readings.specs.declared.Reading.{Reading}
use Rattle.readings.specs.declared.Bench.{Bench}
use Rattle.readings.specs.Place.{Place, code_of, reading_at}
use Rattle.readings.specs.There.{names}
use Rattle.readings_facts.specs.Handed.{Handed}
use Rattle.line.specs.Line.{line_answer}
use Rattle.gauge_rules.specs.State.{State, state_of, fresh}
use Rattle.gauge_rules.specs.declared.Gauge.{Gauge}
use Rattle.gauge_rules.specs.BenchIn.{bench_in}
use Rattle.gauge_table.specs.Asked.{is_v1}
use Rattle.gauge_table.specs.After.{answer_of}
use Rattle.text_gauge.specs.Answer.{Answers, Benches}
use Rattle.buffer.specs.declared.Answered.{Answered}
use Rattle.buffer.specs.declared.BenchAnswer.{BenchAnswer}
use Rattle.gauge_facts.specs.Sound.{SoundState}
use Rattle.history.specs.Latest.{Each, latest}
use Rattle.sequence_facts.specs.Model.{Fed, request, bench, line, model_of}
use Rattle.sequence_facts.specs.Writes.{Value, holding, writes}
use Rattle.sequence_facts.specs.Shown.{Listed, shown_line, values_in}

-- ---- calls

-- one call and its answer: a request s, with the memory lent as it was before, the number and length that came back, and the memory
-- afterwards; a bench setting and its number; a request for the stream line
pub data Exchange : Type 0 where
  asked : (s before : List ℕ) (number len : ℕ) (after : List ℕ) → Exchange
  bench_set : (b : Bench) (number : ℕ) → Exchange
  lined : (before : List ℕ) (number len : ℕ) (after : List ℕ) → Exchange

-- the calls that were made, the latest first
abbrev pub History : Type 0
History = List Exchange

-- what the reference model is fed of a call: no answers
abbrev pub fed : Exchange → Fed
fed (asked s before number len after) = request s (length before)
fed (bench_set b number) = bench b
fed (lined before number len after) = line (length before)

abbrev pub model : ProfileLimits → History → State
model limits h = model_of limits (map fed h)

-- "Start each simulated gauge at factory settings, and let any sequence of calls reach it .. Each call gets the state that the last one left, and
-- nobody else changes it." It starts with the limits of its profile. Of a call nothing is known but its contract, word for word.
pub data Trace (limits : ProfileLimits) : History → Gauge → Type 0 where
  begin : {g : Gauge} → state_of g ≡ fresh limits → Trace limits [] g
  ask : {h : History} {g : Gauge} {s before after : List ℕ} {r : Answered Gauge} → Trace limits h g → Answers (state_of g) s before after r
      → Trace limits (asked s before r.written.number r.written.len after ∷ h) r.gauge
  set_bench : {h : History} {g : Gauge} {b : Bench} {r : BenchAnswer Gauge} → Trace limits h g → Benches (state_of g) b r → Trace limits (bench_set b r.number ∷ h) r.gauge
  show : {h : History} {g : Gauge} {before after : List ℕ} {w : Written} → Trace limits h g
      → Sent before (line_answer (state_of g).limits (length before) (held g.settings) g.readings) after w → Trace limits (lined before w.number w.len after ∷ h) g

-- ---- what the rules fix

-- "each answer number and reply, with its length, is what document 01 fixes from the gauge's book"; "the lent memory starts with that reply and is
-- otherwise unchanged": `Sent` has both. The reply lies within the memory
abbrev pub Fixed : State → Exchange → Type 0
Fixed m (asked s before number len after) =
    Sent before (answer_of m (length before) s) after (record { number = number; len = len }) × (len ≤ length before)
Fixed m (bench_set b number) = number ≡ bench_number (bench_in m.limits b)
Fixed m (lined before number len after) =
    Sent before (line_answer m.limits (length before) m.settings m.readings) after (record { number = number; len = len }) × (len ≤ length before)

-- each call's answer is what the rules fix from the model of the calls before it
abbrev pub AllFixed : ProfileLimits → History → Type 0
AllFixed limits h = Each (λ earlier e. Fixed (model limits earlier) e) h

-- ---- what the calls themselves say, without the model

-- what a call, by its bytes and its answered number, says of a setting
unfoldable pub says_setting : ProfileLimits → Key → Exchange → Option Value
says_setting limits key (asked s before number len after) = pick (eqb number 0) (writes limits key s) none
says_setting limits key (bench_set b number) = none
says_setting limits key (lined before number len after) = none

-- whether two codes are one; FS has none
unfoldable pub same_code : Option ℕ → Option ℕ → Bool
same_code none none = true
same_code none (some b) = false
same_code (some a) none = false
same_code (some a) (some b) = eqb a b

-- where a reading is from: the start, or a bench setting
pub data Origin : Type 0 where
  started : Origin
  handed : Bench → Origin

-- what a call says of a reading: a bench setting that names its source and was answered 0, and nothing else
unfoldable pub says_reading : Place → Exchange → Option Origin
says_reading p (asked s before number len after) = none
says_reading p (bench_set b number) = pick (eqb number 0 && same_code (names b) (code_of p)) (some (handed b)) none
says_reading p (lined before number len after) = none

-- the reading of a place that is from there: it is what it was at the start, or what the bench setting handed over
abbrev pub Stands : Place → Origin → Reading → Type 0
Stands p started x = x ≡ reading_at p start
Stands p (handed b) x = Handed b x

-- the bytes of an unlock: the letter `c` with the data `1`
unfoldable pub is_unlock : List ℕ → Bool
is_unlock s = eqb (at s 3) 99 && same_text (data_from 4 s) (bytes "1")

-- a V1 request past check 5 says whether it was an accepted unlock; nothing else says anything
unfoldable pub says_unlock : Exchange → Option Bool
says_unlock (asked s before number len after) = pick (is_v1 s && not (within 1 5 number)) (some (eqb number 0 && is_unlock s)) none
says_unlock (bench_set b number) = none
says_unlock (lined before number len after) = none

-- ---- the claim

-- a gauge that was asked for the line gave this answer
abbrev pub LineOf : Gauge → List ℕ → List ℕ → Written → Type 0
LineOf g before after w = Sent before (line_answer (state_of g).limits (length before) (held g.settings) g.readings) after w

-- while it sends lines and as much is lent as the longest line of its profile has, it answers 0 and writes the line of what stands at these places
abbrev pub Shows : Gauge → List Place → Type 0
Shows g places = (before after : List ℕ) (w : Written) → LineOf g before after w → g.settings.streaming ≡ true → longest_line (state_of g).limits.source_codes ≤ length before
    → (w.number ≡ 0) × (take w.len after ≡ shown_line g.readings places)

pub record Claim (limits : ProfileLimits) (h : History) (g : Gauge) : Type 0 where
  -- "For every such sequence, each answer number and reply, with its length, is what document 01 fixes from the gauge's book"
  pub answers : AllFixed limits h
  -- "and at the end the gauge holds what the book holds"
  pub holds : state_of g ≡ model limits h
  -- the profile: "chosen when the gauge is made and fixed after that"
  pub limits_stay : (state_of g).limits ≡ limits
  -- "Each setting is what the last request accepted for it wrote or restored, or the factory value if none did."
  pub setting : (key : Key) → holding key (state_of g).settings ≡ latest (says_setting limits key) (holding key (factory limits)) h
  -- "Each reading and FS is what the bench, accepted, last set there, or its start."
  pub reading : (p : Place) → Stands p (latest (says_reading p) started h) (reading_at p g.readings)
  -- "A gauge is unlocked exactly when the last V1 request past check 5 was an accepted unlock."
  pub unlocked : g.unlocked ≡ latest says_unlock false h
  -- every value is within its limits; "A transition's lower end stays below its upper end."
  pub sound : SoundState (state_of g)
  pub below : (low high : Number) → g.settings.transition ≡ Between low high → below_of low high ≡ true
  -- "A text gauge then asked for the stream line, with any memory lent, answers and writes exactly what document 01 fixes from the book"
  pub line_is : (before after : List ℕ) (w : Written) → LineOf g before after w → Sent before (line_answer (model limits h).limits (length before) (model limits h).settings (model limits h).readings) after w
  -- "The line is source 0, then the list in order, joined by `;`": each place shows the reading that stands at its source. Nothing is cut: the
  -- list is whole, and so is each value
  pub line_shows : (places : List Place) × Listed (held g.settings).list places × Shows g places
  -- the line never has more values than the profile has sources, or more bytes than the longest line of these, whatever memory is lent: counted
  -- on the bytes that were written
  pub line_values : (before after : List ℕ) (w : Written) → LineOf g before after w → values_in (take w.len after) ≤ length limits.source_codes
  pub line_bytes : (before after : List ℕ) (w : Written) → LineOf g before after w → (length (take w.len after) ≡ w.len) × (w.len ≤ longest_line limits.source_codes)

-- ---- a profile's own claim, in its numbers

-- "The line then has at most seven values", 71 bytes; VSH's and VSM's three, 30 bytes
abbrev pub most_values : Profile → ℕ
most_values Standard = 7
most_values Vsh = 3
most_values Vsm = 3

abbrev pub most_bytes : Profile → ℕ
most_bytes Standard = 71
most_bytes Vsh = 30
most_bytes Vsm = 30

-- the gauge is still of this profile, and its line within these numbers
pub record OfProfile (p : Profile) (g : Gauge) : Type 0 where
  pub profile : g.profile ≡ p
  pub line_values : (before after : List ℕ) (w : Written) → LineOf g before after w → values_in (take w.len after) ≤ most_values p
  pub line_bytes : (before after : List ℕ) (w : Written) → LineOf g before after w → w.len ≤ most_bytes p
