-- Any sequence of calls of the OPG from factory settings, as it is seen from outside, and the one claim about it.
use Rattle.std.specs.Prelude.{◌≡◌, Bool, true, ◌&&◌, List, [], ◌∷◌, map, ℕ, ◌+◌, ◌*◌, ◌≤◌, eqb, length}
use Rattle.std.proofs.Math.Option.{Option, none, some}
use Rattle.buffer.specs.Answer.{Sent}
use Rattle.buffer.specs.Byte.{at}
use Rattle.buffer.specs.First.{pick}
use Rattle.history.specs.Latest.{Each, latest}
use Rattle.opg_units.specs.Units.{finite, bits_in}
use Rattle.opg_commands.specs.Limits.{unit_low, unit_high, mode_high, gas_high}
use Rattle.opg_commands.specs.Settings.{factory}
use Rattle.opg_commands.specs.declared.Settings.{Settings}
use Rattle.opg_gauge.specs.State.{start, takes, benched}
use Rattle.buffer.specs.declared.BenchAnswer.{BenchAnswer}
use Rattle.opg_gauge.specs.declared.Gauge.{Gauge}
use Rattle.opg_gauge.specs.declared.Pressure.{Pressure}
use Rattle.opg_answer.specs.Reply.{bits_of, answer_of, after_of}
use Rattle.buffer.specs.declared.Answered.{Answered}
use Rattle.opg_sequence_facts.specs.Model.{Fed, request, bench, Model, held, gauge_of, model_of}

-- ---- calls

-- one call and its answer: a request s, with the memory lent as it was before, the number and length that came back, and the memory
-- afterwards; a bench setting and its number
pub data Exchange : Type 0 where
  asked : (s before : List ℕ) (number len : ℕ) (after : List ℕ) → Exchange
  bench_set : (p : Pressure) (number : ℕ) → Exchange

-- the calls that were made, the latest first
abbrev pub History : Type 0
History = List Exchange

-- what the reference model is fed of a call: no answers
abbrev pub fed : Exchange → Fed
fed (asked s before number len after) = request s (length before)
fed (bench_set p number) = bench p

abbrev pub model : History → Model
model h = model_of (map fed h)

-- "Start each simulated gauge at factory settings, and let any sequence of calls reach it .. Each call gets the state that the last one left, and
-- nobody else changes it." Of a call nothing is known but its contract, word for word: what `Gauge::at_start`, `answer` and `Gauge::bench` ensure
-- of their result r.
pub data Trace : History → Gauge → Type 0 where
  begin : {r : Gauge} → r ≡ start → Trace [] r
  ask : {h : History} {g : Gauge} {s before after : List ℕ} {r : Answered Gauge} → Trace h g
      → Sent before (answer_of (length before) g s) after r.written × (r.gauge ≡ after_of (length before) g s)
      → Trace (asked s before r.written.number r.written.len after ∷ h) r.gauge
  set_bench : {h : History} {g : Gauge} {p : Pressure} {r : BenchAnswer Gauge} → Trace h g → r ≡ benched g p → Trace (bench_set p r.number ∷ h) r.gauge

-- ---- what the rules fix

-- "each answer number and reply, with its length, is what document 01 fixes from the gauge's book"; "the lent memory starts with that reply and is
-- otherwise unchanged": `Sent` has both. The reply lies within the memory
abbrev pub Fixed : Model → Exchange → Type 0
Fixed m (asked s before number len after) =
    Sent before (answer_of (length before) (gauge_of m) s) after (record { number = number; len = len }) × (len ≤ length before)
Fixed m (bench_set p number) = number ≡ (benched (gauge_of m) p).number

-- each call's answer is what the rules fix from the model of the calls before it
abbrev pub AllFixed : History → Type 0
AllFixed h = Each (λ earlier e. Fixed (model earlier) e) h

-- ---- what the calls themselves say, without the model: no reader of requests, only bytes and answered numbers

pub data Key : Type 0 where
  MasterUnit : Key
  Mode : Key
  Spectra : Key
  Gas : Key

abbrev pub holding : Key → Settings → ℕ
holding MasterUnit s = s.unit
holding Mode s = s.mode
holding Spectra s = s.spectra
holding Gas s = s.gas

-- the bytes have CMD 3 and this PID
unfoldable pub is_write : ℕ → List ℕ → Bool
is_write pid s = eqb (at s 6 * 256 + at s 7) pid && eqb (at s 5) 3

-- what the bytes of an accepted request write: with PID 14001 the unit is the data byte; with PID 22000 the mode is the first data byte, and
-- spectra (four bytes, high byte first) and gas are the bytes behind it where that is 1
unfoldable pub writes : Key → List ℕ → Option ℕ
writes MasterUnit s = pick (is_write 14001 s) (some (at s 10)) none
writes Mode s = pick (is_write 22000 s) (some (at s 10)) none
writes Spectra s = pick (is_write 22000 s && eqb (at s 10) 1) (some (at s 11 * 16777216 + at s 12 * 65536 + at s 13 * 256 + at s 14)) none
writes Gas s = pick (is_write 22000 s && eqb (at s 10) 1) (some (at s 15)) none

-- what a call, by its bytes and its answered number, says of a setting
unfoldable pub says_setting : Key → Exchange → Option ℕ
says_setting key (asked s before number len after) = pick (eqb number 20) (writes key s) none
says_setting key (bench_set p number) = none

-- what a call says of the pressure: an accepted bench setting, and nothing else
unfoldable pub says_pressure : Exchange → Option Pressure
says_pressure (asked s before number len after) = none
says_pressure (bench_set p number) = pick (eqb number 20) (some p) none

-- ---- the claim

-- values within their limits; whatever the unit, a pressure is sent as a finite f32
pub record Within (g : Gauge) : Type 0 where
  pub unit_low_lem : unit_low ≤ g.settings.unit
  pub unit_high_lem : g.settings.unit ≤ unit_high
  pub mode_high_lem : g.settings.mode ≤ mode_high
  pub gas_high_lem : g.settings.gas ≤ gas_high
  pub pressure_taken : takes g.pressure ≡ true
  pub pressure_finite : (unit : ℕ) → finite (bits_in unit (bits_of g.pressure)) ≡ true

pub record Claim (h : History) (g : Gauge) : Type 0 where
  -- "For every such sequence, each answer number and reply, with its length, is what document 01 fixes from the gauge's book"
  pub answers : AllFixed h
  -- "and at the end the gauge holds what the book holds"
  pub holds : held g ≡ model h
  -- "Each setting is what the last request accepted for it wrote .., or the factory value if none did."
  pub setting : (key : Key) → holding key g.settings ≡ latest (says_setting key) (holding key factory) h
  -- the pressure "is what the bench, accepted, last set there, or its start"
  pub pressure : g.pressure ≡ latest says_pressure start.pressure h
  -- every value is within its limits
  pub within : Within g
