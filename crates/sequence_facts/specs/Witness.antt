-- Any list of calls as it is answered, and one that reaches the longest line.
use Rattle.std.specs.Prelude.{◌≡◌, true, false, List, [], ◌∷◌, ◌++◌, map, ℕ, length, take, replicate}
use Rattle.buffer.specs.Quoted.{bytes}
use Rattle.sources.specs.Source.{capacity}
use Rattle.sources.specs.declared.Profile.{Profile}
use Rattle.sources.specs.declared.Profile.TheVariants.{Standard, Vsh, Vsm}
use Rattle.settings.specs.Limits.{ProfileLimits, limits_of}
use Rattle.readings.specs.Bench.{bench_number}
use Rattle.line.specs.Line.{line_answer}
use Rattle.gauge_table.specs.After.{answer_of as tableAnswer}
use Rattle.buffer.specs.Answer.{over}
use Rattle.sources.specs.declared.Sources.{Sources}
use Rattle.decimal.specs.declared.Exact.{Exact}
use Rattle.readings.specs.declared.Bench.{Bench}
use Rattle.readings.specs.declared.Bench.TheVariants.{Reads}
use Rattle.gauge_rules.specs.State.{State}
use Rattle.gauge_rules.specs.BenchIn.{bench_in}
use Rattle.gauge_rules.specs.declared.Gauge.{Gauge}
use Rattle.sequence_facts.specs.Sequence.{Exchange, asked, bench_set, lined, History, model, Trace, most_values, most_bytes}
use Rattle.sequence_facts.specs.Shown.{values_in}

-- a gauge of a profile that holds what the model holds
abbrev pub sources_of : List ℕ → Sources
sources_of list = record { codes = take capacity (list ++ replicate capacity 0); count = length list }

abbrev pub gauge_of : Profile → State → Gauge
gauge_of p m =
    record {
      profile = p;
      settings = record { address = m.settings.address; unit = m.settings.unit; factor = m.settings.factor; control = m.settings.control; cathode = m.settings.cathode; filament = m.settings.filament; transition = m.settings.transition; streaming = m.settings.streaming; sources = sources_of m.settings.list };
      readings = m.readings;
      unlocked = m.unlocked;
    }

-- a call before it is answered
pub data Call : Type 0 where
  asks : (s before : List ℕ) → Call
  tells : (b : Bench) → Call
  shows : (before : List ℕ) → Call

abbrev pub call_of : Exchange → Call
call_of (asked s before number len after) = asks s before
call_of (bench_set b number) = tells b
call_of (lined before number len after) = shows before

-- a call with the answer that the rules fix
abbrev pub exchange : State → Call → Exchange
exchange m (asks s before) =
    let a = tableAnswer m (length before) s in
    asked s before a.number (length a.reply) (over a.reply before)
exchange m (tells b) = bench_set b (bench_number (bench_in m.limits b))
exchange m (shows before) =
    let a = line_answer m.limits (length before) m.settings m.readings in
    lined before a.number (length a.reply) (over a.reply before)

-- the calls answered by a gauge with these limits, the latest first
unfoldable pub play : ProfileLimits → List Call → History
play limits [] = []
play limits (c ∷ cs) = exchange (model limits (play limits cs)) c ∷ play limits cs

-- ---- the longest line

abbrev pub small : Exact
small = record { negative = false; digits = 123456; up = 0; down = 14 }

abbrev pub small_below_zero : Exact
small_below_zero = record { negative = true; digits = 123456; up = 0; down = 14 }

abbrev pub cold : Exact
cold = record { negative = true; digits = 4000; up = 0; down = 2 }

abbrev pub longest_hot : List Call
longest_hot =
    shows (replicate 30 0)
    ∷ asks (bytes "0012SM064D1DT2|" ++ (13 ∷ [])) (replicate 64 0)
    ∷ tells (Reads 8 cold)
    ∷ tells (Reads 1 small)
    ∷ tells (Reads 0 small)
    ∷ []

-- sources 0, 1, 2 and 6 at 1.23456e-9, 7 at -1.23456e-9, both temperatures at -40.00, and all of them on the line
abbrev pub longest : Profile → List Call
longest Standard =
    shows (replicate 71 0)
    ∷ asks (bytes "0012SM154D1D2D6D7DT2DT6u" ++ (13 ∷ [])) (replicate 64 0)
    ∷ tells (Reads 9 cold)
    ∷ tells (Reads 8 cold)
    ∷ tells (Reads 7 small_below_zero)
    ∷ tells (Reads 6 small)
    ∷ tells (Reads 2 small)
    ∷ tells (Reads 1 small)
    ∷ tells (Reads 0 small)
    ∷ []
-- sources 0 and 1 at 1.23456e-9, T2 at -40.00, and all of them on the line
longest Vsh = longest_hot
longest Vsm = longest_hot

-- the memory after the latest call
abbrev pub memory_of : History → List ℕ
memory_of [] = []
memory_of (asked s before number len after ∷ h) = after
memory_of (bench_set b number ∷ h) = []
memory_of (lined before number len after ∷ h) = after

abbrev pub longest_text : Profile → List ℕ
longest_text Standard = bytes "1.23456e-9;1.23456e-9;1.23456e-9;1.23456e-9;-1.23456e-9;-40.00;-40.00s" ++ (13 ∷ [])
longest_text Vsh = bytes "1.23456e-9;1.23456e-9;-40.00q" ++ (13 ∷ [])
longest_text Vsm = bytes "1.23456e-9;1.23456e-9;-40.00q" ++ (13 ∷ [])

-- "and after some such sequence it has both": seven values and 71 bytes, on VSH and VSM three and 30. The memory, which is as long, holds the line
-- and nothing else
pub record Reached (p : Profile) (cs : List Call) : Type 0 where
  pub trace : Trace (limits_of p) (play (limits_of p) cs) (gauge_of p (model (limits_of p) (play (limits_of p) cs)))
  pub calls_are : map call_of (play (limits_of p) cs) ≡ cs
  pub values : values_in (memory_of (play (limits_of p) cs)) ≡ most_values p
  pub line_is : memory_of (play (limits_of p) cs) ≡ longest_text p
  pub line_bytes : length (memory_of (play (limits_of p) cs)) ≡ most_bytes p
