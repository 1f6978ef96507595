-- Any calls, and the history that the rules fix for them; and one sequence of calls which shows that the last write counts.
use Rattle.std.specs.Prelude.{List, [], ◌∷◌, ℕ, length, replicate}
use Rattle.buffer.specs.Answer.{over}
use Rattle.opg_gauge.specs.State as State
use Rattle.opg_gauge.specs.declared.Pressure.{Pressure}
use Rattle.opg_gauge.specs.declared.Pressure.TheVariants.{Bits}
use Rattle.opg_answer.specs.Reply.{answer_of, after_of}
use Rattle.buffer.specs.declared.Answered.{Answered}
use Rattle.opg_gauge.specs.declared.Gauge.{Gauge}
use Rattle.opg_facts.specs.Examples.{hex}
use Rattle.opg_sequence_facts.specs.Model.{Model, gauge_of}
use Rattle.opg_sequence_facts.specs.Sequence.{Exchange, asked, bench_set, History, model}

-- a call before it is answered: a request with the memory lent, or a pressure that the bench offers
pub data Call : Type 0 where
  asks : (s before : List ℕ) → Call
  tells : (p : Pressure) → Call

abbrev pub call_of : Exchange → Call
call_of (asked s before number len after) = asks s before
call_of (bench_set p number) = tells p

-- what `answer` returns where the model holds this
abbrev pub answered : Model → List ℕ → List ℕ → Answered Gauge
answered m s before =
    record {
      gauge = after_of (length before) (gauge_of m) s;
      written = record { number = (answer_of (length before) (gauge_of m) s).number; len = length (answer_of (length before) (gauge_of m) s).reply };
    }

-- a call with the answer that the rules fix
abbrev pub exchange : Model → Call → Exchange
exchange m (asks s before) =
    asked s before (answered m s before).written.number (answered m s before).written.len (over (answer_of (length before) (gauge_of m) s).reply before)
exchange m (tells p) = bench_set p (State.benched (gauge_of m) p).number

-- the history of any calls, the latest first
abbrev pub play : List Call → History
play [] = []
play (c ∷ cs) = exchange (model (play cs)) c ∷ play cs

-- ---- the last write counts

-- the latest call first. In the order of the calls: the unit is set to Torr, to Pascal, and to 5, which is refused; mode 1 with 100 spectra and gas 7;
-- mode 0 with five bytes that are not examined; the bench sets 7 mbar; it offers -0, which is refused; the pressure is read in the master unit
abbrev pub calls : List Call
calls =
    asks (hex "00 00 20 00 06 01 36 B0 00 00 00 21 D5") (replicate 40 238)
    ∷ tells (Bits 0x80000000)
    ∷ tells (Bits 0x40e00000)
    ∷ asks (hex "00 00 20 00 0B 03 55 F0 00 00 00 09 09 09 09 63 4F 01") (replicate 32 0)
    ∷ asks (hex "00 00 20 00 0B 03 55 F0 00 00 01 00 00 00 64 07 72 C1") (replicate 32 0)
    ∷ asks (hex "00 00 20 00 06 03 36 B1 00 00 05 61 96") (replicate 32 0)
    ∷ asks (hex "00 00 20 00 06 03 36 B1 00 00 03 57 F3") (replicate 32 0)
    ∷ asks (hex "00 00 20 00 06 03 36 B1 00 00 02 DE E2") (replicate 33 7)
    ∷ []

abbrev pub answered_number : Exchange → ℕ
answered_number (asked s before number len after) = number
answered_number (bench_set p number) = number

-- the memory after the latest call
abbrev pub memory_of : History → List ℕ
memory_of [] = []
memory_of (asked s before number len after ∷ h) = after
memory_of (bench_set p number ∷ h) = []
