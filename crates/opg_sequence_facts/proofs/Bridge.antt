-- A step of `Trace` is the generated contract of the function, and nothing else: `Learnt` is what `rattle check` reads off its `ensures`. None
-- of the three has a `requires`. The proofs are the constructors themselves. a is the arguments, r the result, x the parameters at exit.
use mathlib.Core.List.{[], ◌∷◌}
use contract.Lifetimes.{Lfts}
use borrow.Fn.Kinds.{Dens, res_t, ended_of}
use denote.Triple.Clauses.{AtExit}
use Rattle.opg_gauge.proofs.Gauge.at_start.Kinds as start-kinds
use Rattle.opg_gauge.proofs.Gauge.at_start.Reads as start-reads
use Rattle.opg_gauge.proofs.Gauge.bench.Kinds as bench-kinds
use Rattle.opg_gauge.proofs.Gauge.bench.Reads as bench-reads
use Rattle.opg_answer.proofs.answer.Kinds as answer-kinds
use Rattle.opg_answer.proofs.answer.Reads as answer-reads
use Rattle.opg_sequence_facts.specs.Sequence.{History, asked, bench_set, Trace, begin, ask, set_bench}

pub begin_step : (κs : Lfts 0) (a : Dens κs start-kinds.ps) (r : (res_t start-kinds.r κs).Denot) (x : AtExit (ended_of 0 start-kinds.ps start-kinds.r) κs)
    → start-reads.Learnt κs a r x → Trace [] r
begin_step κs a r x contract = begin contract

pub ask_step : {h : History} (κs : Lfts 2) (a : Dens κs answer-kinds.ps) (r : (res_t answer-kinds.r κs).Denot) (x : AtExit (ended_of 2 answer-kinds.ps answer-kinds.r) κs)
    → Trace h a.0 → answer-reads.Learnt κs a r x
    → Trace (asked a.1.0.now a.1.1.0.now r.written.number r.written.len x.1.1.0.now ∷ h) r.gauge
ask_step κs a r x t contract = ask t contract

pub tell_step : {h : History} (κs : Lfts 0) (a : Dens κs bench-kinds.ps) (r : (res_t bench-kinds.r κs).Denot) (x : AtExit (ended_of 0 bench-kinds.ps bench-kinds.r) κs)
    → Trace h a.0 → bench-reads.Learnt κs a r x → Trace (bench_set a.1.0 r.number ∷ h) r.gauge
tell_step κs a r x t contract = set_bench t contract

-- no call asks anything of its caller
pub begin_free : (κs : Lfts 0) (a : Dens κs start-kinds.ps) → start-reads.Asked κs a
begin_free κs a = tt

pub ask_free : (κs : Lfts 2) (a : Dens κs answer-kinds.ps) → answer-reads.Asked κs a
ask_free κs a = tt

pub tell_free : (κs : Lfts 0) (a : Dens κs bench-kinds.ps) → bench-reads.Asked κs a
tell_free κs a = tt
