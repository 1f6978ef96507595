-- A step of `Trace` is the contract of the function as the prover reads it off the source (`Learnt`), and nothing else: the proofs are the
-- constructors themselves. (A second clause of a contract is on the count of a list, and no step needs it.) None of the four functions has a
-- `requires` (`Asked`). a is the arguments, r the result, x the parameters at exit.
use mathlib.Core.List.{[], ◌∷◌}
use contract.Lifetimes.{Lfts}
use borrow.Fn.Kinds.{Dens, res_t, ended_of}
use denote.Triple.Clauses.{AtExit}
use Rattle.gauge_rules.proofs.Gauge.at_start.Kinds as at-start-kinds
use Rattle.gauge_rules.proofs.Gauge.at_start.Reads as at-start-reads
use Rattle.text_gauge.proofs.answer.Kinds as answer-kinds
use Rattle.text_gauge.proofs.answer.Reads as answer-reads
use Rattle.text_gauge.proofs.set_bench.Kinds as set-bench-kinds
use Rattle.text_gauge.proofs.set_bench.Reads as set-bench-reads
use Rattle.text_gauge.proofs.stream_line.Kinds as stream-line-kinds
use Rattle.text_gauge.proofs.stream_line.Reads as stream-line-reads
use Rattle.settings.specs.Limits.{ProfileLimits, limits_of}
use Rattle.sequence_facts.specs.Sequence.{History, asked, bench_set, lined, Trace, begin, ask, set_bench, show}

pub begin_step : (κs : Lfts 0) (a : Dens κs at-start-kinds.ps) (r : (res_t at-start-kinds.r κs).Denot) (x : AtExit (ended_of 0 at-start-kinds.ps at-start-kinds.r) κs)
    → at-start-reads.Learnt κs a r x → Trace (limits_of a.0) [] r
begin_step κs a r x contract = begin contract.0.0

pub ask_step : {limits : ProfileLimits} {h : History} (κs : Lfts 2) (a : Dens κs answer-kinds.ps) (r : (res_t answer-kinds.r κs).Denot)
    (x : AtExit (ended_of 2 answer-kinds.ps answer-kinds.r) κs) → Trace limits h a.0 → answer-reads.Learnt κs a r x
    → Trace limits (asked a.1.0.now a.1.1.0.now r.written.number r.written.len x.1.1.0.now ∷ h) r.gauge
ask_step κs a r x t contract = ask t contract.0

pub tell_step : {limits : ProfileLimits} {h : History} (κs : Lfts 0) (a : Dens κs set-bench-kinds.ps) (r : (res_t set-bench-kinds.r κs).Denot)
    (x : AtExit (ended_of 0 set-bench-kinds.ps set-bench-kinds.r) κs) → Trace limits h a.0 → set-bench-reads.Learnt κs a r x
    → Trace limits (bench_set a.1.0 r.number ∷ h) r.gauge
tell_step κs a r x t contract = set_bench t contract.0

pub show_step : {limits : ProfileLimits} {h : History} (κs : Lfts 1) (a : Dens κs stream-line-kinds.ps) (r : (res_t stream-line-kinds.r κs).Denot)
    (x : AtExit (ended_of 1 stream-line-kinds.ps stream-line-kinds.r) κs) → Trace limits h a.0 → stream-line-reads.Learnt κs a r x
    → Trace limits (lined a.1.0.now r.number r.len x.1.0.now ∷ h) a.0
show_step κs a r x t contract = show t contract

-- no call asks anything of its caller
pub begin_free : (κs : Lfts 0) (a : Dens κs at-start-kinds.ps) → at-start-reads.Asked κs a
begin_free κs a = tt

pub ask_free : (κs : Lfts 2) (a : Dens κs answer-kinds.ps) → answer-reads.Asked κs a
ask_free κs a = tt

pub tell_free : (κs : Lfts 0) (a : Dens κs set-bench-kinds.ps) → set-bench-reads.Asked κs a
tell_free κs a = tt

pub show_free : (κs : Lfts 1) (a : Dens κs stream-line-kinds.ps) → stream-line-reads.Asked κs a
show_free κs a = tt
