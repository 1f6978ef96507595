-- `sources::read_entries` meets its contract.
use mathlib.Core.Path.{sym, ◌∙◌}
use native.Mathlib.Omega.{arith}
use Rattle.std.proofs.lemmas.Result.{err_from_is_err_and}
use Rattle.sources.specs.Source.{sources_of}
use Rattle.sources.proofs.Profiles.{few, zero_in}
use Rattle.sources.proofs.Reading.{nothing_listed, not_opened, run_refused, run_repeats, run_listed}
use Rattle.sources.proofs.read_entries.Goals as goal

pub returns-in-empty : goal.returns-in-empty
returns-in-empty c = nothing_listed (sources_of c.args.profile) c.args.s.now (omega arith)

pub returns-in_default : goal.returns-in_default
returns-in_default c = not_opened (sources_of c.args.profile) c.args.s.now (omega arith) (omega arith)

pub returns-in_err-sources : goal.returns-in_err-sources
returns-in_err-sources c =
    let p = err_from_is_err_and c.from_residual.result c.from_residual.ensures.1 in
    rw (p.1, p.2) (run_refused (sources_of c.args.profile) c.args.s.now (omega arith) (omega arith) _ c.in_err-sources.ensures)

pub returns-then-not-stand_once : goal.returns-then-not-stand_once
returns-then-not-stand_once c =
    let p = c.args.profile in
    run_repeats (sources_of p) c.args.s.now (omega arith) (omega arith) (few p) (zero_in p) _ c.in_ok-sources.ensures (sym c.stand_once.ensures ∙ c.if-not-stand_once.true)

pub returns : goal.returns
returns c =
    let p = c.args.profile in
    run_listed (sources_of p) c.args.s.now (omega arith) (omega arith) (few p) (zero_in p) _ c.in_ok-sources.ensures (sym c.stand_once.ensures ∙ c.if-not-stand_once.false)
