-- `sources::source_here` meets its contract.
use mathlib.Core.Path.{sym, ◌∙◌}
use Rattle.std.proofs.lemmas.Result.{err_from_is_err_and}
use Rattle.sources.proofs.Profiles.{here_known, here_lacked, here_none}
use Rattle.sources.proofs.source_here.Goals as goal

pub returns-in_err-c : goal.returns-in_err-c
returns-in_err-c c =
    let p = err_from_is_err_and c.from_residual.result c.from_residual.ensures.1 in
    rw (p.1, p.2) (here_none c.args.profile c.args.t.now _ c.in_err-c.ensures)

pub returns-then-offers : goal.returns-then-offers
returns-then-offers c = here_known c.args.profile c.args.t.now _ c.in_ok-c.ensures (sym c.offers.ensures ∙ c.if-offers.true)

pub returns : goal.returns
returns c = here_lacked c.args.profile c.args.t.now _ c.in_ok-c.ensures (sym c.offers.ensures ∙ c.if-offers.false)
