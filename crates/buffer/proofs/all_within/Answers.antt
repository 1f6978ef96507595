-- `buffer::all_within` meets its contract.
use mathlib.Core.Path.{◌∙◌}
use Rattle.std.proofs.Common.{rules, tests}
use Rattle.std.proofs.lemmas.Iterator.{YieldsList-from_slice}
use Rattle.std.proofs.lemmas.Iterator.Search.{all_from_yields_List}
use Rattle.buffer.specs.Byte.{within}
use Rattle.buffer.proofs.Laws.{every_all}
use Rattle.buffer.proofs.all_within.Goals as goal

pub returns : goal.returns
returns c =
    let s = c.args.s.now in
    let p = within c.args.low c.args.high in
    all_from_yields_List p _ _ c.all.result c.all.ensures.ran (YieldsList-from_slice s cc) (λ x b q k. search (rules, tests)) ∙ every_all p s
