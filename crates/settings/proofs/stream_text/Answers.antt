-- `settings::stream_text` meets its contract.
use borrow.Author.Rules.{rules}
use native.Mathlib.Omega.{arith}
use mathlib.Core.List.{[], ◌∷◌, ◌++◌}
use lib.ListN.{length-append}
use Rattle.buffer.specs.Text.{text_of, cut}
use Rattle.buffer.proofs.Laws.{cut_cut, cut_fits}
use Rattle.sources.specs.Source.{list_of, list_text}
use Rattle.sources.proofs.Laws.{list_text_le, list_few}
use Rattle.settings.specs.Sent.{stream_text}
use Rattle.settings.proofs.stream_text.Goals as goal

pub returns-then-on : goal.returns-then-on
unfolding stream_text text_of
returns-then-on c =
    let q = c.args.list in
    let few = list_few q (search rules) in
    rw (c.if-on.true, c.with_list.ensures, c.push.ensures, cut_cut)
    (cut_fits ((52 ∷ []) ++ list_text (list_of q)) (simp length-append (omega (arith, list_text_le (list_of q), few))))

pub returns : goal.returns
unfolding stream_text text_of cut
returns c = rw c.if-on.false c.push-2.ensures
