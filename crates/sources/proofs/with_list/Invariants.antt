-- `sources::with_list` meets its contract. The invariant: the text so far, with the entries that are left, is the whole text.
use mathlib.Core.Path.{◌≡◌}
use mathlib.Core.List.{◌++◌}
use lib.ListN.{drop}
use Rattle.buffer.specs.Text.{text_of, cut}
use Rattle.sources.specs.Source.{list_text}
use Rattle.sources.proofs.with_list.Given as goal

abbrev pub invariant-loop-code : goal.invariant-loop-code
invariant-loop-code l =
    (cut (text_of l.r) ≡ text_of l.r) × (cut (text_of l.r ++ list_text (drop l.code-index l.code-items)) ≡ cut (text_of l.initial.r ++ list_text l.code-items))
