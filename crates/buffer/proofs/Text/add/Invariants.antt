-- `buffer::Text::add` meets its contract. The invariant: the text so far and what is left of src, cut, are the whole.
use mathlib.Core.Path.{◌≡◌}
use mathlib.Core.List.{◌++◌}
use lib.ListN.{length, take, drop}
use Rattle.buffer.specs.Text.{cut}
use Rattle.buffer.proofs.Text.add.Given as goal

abbrev pub invariant-loop-b : goal.invariant-loop-b
invariant-loop-b l = (length l.bytes ≡ 24) × (cut (take l.len l.bytes ++ drop l.b-index l.src) ≡ cut (take l.initial.len l.initial.bytes ++ l.src))
