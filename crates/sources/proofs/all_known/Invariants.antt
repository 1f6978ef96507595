-- `sources::all_known` meets its contract. The invariant: what is left is known exactly if the whole is.
use mathlib.Core.Path.{◌≡◌}
use lib.ListN.{drop}
use Rattle.buffer.specs.Byte.{every}
use Rattle.sources.specs.Source.{sources_of, among}
use Rattle.sources.proofs.all_known.Given as goal

abbrev pub invariant-loop-c : goal.invariant-loop-c
invariant-loop-c l = every (among (sources_of l.profile)) (drop l.c-index l.c-items) ≡ every (among (sources_of l.profile)) l.c-items
