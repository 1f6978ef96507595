-- `sources::all_differ` meets its contract. The invariant: in what is left no code stands twice exactly if in the whole none does.
use mathlib.Core.Path.{◌≡◌}
use lib.ListN.{drop}
use Rattle.sources.specs.Source.{all_differ}
use Rattle.sources.proofs.all_differ.Given as goal

abbrev pub invariant-loop-i : goal.invariant-loop-i
invariant-loop-i l = all_differ (drop l.i l.codes) ≡ all_differ l.codes
