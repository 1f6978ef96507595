-- `sources::run_of` meets its contract. The invariant: what was read of the entries so far.
use Rattle.std.proofs.Common.{length, take, map}
use Rattle.sources.specs.Source.{source_of, sources_of}
use Rattle.sources.specs.Entries.{parts}
use Rattle.sources.proofs.Reading.{Sofar}
use Rattle.sources.proofs.run_of.Given as goal

abbrev pub invariant-loop-t : goal.invariant-loop-t
invariant-loop-t l = Sofar (map (source_of (sources_of l.profile)) (take (length l.yielded) (parts l.s))) l.read
