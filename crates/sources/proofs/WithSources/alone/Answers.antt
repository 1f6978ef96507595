-- `sources::WithSources::alone` meets its contract.
use mathlib.Core.Path.{refl}
use Rattle.sources.specs.Source.{list_of, Counted}
use Rattle.sources.proofs.WithSources.alone.Goals as goal

pub returns : goal.returns
unfolding list_of Counted
returns g c = record { value_is = refl; list_is = refl; count = refl }
