-- The reference model of a text gauge: document 01's "book". "Each gauge's book is fed its requests' bytes, the length of the memory lent with
-- each and its bench settings, no answers. It starts with factory values and the bench's start, a text gauge's also locked."
use Rattle.std.specs.Prelude.{List, [], ◌∷◌, ℕ}
use Rattle.settings.specs.Limits.{ProfileLimits}
use Rattle.readings.specs.declared.Bench.{Bench}
use Rattle.gauge_rules.specs.State.{State, fresh}
use Rattle.gauge_rules.specs.BenchIn.{bench_in}
use Rattle.gauge_table.specs.After.{next_of, benched}

-- what it is fed: a request's bytes and how many bytes are lent with it; a bench setting; a request for the stream line
pub data Fed : Type 0 where
  request : List ℕ → ℕ → Fed
  bench : Bench → Fed
  line : ℕ → Fed

-- "The rules above, applied to what it holds, fix each call's number and reply. Then an accepted write, restore or bench setting enters what it
-- sets; the V1 rule moves the unlock; all else stays."
unfoldable pub step : State → Fed → State
step m (request s lent) = next_of m lent s
step m (bench b) = benched m (bench_in m.limits b)
step m (line lent) = m

-- what the book of a gauge with these limits holds after these, the latest first
unfoldable pub model_of : ProfileLimits → List Fed → State
model_of limits [] = fresh limits
model_of limits (f ∷ fs) = step (model_of limits fs) f
