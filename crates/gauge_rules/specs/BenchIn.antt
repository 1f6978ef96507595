-- The bench of a profile: document 01's bench, for the sources that the profile has.
use Rattle.std.specs.Prelude.{Bool, false, not, ℕ, None, Option}
use Rattle.std.proofs.Math.Option as math
use Rattle.buffer.specs.First.{pick}
use Rattle.sources.specs.Source.{among}
use Rattle.settings.specs.Limits.{ProfileLimits}
use Rattle.readings.specs.Bench.{bench_of}
use Rattle.readings.specs.There.{names}
use Rattle.readings.specs.declared.Bench.{Bench}
use Rattle.readings.specs.declared.Reading.{Reading}

-- a source that the profile lacks; FS is no source
unfoldable pub lacked : ProfileLimits → math.Option ℕ → Bool
lacked limits math.none = false
lacked limits (math.some code) = not (among limits.source_codes code)

-- "readings of sources a profile lacks can't be set by its bench (15)", whatever the value
unfoldable pub bench_in : ProfileLimits → Bench → Option Reading
bench_in limits b = pick (lacked limits (names b)) None (bench_of b)
