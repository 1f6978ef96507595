-- Document 01: "anything else is refused with 15 BENCH": the number of a bench setting that is given by two texts.
use Rattle.std.specs.Prelude.{◌≡◌, Bool, true, false, List, ◌⊎◌, ℕ, None, Ok, Option, Some}
use Rattle.buffer.specs.Byte.{same_text}
use Rattle.buffer.specs.Quoted.{bytes}
use Rattle.sources.specs.Source.{known_sources, source_of}
use Rattle.readings.specs.Bench.{bench_of}
use Rattle.readings.specs.declared.Reading.{Reading}
use Rattle.readings.specs.declared.Bench.{Bench}

-- whether two texts are a setting that the bench takes
abbrev pub is_accepted : Option Reading → Bool
is_accepted (Some r) = true
is_accepted None = false

unfoldable pub is_taken : Option Bench → Bool
is_taken (Some setting) = is_accepted (bench_of setting)
is_taken None = false

-- a source that is known to the bench
abbrev pub IsSource : List ℕ → Type 0
IsSource source = (same_text source (bytes "FS") ≡ true) ⊎ ((code : ℕ) × (source_of known_sources source ≡ Ok code))
