-- What the functions inside this crate promise each other.
use Rattle.std.specs.Prelude.{Ok, Err}
use Rattle.buffer.specs.First.{pick}
use Rattle.opg_frames.specs.declared.ErrorByte.TheVariants as byte
use Rattle.opg_request_reader.specs.Asked.{Asked, error}
use Rattle.opg_gauge.specs.Judged.{unavailable}
use Rattle.opg_gauge.specs.declared.Gauge.{Gauge}

-- a request that was read, held against the pressure
unfoldable pub judged : Gauge → Asked → Asked
judged g (Ok r) = pick (unavailable g r) (error byte.Unavailable) (Ok r)
judged g (Err d) = Err d
