-- The worked cases, computed.
use mathlib.Core.Path.{refl}
use Rattle.buffer.specs.First.{pick}
use Rattle.buffer.specs.Byte.{every, same_text}
use Rattle.decimal.specs.Exact.{units, size_of, normal_of}
use Rattle.decimal.specs.Number.{plus, minus, below_of, counted_of, hundredths_of}
use Rattle.readings.specs.Reading.{put_reading}
use Rattle.readings.specs.Measure.{six_of, rounded_text, measure_text}
use Rattle.readings.specs.Bench.{takes, pressure_at, temperature_at, pressure_of, degrees_of, temperature_of, bench_of}
use Rattle.readings_facts.specs.Theorems.{AllRight, AllShown, AllMeasured}
use Rattle.readings.proofs.Open.{readings_open}

-- each setting has the paper's answer
pub all_right : AllRight
unfolding bench_of pressure_of temperature_of degrees_of pressure_at temperature_at takes normal_of size_of units plus minus below_of counted_of hundredths_of every pick
all_right = refl

-- each value is sent as the paper says
pub all_shown : AllShown
unfolding readings_open
all_shown = refl

-- each pressure of source 0 is measured as the paper says
pub all_measured : AllMeasured
unfolding bench_of pressure_of temperature_of degrees_of pressure_at temperature_at takes normal_of size_of units plus minus below_of counted_of hundredths_of every same_text pick put_reading measure_text rounded_text six_of
all_measured = refl
