-- To compute with these definitions: `unfolding readings_open` opens every one of this crate, and those that they stand on.
use Rattle.settings.proofs.Open.{settings_open}
use Rattle.error_texts.proofs.Open.{error_texts_open}
use Rattle.readings.specs.Bench.{pressure_at, temperature_at, takes, pressure_of, degrees_of, temperature_of, bench_of}
use Rattle.readings.specs.Measure.{six_of, rounded_text, measure_text}
use Rattle.readings.specs.Place.{code_of, place_of, reading_at}
use Rattle.readings.specs.Reading.{put_reading, pressure_text, temperature_text, value_text, faulty_pressure, faulty_temperature}

unfoldable pub readings_open : Unit {0}
unfolding settings_open error_texts_open pressure_at temperature_at takes pressure_of degrees_of temperature_of bench_of six_of rounded_text measure_text code_of place_of reading_at put_reading pressure_text temperature_text value_text faulty_pressure faulty_temperature
readings_open = tt
