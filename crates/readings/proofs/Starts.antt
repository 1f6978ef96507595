-- How each reading starts, computed.
use mathlib.Core.Path.{refl}
use Rattle.buffer.specs.First.{pick}
use Rattle.decimal_text.specs.Written.{sign_text, trimmed, pointed, exponent_text, written_of, whole_text, two_decimals}
use Rattle.readings.specs.Place.{reading_at}
use Rattle.readings.specs.Reading.{pressure_text, temperature_text}
use Rattle.readings.specs.There.{shown_as}
use Rattle.readings.specs.Theorems.{Starts}

-- "At the start each pressure is 1 mbar, each temperature 20.00, FS 0."
pub starts : Starts
unfolding shown_as reading_at pressure_text temperature_text written_of sign_text trimmed pointed exponent_text whole_text two_decimals pick
starts = refl
