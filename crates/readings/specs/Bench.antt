-- The bench (document 01's term for what sets the readings): a setting as a reading, or refused.
use Rattle.std.specs.Prelude.{Bool, cond, not, ◌||◌, [], ◌∷◌, ℕ, ◌+◌, ltb, leb, eqb, Err, None, Ok, Option, Result, Some}
use Rattle.buffer.specs.First.{◌⇒◌, first}
use Rattle.decimal.specs.Exact.{zero_number, normal_of}
use Rattle.decimal.specs.Number.{below_of, hundredths_of}
use Rattle.decimal.specs.declared.Number.{Number}
use Rattle.settings.specs.Limits.{bench_limits}
use Rattle.readings.specs.declared.Pressure.{Pressure}
use Rattle.readings.specs.declared.Pressure.TheVariants.{Measured}
use Rattle.readings.specs.declared.Temperature.{Temperature}
use Rattle.readings.specs.declared.Temperature.TheVariants.{Degrees}
use Rattle.readings.specs.declared.Reading.TheVariants.{P0, P1, P2, P6, P7, T2, T6, FS}
use Rattle.readings.specs.declared.Bench.{Bench}
use Rattle.readings.specs.declared.Bench.TheVariants.{Reads, Status}
use Rattle.decimal.specs.declared.NumberError.{NumberError}
use Rattle.readings.specs.declared.Reading.{Reading}

-- the pressure sources, by code
unfoldable pub pressure_at : ℕ → Pressure → Option Reading
pressure_at code p =
    first
    (eqb code 0 ⇒ Some (P0 p)
    ∷ eqb code 1 ⇒ Some (P1 p)
    ∷ eqb code 2 ⇒ Some (P2 p)
    ∷ eqb code 6 ⇒ Some (P6 p)
    ∷ eqb code 7 ⇒ Some (P7 p)
    ∷ [])
    None

-- the temperature sources: 8 is `T2`, 9 is `T6`
unfoldable pub temperature_at : ℕ → Temperature → Option Reading
temperature_at code t = first (eqb code 8 ⇒ Some (T2 t) ∷ eqb code 9 ⇒ Some (T6 t) ∷ []) None

-- "0, 1, 2, 6 above zero; 7 any sign or zero"
unfoldable pub takes : ℕ → Number → Bool
takes code n = eqb code 7 || below_of zero_number n

-- "pressures: a value of the decimal form above, at most six significant digits"
unfoldable pub pressure_of : ℕ → Result Number NumberError → Option Reading
pressure_of code (Ok n) = first (not (takes code n) ⇒ None ∷ []) (pressure_at code (Measured n))
pressure_of code (Err e) = None

-- "temperatures whole hundredths from -40.00 to 125.00": the largest size, below zero or not, and whether h hundredths lie outside
abbrev pub most_degrees : Bool → ℕ
most_degrees negative = cond negative bench_limits.coldest bench_limits.hottest

abbrev pub outside_degrees : Bool → ℕ → Bool
outside_degrees negative h = ltb (most_degrees negative) h

unfoldable pub degrees_of : ℕ → Bool → Option ℕ → Option Reading
degrees_of code negative (Some h) = first (outside_degrees negative h ⇒ None ∷ []) (temperature_at code (Degrees negative h))
degrees_of code negative None = None

unfoldable pub temperature_of : ℕ → Result Number NumberError → Option Reading
temperature_of code (Ok n) = degrees_of code n.negative (hundredths_of n)
temperature_of code (Err e) = None

-- "or faulty; pressures also under or over range) and FS, 0 to 3; anything else is refused"
unfoldable pub bench_of : Bench → Option Reading
bench_of (Reads code x) = first (leb 8 code ⇒ temperature_of code (normal_of x) ∷ []) (pressure_of code (normal_of x))
bench_of (Bench.UnderRange code) = pressure_at code Pressure.UnderRange
bench_of (Bench.OverRange code) = pressure_at code Pressure.OverRange
bench_of (Bench.Faulty code) = first (leb 8 code ⇒ temperature_at code Temperature.Faulty ∷ []) (pressure_at code Pressure.Faulty)
bench_of (Status v) = first (leb (bench_limits.status_high + 1) v ⇒ None ∷ []) (Some (FS v))

-- "An accepted bench setting is answered 0"; "refused with 15 BENCH"
abbrev pub bench_number : Option Reading → ℕ
bench_number (Some r) = 0
bench_number None = 15
