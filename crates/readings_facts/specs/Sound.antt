-- Document 01, "The bench sets the readings": which readings it can set.
use Rattle.std.specs.Prelude.{◌≡◌, true, false, ◌≤◌}
use Rattle.decimal.specs.Exact.{zero_number}
use Rattle.decimal.specs.Number.{below_of}
use Rattle.decimal_facts.specs.Canonical.{Canonical}
use Rattle.readings.specs.declared.Pressure.{Pressure}
use Rattle.readings.specs.declared.Pressure.TheVariants.{Measured, UnderRange, OverRange}
use Rattle.readings.specs.declared.Temperature.{Temperature}
use Rattle.readings.specs.declared.Temperature.TheVariants.{Degrees}
use Rattle.readings.specs.declared.Reading.{Reading}
use Rattle.readings.specs.declared.Reading.TheVariants.{P0, P1, P2, P6, P7, T2, T6, FS}
use Rattle.readings.specs.declared.Readings.{Readings}
use Rattle.settings.specs.Limits.{bench_limits}

-- "a value of the decimal form above, at most six significant digits; 0, 1, 2, 6 above zero"
abbrev pub SoundPressure : Pressure → Type 0
SoundPressure (Measured n) = Canonical n × (below_of zero_number n ≡ true)
SoundPressure UnderRange = Unit {0}
SoundPressure OverRange = Unit {0}
SoundPressure Pressure.Faulty = Unit {0}

-- "7 any sign or zero"
abbrev pub SoundSeven : Pressure → Type 0
SoundSeven (Measured n) = Canonical n
SoundSeven UnderRange = Unit {0}
SoundSeven OverRange = Unit {0}
SoundSeven Pressure.Faulty = Unit {0}

-- "temperatures whole hundredths from -40.00 to 125.00". "`-0` is zero": what is below zero has a size.
abbrev pub SoundTemperature : Temperature → Type 0
SoundTemperature (Degrees true h) = (1 ≤ h) × (h ≤ bench_limits.coldest)
SoundTemperature (Degrees false h) = h ≤ bench_limits.hottest
SoundTemperature Temperature.Faulty = Unit {0}

-- "and FS, 0 to 3"
abbrev pub SoundReading : Reading → Type 0
SoundReading (P0 p) = SoundPressure p
SoundReading (P1 p) = SoundPressure p
SoundReading (P2 p) = SoundPressure p
SoundReading (P6 p) = SoundPressure p
SoundReading (P7 p) = SoundSeven p
SoundReading (T2 t) = SoundTemperature t
SoundReading (T6 t) = SoundTemperature t
SoundReading (FS v) = v ≤ bench_limits.status_high

pub record SoundReadings (r : Readings) : Type 0 where
  pub p0 : SoundPressure r.p0
  pub p1 : SoundPressure r.p1
  pub p2 : SoundPressure r.p2
  pub p6 : SoundPressure r.p6
  pub p7 : SoundSeven r.p7
  pub t2 : SoundTemperature r.t2
  pub t6 : SoundTemperature r.t6
  pub status : r.status ≤ bench_limits.status_high
