-- The readings and FS: how they start, and the texts that they are sent as.
use Rattle.std.specs.Prelude.{Bool, true, false, List, [], ◌∷◌, ℕ, eqb}
use Rattle.buffer.specs.First.{◌⇒◌, first}
use Rattle.buffer.specs.Quoted.{bytes}
use Rattle.decimal_text.specs.Written.{written_of, two_decimals}
use Rattle.error_texts.specs.Texts.{error_bytes}
use Rattle.error_texts.specs.declared.ErrorText.TheVariants.{Error1}
use Rattle.readings.specs.declared.Pressure.{Pressure}
use Rattle.readings.specs.declared.Pressure.TheVariants.{Measured, UnderRange, OverRange}
use Rattle.readings.specs.declared.Temperature.{Temperature}
use Rattle.readings.specs.declared.Temperature.TheVariants.{Degrees}
use Rattle.readings.specs.declared.Reading.{Reading}
use Rattle.readings.specs.declared.Reading.TheVariants.{P0, P1, P2, P6, P7, T2, T6, FS}
use Rattle.readings.specs.declared.Readings.{Readings}

-- 1 mbar
abbrev pub one_mbar : Pressure
one_mbar = Measured (record { negative = false; mantissa = 100000; place = 9 })

-- "At the start each pressure is 1 mbar, each temperature 20.00, FS 0."
abbrev pub start : Readings
start = record { p0 = one_mbar; p1 = one_mbar; p2 = one_mbar; p6 = one_mbar; p7 = one_mbar; t2 = Degrees false 2000; t6 = Degrees false 2000; status = 0 }

-- the readings with one of them set, and no other changed
unfoldable pub put_reading : Readings → Reading → Readings
put_reading r (P0 v) = record { p0 = v; p1 = r.p1; p2 = r.p2; p6 = r.p6; p7 = r.p7; t2 = r.t2; t6 = r.t6; status = r.status }
put_reading r (P1 v) = record { p0 = r.p0; p1 = v; p2 = r.p2; p6 = r.p6; p7 = r.p7; t2 = r.t2; t6 = r.t6; status = r.status }
put_reading r (P2 v) = record { p0 = r.p0; p1 = r.p1; p2 = v; p6 = r.p6; p7 = r.p7; t2 = r.t2; t6 = r.t6; status = r.status }
put_reading r (P6 v) = record { p0 = r.p0; p1 = r.p1; p2 = r.p2; p6 = v; p7 = r.p7; t2 = r.t2; t6 = r.t6; status = r.status }
put_reading r (P7 v) = record { p0 = r.p0; p1 = r.p1; p2 = r.p2; p6 = r.p6; p7 = v; t2 = r.t2; t6 = r.t6; status = r.status }
put_reading r (T2 v) = record { p0 = r.p0; p1 = r.p1; p2 = r.p2; p6 = r.p6; p7 = r.p7; t2 = v; t6 = r.t6; status = r.status }
put_reading r (T6 v) = record { p0 = r.p0; p1 = r.p1; p2 = r.p2; p6 = r.p6; p7 = r.p7; t2 = r.t2; t6 = v; status = r.status }
put_reading r (FS v) = record { p0 = r.p0; p1 = r.p1; p2 = r.p2; p6 = r.p6; p7 = r.p7; t2 = r.t2; t6 = r.t6; status = v }

-- `UR` and `OR`
abbrev pub under_text : List ℕ
under_text = bytes "UR"

abbrev pub over_text : List ℕ
over_text = bytes "OR"

-- "A value is a number, `UR`, `OR` or `ERROR1`." "Pressures .. are sent as written"
unfoldable pub pressure_text : Pressure → List ℕ
pressure_text (Measured n) = written_of n
pressure_text UnderRange = under_text
pressure_text OverRange = over_text
pressure_text Pressure.Faulty = error_bytes Error1

-- "temperatures with two decimals and no needless leading zero"
unfoldable pub temperature_text : Temperature → List ℕ
temperature_text (Degrees negative h) = two_decimals negative h
temperature_text Temperature.Faulty = error_bytes Error1

-- the value of a source, by its code. (A source that the gauge does not have, which no accepted list names, is shown as a faulty one.)
unfoldable pub value_text : ℕ → Readings → List ℕ
value_text code r =
    first
    (eqb code 0 ⇒ pressure_text r.p0
    ∷ eqb code 1 ⇒ pressure_text r.p1
    ∷ eqb code 2 ⇒ pressure_text r.p2
    ∷ eqb code 6 ⇒ pressure_text r.p6
    ∷ eqb code 7 ⇒ pressure_text r.p7
    ∷ eqb code 8 ⇒ temperature_text r.t2
    ∷ eqb code 9 ⇒ temperature_text r.t6
    ∷ [])
    (error_bytes Error1)

unfoldable pub faulty_pressure : Pressure → Bool
faulty_pressure (Measured n) = false
faulty_pressure UnderRange = false
faulty_pressure OverRange = false
faulty_pressure Pressure.Faulty = true

unfoldable pub faulty_temperature : Temperature → Bool
faulty_temperature (Degrees negative h) = false
faulty_temperature Temperature.Faulty = true
