-- Document 01, the bench, the values and V1's `M`: worked cases, their answers taken from the paper.
use Rattle.std.specs.Prelude.{Bool, true, false, List, [], ◌∷◌, ℕ, eqb, None, Option, Some}
use Prim.Native.String.{String}
use Rattle.buffer.specs.Byte.{same_text}
use Rattle.buffer.specs.Quoted.{bytes}
use Rattle.decimal.specs.declared.Exact.{Exact}
use Rattle.readings.specs.Reading.{start, put_reading, value_text}
use Rattle.readings.specs.Measure.{measure_text}
use Rattle.readings.specs.Bench.{bench_of, bench_number}
use Rattle.readings.specs.declared.Readings.{Readings}
use Rattle.readings.specs.declared.Bench.{Bench}
use Rattle.readings.specs.declared.Bench.TheVariants.{Reads, UnderRange, OverRange, Faulty, Status}
use Rattle.readings.specs.declared.Reading.{Reading}

-- digits with so many decimals
abbrev pub decimals : ℕ → ℕ → Exact
decimals digits down = record { negative = false; digits = digits; up = 0; down = down }

abbrev pub below : ℕ → ℕ → Exact
below digits down = record { negative = true; digits = digits; up = 0; down = down }

-- digits and so many zeros
abbrev pub zeros : ℕ → ℕ → Exact
zeros digits up = record { negative = false; digits = digits; up = up; down = 0 }

-- a bench setting, and the number that it is answered with
pub record Case : Type 0 where
  pub setting : Bench
  pub number : ℕ

abbrev pub expect : Bench → ℕ → Case
expect setting number = record { setting = setting; number = number }

-- 8 is `T2`, 9 is `T6`
abbrev pub cases : List Case
cases =
    expect (Reads 0 (decimals 0 0)) 15
    ∷ expect (Reads 7 (decimals 0 0)) 0
    ∷ expect (Reads 7 (below 15 1)) 0
    ∷ expect (Reads 1 (below 1 0)) 15
    ∷ expect (Reads 0 (decimals 1234567 6)) 15
    ∷ expect (Reads 0 (decimals 1234560000 0)) 0
    ∷ expect (Reads 0 (decimals 1000000 0)) 0
    ∷ expect (Reads 0 (zeros 1 10)) 15
    ∷ expect (Reads 0 (decimals 1 9)) 0
    ∷ expect (Reads 0 (decimals 99 11)) 15
    ∷ expect (Reads 8 (below 4000 2)) 0
    ∷ expect (Reads 8 (below 4001 2)) 15
    ∷ expect (Reads 8 (decimals 12500 2)) 0
    ∷ expect (Reads 8 (decimals 12501 2)) 15
    ∷ expect (Reads 8 (decimals 20005 3)) 15
    ∷ expect (UnderRange 0) 0
    ∷ expect (OverRange 7) 0
    ∷ expect (UnderRange 8) 15
    ∷ expect (OverRange 9) 15
    ∷ expect (Faulty 9) 0
    ∷ expect (Faulty 0) 0
    ∷ expect (Reads 3 (decimals 1 0)) 15
    ∷ expect (Faulty 10) 15
    ∷ expect (Status 3) 0
    ∷ expect (Status 4) 15
    ∷ []

abbrev pub right : Case → Bool
right c = eqb (bench_number (bench_of c.setting)) c.number

-- ---- texts

-- a bench setting at the start, a source, and the text that is then sent for it
pub record Sends : Type 0 where
  pub setting : Bench
  pub code : ℕ
  pub text : List ℕ

abbrev pub then : Bench → ℕ → String → Sends
then setting code text = record { setting = setting; code = code; text = bytes text }

-- the readings after a bench setting at the start
abbrev pub after : Option Reading → Readings
after (Some x) = put_reading start x
after None = start

-- "A value is a number, `UR`, `OR` or `ERROR1`."
abbrev pub values : List Sends
values =
    then (Status 0) 0 "1e0"
    ∷ then (Status 0) 8 "20.00"
    ∷ then (Reads 0 (decimals 1234560000 0)) 0 "1.23456e9"
    ∷ then (Reads 0 (decimals 1000000 0)) 0 "1e6"
    ∷ then (Reads 0 (decimals 1 9)) 0 "1e-9"
    ∷ then (Reads 0 (decimals 9821 1)) 0 "9.821e2"
    ∷ then (Reads 7 (below 15 1)) 7 "-1.5e0"
    ∷ then (Reads 7 (decimals 0 0)) 7 "0"
    ∷ then (Reads 7 (decimals 0 0)) 0 "1e0"
    ∷ then (UnderRange 0) 0 "UR"
    ∷ then (OverRange 6) 6 "OR"
    ∷ then (Faulty 2) 2 "ERROR1"
    ∷ then (Faulty 9) 9 "ERROR1"
    ∷ then (Faulty 9) 8 "20.00"
    ∷ then (Reads 8 (below 5 2)) 8 "-0.05"
    ∷ then (Reads 8 (below 0 2)) 8 "0.00"
    ∷ then (Reads 8 (decimals 12500 2)) 8 "125.00"
    ∷ then (Reads 9 (below 4000 2)) 9 "-40.00"
    ∷ then (Reads 8 (decimals 12501 2)) 8 "20.00"
    ∷ []

abbrev pub shown : Sends → Bool
shown c = same_text (value_text c.code (after (bench_of c.setting))) c.text

-- "four mantissa digits and exponent plus 20, rounded half up to four digits; `000000` under, `999999` over"
abbrev pub measures : List Sends
measures =
    then (Status 0) 0 "100020"
    ∷ then (Reads 0 (decimals 99995 4)) 0 "100021"
    ∷ then (Reads 0 (decimals 99994 4)) 0 "999920"
    ∷ then (Reads 0 (zeros 99995 5)) 0 "100030"
    ∷ then (Reads 0 (decimals 9821 1)) 0 "982122"
    ∷ then (Reads 0 (decimals 1 9)) 0 "100011"
    ∷ then (Reads 0 (decimals 12345 4)) 0 "123520"
    ∷ then (Reads 0 (decimals 123449 5)) 0 "123420"
    ∷ then (UnderRange 0) 0 "000000"
    ∷ then (OverRange 0) 0 "999999"
    ∷ then (Faulty 0) 0 "1"
    ∷ []

abbrev pub measured : Sends → Bool
measured c = same_text (measure_text (after (bench_of c.setting)).p0) c.text
