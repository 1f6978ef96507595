-- Document 01, "The bench sets the readings": what a bench setting hands over, as a relation to the reading that then stands there, and which
-- reading it sets. Neither names a rule of the bench.
use Rattle.std.specs.Prelude.{◌≡◌, Bool, false, ℕ, ◌*◌, ◌^◌, ◌<◌}
use Rattle.decimal.specs.declared.Number.{Number}
use Rattle.decimal.specs.declared.Exact.{Exact}
use Rattle.decimal_facts.specs.Canonical.{Exactly}
use Rattle.readings.specs.Place.{code_of, place_of}
use Rattle.readings.specs.There.{names}
use Rattle.readings.specs.declared.Pressure.{Pressure}
use Rattle.readings.specs.declared.Pressure.TheVariants.{Measured}
use Rattle.readings.specs.declared.Temperature.{Temperature}
use Rattle.readings.specs.declared.Temperature.TheVariants.{Degrees}
use Rattle.readings.specs.declared.Reading.{Reading}
use Rattle.readings.specs.declared.Reading.TheVariants.{P0, P1, P2, P6, P7, T2, T6, FS}
use Rattle.readings.specs.declared.Bench.{Bench}
use Rattle.readings.specs.declared.Bench.TheVariants.{Reads, Status}
use Rattle.readings_facts.specs.Sound.{SoundReading}

-- h hundredths, below zero or not, are exactly x: its size is digits * 10 ^ up / 10 ^ down. "`-0` is zero"
pub record Hundredths (x : Exact) (negative : Bool) (h : ℕ) : Type 0 where
  pub size : h * 10 ^ x.down ≡ x.digits * 10 ^ x.up * 100
  pub sign : 0 < h → negative ≡ x.negative
  pub zero : h ≡ 0 → negative ≡ false

-- "pressures: a value of the decimal form above .. or faulty; pressures also under or over range"
pub data HandedPressure : Bench → Pressure → Type 0 where
  value : {code : ℕ} {x : Exact} {n : Number} → Exactly x n → HandedPressure (Reads code x) (Measured n)
  under : {code : ℕ} → HandedPressure (Bench.UnderRange code) Pressure.UnderRange
  over : {code : ℕ} → HandedPressure (Bench.OverRange code) Pressure.OverRange
  faulty : {code : ℕ} → HandedPressure (Bench.Faulty code) Pressure.Faulty

-- "temperatures whole hundredths .. or faulty"
pub data HandedTemperature : Bench → Temperature → Type 0 where
  degrees : {code : ℕ} {x : Exact} {negative : Bool} {h : ℕ} → Hundredths x negative h → HandedTemperature (Reads code x) (Degrees negative h)
  failed : {code : ℕ} → HandedTemperature (Bench.Faulty code) Temperature.Faulty

-- what a bench setting hands over is this reading
abbrev pub Handed : Bench → Reading → Type 0
Handed b (P0 p) = HandedPressure b p
Handed b (P1 p) = HandedPressure b p
Handed b (P2 p) = HandedPressure b p
Handed b (P6 p) = HandedPressure b p
Handed b (P7 p) = HandedPressure b p
Handed b (T2 t) = HandedTemperature b t
Handed b (T6 t) = HandedTemperature b t
Handed b (FS v) = b ≡ Status v

-- the reading is for the source that is named, it is what is handed over, and the paper allows it there
pub record Sets (b : Bench) (x : Reading) : Type 0 where
  pub there : names b ≡ code_of (place_of x)
  pub handed : Handed b x
  pub sound : SoundReading x
