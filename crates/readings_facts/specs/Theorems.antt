-- What is proved here, each statement as a type; proofs/ has the proofs.
use Rattle.std.specs.Prelude.{◌≡◌, ◌↔◌, true, ℕ, ◌≤◌, ◌+◌, length, take, Some}
use Rattle.readings.specs.Bench.{bench_of, bench_number}
use Rattle.readings.specs.declared.Reading.{Reading}
use Rattle.readings.specs.declared.Bench.{Bench}
use Rattle.readings.specs.Place.{place_of, reading_at, Place, code_of}
use Rattle.readings.specs.Reading.{start, put_reading, value_text}
use Rattle.readings.specs.declared.Readings.{Readings}
use Rattle.settings.specs.Limits.{width_of}
use Rattle.decimal.specs.declared.Number.{Number}
use Rattle.decimal_facts.specs.Canonical.{Full}
use Rattle.readings.specs.Measure.{rounded_text}
use Rattle.buffer.specs.Byte.{every}
use Rattle.readings_facts.specs.Handed.{Sets, Handed}
use Rattle.readings_facts.specs.Sound.{SoundReading, SoundReadings}
use Rattle.readings_facts.specs.HalfUp.{Nearest, Digits}
use Rattle.readings_facts.specs.Examples.{right, cases, shown, values, measured, measures}

-- what the longest line is made of: a value has at most 10 characters, for source 7 11, a temperature at most 6
abbrev pub Widths : Type 0
Widths = (r : Readings) → SoundReadings r → (c : ℕ) → length (value_text c r) ≤ width_of c

-- so no value is cut at its width
abbrev pub WholeValue : Type 0
WholeValue = (r : Readings) → SoundReadings r → (c : ℕ) → take (width_of c) (value_text c r) ≡ value_text c r

-- "The bench sets the readings": a setting is accepted as a reading exactly where it sets that reading
abbrev pub BenchExactly : Type 0
BenchExactly = (b : Bench) (x : Reading) → (bench_of b ≡ Some x) ↔ Sets b x

-- "An accepted bench setting is answered 0": exactly where there is such a reading; "anything else is refused with 15 BENCH"
abbrev pub AcceptsExactly : Type 0
AcceptsExactly = (b : Bench) → (bench_number (bench_of b) ≡ 0) ↔ ((x : Reading) × Sets b x)

-- what is handed over fixes the reading
abbrev pub HandedSame : Type 0
HandedSame = (b : Bench) (x y : Reading) → place_of x ≡ place_of y → Handed b x → Handed b y → x ≡ y

-- what the bench accepts is what the paper allows
abbrev pub AcceptedSound : Type 0
AcceptedSound = (b : Bench) (x : Reading) → bench_of b ≡ Some x → SoundReading x

-- no two sources have one code
abbrev pub CodeOne : Type 0
CodeOne = (p q : Place) → code_of p ≡ code_of q → p ≡ q

-- a setting changes the reading that it is for: what was set is read
abbrev pub GetPut : Type 0
GetPut = (r : Readings) (x : Reading) → reading_at (place_of x) (put_reading r x) ≡ x

-- and every other place reads as before
abbrev pub GetOther : Type 0
GetOther = (r : Readings) (x : Reading) (p : Place) → (p ≡ place_of x → ⊥) → reading_at p (put_reading r x) ≡ reading_at p r

-- "At the start each pressure is 1 mbar, each temperature 20.00, FS 0.": readings that the bench can set
abbrev pub StartSound : Type 0
StartSound = SoundReadings start

-- and what the bench accepts keeps the readings so; "anything else is refused .. and changes nothing"
abbrev pub BenchSound : Type 0
BenchSound = (r : Readings) (b : Bench) (x : Reading) → SoundReadings r → bench_of b ≡ Some x → SoundReadings (put_reading r x)

-- "four mantissa digits and exponent plus 20, rounded half up to four digits": the nearest four; place 9 is the exponent 0
abbrev pub HalfUp : Type 0
HalfUp = (n : Number) → Full n → (q : ℕ) × Nearest n.mantissa q × (1000 ≤ q) × Digits q (n.place + 11) (rounded_text n)

-- the worked cases: each setting has the paper's answer
abbrev pub AllRight : Type 0
AllRight = every right cases ≡ true

-- each value is sent as the paper says
abbrev pub AllShown : Type 0
AllShown = every shown values ≡ true

-- and each pressure of source 0 is measured as the paper says
abbrev pub AllMeasured : Type 0
AllMeasured = every measured measures ≡ true
