-- What the bench accepts is sound, a lemma for each part of it.
use mathlib.Core.Path.{◌≡◌, refl, sym, ap, ◌∙◌}
use mathlib.Core.Bool.{Bool, true, false, cond, not}
use mathlib.Core.Logic.{inl, inr}
use Prim.Native.Nat.{ℕ, ◌+◌, ◌<◌, ◌≤◌}
use native.Mathlib.Omega.{arith}
use borrow.Author.Tests.{ltb-false, leb-false, eqb-true, not-false}
use lib.Dec.{eqb, leb}
use Rattle.std.specs.Prelude.{Err, None, Ok, Option, Result, Some}
use Rattle.buffer.proofs.Rules.{each}
use Rattle.decimal.specs.Exact.{units, zero_number, normal_of}
use Rattle.decimal.specs.Number.{below_of, hundredths_of}
use Rattle.decimal.specs.declared.Number.{Number}
use Rattle.decimal.proofs.Sizes.{units_pos}
use Rattle.decimal_facts.specs.Canonical.{Canonical}
use Rattle.decimal_facts.proofs.Value.{exact, hundredths_exactly}
use Rattle.readings.specs.Bench.{takes, pressure_at, temperature_at, pressure_of, degrees_of, temperature_of, bench_of, outside_degrees, most_degrees}
use Rattle.readings.specs.declared.Pressure.{Pressure}
use Rattle.readings.specs.declared.Pressure.TheVariants.{Measured}
use Rattle.readings.specs.declared.Temperature.{Temperature}
use Rattle.readings.specs.declared.Temperature.TheVariants.{Degrees}
use Rattle.readings.specs.declared.Reading.TheVariants.{P0, P1, P2, P6, P7, T2, T6, FS}
use Rattle.readings.specs.declared.Bench.{Bench}
use Rattle.readings.specs.declared.Bench.TheVariants.{Reads, Status}
use Rattle.settings.specs.Limits.{bench_limits}
use Rattle.readings_facts.specs.Sound.{SoundPressure, SoundSeven, SoundTemperature, SoundReading}
use Rattle.decimal.specs.declared.NumberError.{NumberError}
use Rattle.readings.specs.declared.Reading.{Reading}

-- an answer that accepts what is sound only
abbrev pub Good : Option Reading → Type 0
Good (Some x) = SoundReading x
Good None = Unit {0}

-- a code that another test found is not 7
not_seven : (code k : ℕ) → eqb code k ≡ true → eqb k 7 ≡ false → eqb code 7 ≡ false
not_seven code k e h = rw (eqb-true code k e) h

pressure_good : (code : ℕ) (p : Pressure) → (eqb code 7 ≡ false → SoundPressure p) → SoundSeven p → Good (pressure_at code p)
unfolding pressure_at
pressure_good code p f g =
    each Good (eqb code 0) (Some (P0 p)) _ (λ e. f (not_seven code 0 e refl))
    (λ _. each Good (eqb code 1) (Some (P1 p)) _ (λ e. f (not_seven code 1 e refl))
    (λ _. each Good (eqb code 2) (Some (P2 p)) _ (λ e. f (not_seven code 2 e refl))
    (λ _. each Good (eqb code 6) (Some (P6 p)) _ (λ e. f (not_seven code 6 e refl))
    (λ _. each Good (eqb code 7) (Some (P7 p)) None (λ _. g) (λ _. tt)))))

temperature_good : (code : ℕ) (t : Temperature) → SoundTemperature t → Good (temperature_at code t)
unfolding temperature_at
temperature_good code t h =
    each Good (eqb code 8) (Some (T2 t)) _ (λ _. h)
    (λ _. each Good (eqb code 9) (Some (T6 t)) None (λ _. h) (λ _. tt))

-- a number that a source other than 7 takes is above zero
taken_above : (code : ℕ) (n : Number) → takes code n ≡ true → eqb code 7 ≡ false → below_of zero_number n ≡ true
unfolding takes
taken_above code n h e = rw e at h

number_good : (code : ℕ) (p : Result Number NumberError) → ((n : Number) → p ≡ Ok n → Canonical n) → Good (pressure_of code p)
unfolding pressure_of
number_good code (Ok n) f =
    each Good (not (takes code n)) None (pressure_at code (Measured n)) (λ _. tt)
    (λ e. pressure_good code (Measured n) (λ k. (f n refl, taken_above code n (not-false (takes code n) e) k)) (f n refl))
number_good code (Err e) f = tt

-- what is below zero has a size
pub negative_some : (n : Number) → Canonical n → n.negative ≡ true → 0 < units n
unfolding units
negative_some n (inl e) h = absurd (let z : ◌≡◌ {A = ℕ} 0 1 = ap (λ (b : Bool). cond b 0 1) (sym h ∙ ap (λ (k : Number). k.negative) e) in omega arith)
negative_some n (inr f) h = units_pos n.mantissa n.place (omega (arith, f.low))

-- and so has its count of hundredths
in_limits : (negative : Bool) (h : ℕ) → (negative ≡ true → 1 ≤ h) → h ≤ most_degrees negative → SoundTemperature (Degrees negative h)
in_limits true h f k = (f refl, k)
in_limits false h f k = omega arith

degrees_good : (code : ℕ) (negative : Bool) (h : Option ℕ) → ((k : ℕ) → h ≡ Some k → negative ≡ true → 1 ≤ k) → Good (degrees_of code negative h)
unfolding degrees_of
degrees_good code negative (Some h) f =
    each Good (outside_degrees negative h) None (temperature_at code (Degrees negative h)) (λ _. tt)
    (λ e. temperature_good code (Degrees negative h) (in_limits negative h (f h refl) (ltb-false (most_degrees negative) h e)))
degrees_good code negative None f = tt

celsius_good : (code : ℕ) (p : Result Number NumberError) → ((n : Number) → p ≡ Ok n → Canonical n) → Good (temperature_of code p)
unfolding temperature_of
celsius_good code (Ok n) f = degrees_good code n.negative (hundredths_of n) some
  where
    some : (k : ℕ) → hundredths_of n ≡ Some k → n.negative ≡ true → 1 ≤ k
    some k e h = omega (arith, ((hundredths_exactly n k).0 e).0, negative_some n (f n refl) h)
celsius_good code (Err e) f = tt

pub bench_good : (b : Bench) → Good (bench_of b)
unfolding bench_of
bench_good (Reads code x) =
    each Good (leb 8 code) (temperature_of code (normal_of x)) (pressure_of code (normal_of x))
    (λ _. celsius_good code (normal_of x) canonical) (λ _. number_good code (normal_of x) canonical)
  where
    canonical : (n : Number) → normal_of x ≡ Ok n → Canonical n
    canonical n e = ((exact x n).0 e).canonical
bench_good (Bench.UnderRange code) = pressure_good code Pressure.UnderRange (λ _. tt) tt
bench_good (Bench.OverRange code) = pressure_good code Pressure.OverRange (λ _. tt) tt
bench_good (Bench.Faulty code) = each Good (leb 8 code) (temperature_at code Temperature.Faulty) (pressure_at code Pressure.Faulty) (λ _. temperature_good code Temperature.Faulty tt) (λ _. pressure_good code Pressure.Faulty (λ _. tt) tt)
bench_good (Status v) = each Good (leb (bench_limits.status_high + 1) v) None (Some (FS v)) (λ _. tt) (λ e. let k = leb-false (bench_limits.status_high + 1) v e in omega arith)
