-- Readings are as the bench can set them: at the start, and after what it sets.
use mathlib.Core.Path.{refl}
use mathlib.Core.Logic.{inr}
use native.Mathlib.Omega.{arith}
use Rattle.decimal.specs.Exact.{units}
use Rattle.decimal.specs.Number.{plus, minus, below_of}
use Rattle.readings.specs.Reading.{one_mbar, put_reading}
use Rattle.readings.specs.declared.Reading.{Reading}
use Rattle.readings.specs.declared.Reading.TheVariants.{P0, P1, P2, P6, P7, T2, T6, FS}
use Rattle.readings.specs.declared.Readings.{Readings}
use Rattle.readings_facts.specs.Sound.{SoundPressure, SoundReading, SoundReadings}
use Rattle.readings_facts.proofs.Lemmas.Good.{bench_good}
use Rattle.readings_facts.specs.Theorems.{AcceptedSound, StartSound, BenchSound}

one_sound : SoundPressure one_mbar
unfolding below_of plus minus units
one_sound = (inr (record { low = omega arith; high = omega arith; place = omega arith }), refl)

-- "At the start each pressure is 1 mbar, each temperature 20.00, FS 0."
pub start_sound : StartSound
start_sound = record { p0 = one_sound; p1 = one_sound; p2 = one_sound; p6 = one_sound; p7 = one_sound.0; t2 = omega arith; t6 = omega arith; status = omega arith }

put_sound : (r : Readings) (x : Reading) → SoundReadings r → SoundReading x → SoundReadings (put_reading r x)
unfolding put_reading
put_sound r (P0 v) f h = record { p0 = h; p1 = f.p1; p2 = f.p2; p6 = f.p6; p7 = f.p7; t2 = f.t2; t6 = f.t6; status = f.status }
put_sound r (P1 v) f h = record { p0 = f.p0; p1 = h; p2 = f.p2; p6 = f.p6; p7 = f.p7; t2 = f.t2; t6 = f.t6; status = f.status }
put_sound r (P2 v) f h = record { p0 = f.p0; p1 = f.p1; p2 = h; p6 = f.p6; p7 = f.p7; t2 = f.t2; t6 = f.t6; status = f.status }
put_sound r (P6 v) f h = record { p0 = f.p0; p1 = f.p1; p2 = f.p2; p6 = h; p7 = f.p7; t2 = f.t2; t6 = f.t6; status = f.status }
put_sound r (P7 v) f h = record { p0 = f.p0; p1 = f.p1; p2 = f.p2; p6 = f.p6; p7 = h; t2 = f.t2; t6 = f.t6; status = f.status }
put_sound r (T2 v) f h = record { p0 = f.p0; p1 = f.p1; p2 = f.p2; p6 = f.p6; p7 = f.p7; t2 = h; t6 = f.t6; status = f.status }
put_sound r (T6 v) f h = record { p0 = f.p0; p1 = f.p1; p2 = f.p2; p6 = f.p6; p7 = f.p7; t2 = f.t2; t6 = h; status = f.status }
put_sound r (FS v) f h = record { p0 = f.p0; p1 = f.p1; p2 = f.p2; p6 = f.p6; p7 = f.p7; t2 = f.t2; t6 = f.t6; status = h }

-- what the bench accepts is sound
pub accepted_sound : AcceptedSound
accepted_sound b x e = rw e at (bench_good b)

-- and keeps the readings so; "anything else is refused .. and changes nothing"
pub bench_sound : BenchSound
bench_sound r b x f e = put_sound r x f (accepted_sound b x e)
