-- Document 01, "The bench sets the readings": it accepts exactly what the paper allows at the source that is named, and sets there exactly what is
-- handed over.
use mathlib.Core.Path.{◌≡◌, refl, ap}
use native.Mathlib.Omega.{arith}
use Rattle.std.specs.Prelude.{None, Option, Some}
use Rattle.readings.specs.Bench.{bench_of, bench_number}
use Rattle.readings.proofs.There.{bench_there}
use Rattle.readings.specs.declared.Reading.{Reading}
use Rattle.readings_facts.specs.Handed.{Sets}
use Rattle.readings_facts.proofs.Kept.{accepted_sound}
use Rattle.readings_facts.proofs.Lemmas.Handed.{handed_over, handed_back, handed_one}
use Rattle.readings_facts.specs.Theorems.{BenchExactly, AcceptsExactly, HandedSame}

-- a bench setting is accepted as a reading exactly where it sets that reading
pub bench_exactly : BenchExactly
bench_exactly b x = (
  λ e. record { there = bench_there b x e; handed = handed_over b x e; sound = accepted_sound b x e },
  λ (s : Sets b x). handed_back b x s.there s.handed s.sound,
)

-- "An accepted bench setting is answered 0": exactly where there is such a reading; "anything else is refused with 15 BENCH"
pub accepts_exactly : AcceptsExactly
accepts_exactly b = (go (bench_of b) refl, λ w. ap bench_number ((bench_exactly b w.0).1 w.1))
  where
    go : (r : Option Reading) → bench_of b ≡ r → bench_number r ≡ 0 → (x : Reading) × Sets b x
    go (Some x) e z = (x, (bench_exactly b x).0 e)
    go None e z = absurd (omega arith)

-- what is handed over fixes the reading
pub handed_same : HandedSame
handed_same b x y e f g = handed_one b x y e f g
