-- Each place against each setting.
use mathlib.Core.Path.{◌≡◌, refl}
use Rattle.readings.specs.Reading.{put_reading}
use Rattle.readings.specs.declared.Reading.{Reading}
use Rattle.readings.specs.declared.Reading.TheVariants.{P0, P1, P2, P6, P7, T2, T6, FS}
use Rattle.readings.specs.declared.Readings.{Readings}
use Rattle.readings.specs.Place.{Place, Source0, Source1, Source2, Source6, Source7, SourceT2, SourceT6, Status, place_of, reading_at}

pub others : (r : Readings) (x : Reading) (p : Place) → (p ≡ place_of x → ⊥) → reading_at p (put_reading r x) ≡ reading_at p r
unfolding put_reading reading_at place_of
others r (P0 v) Source0 h = absurd (h refl)
others r (P0 v) Source1 h = refl
others r (P0 v) Source2 h = refl
others r (P0 v) Source6 h = refl
others r (P0 v) Source7 h = refl
others r (P0 v) SourceT2 h = refl
others r (P0 v) SourceT6 h = refl
others r (P0 v) Status h = refl
others r (P1 v) Source0 h = refl
others r (P1 v) Source1 h = absurd (h refl)
others r (P1 v) Source2 h = refl
others r (P1 v) Source6 h = refl
others r (P1 v) Source7 h = refl
others r (P1 v) SourceT2 h = refl
others r (P1 v) SourceT6 h = refl
others r (P1 v) Status h = refl
others r (P2 v) Source0 h = refl
others r (P2 v) Source1 h = refl
others r (P2 v) Source2 h = absurd (h refl)
others r (P2 v) Source6 h = refl
others r (P2 v) Source7 h = refl
others r (P2 v) SourceT2 h = refl
others r (P2 v) SourceT6 h = refl
others r (P2 v) Status h = refl
others r (P6 v) Source0 h = refl
others r (P6 v) Source1 h = refl
others r (P6 v) Source2 h = refl
others r (P6 v) Source6 h = absurd (h refl)
others r (P6 v) Source7 h = refl
others r (P6 v) SourceT2 h = refl
others r (P6 v) SourceT6 h = refl
others r (P6 v) Status h = refl
others r (P7 v) Source0 h = refl
others r (P7 v) Source1 h = refl
others r (P7 v) Source2 h = refl
others r (P7 v) Source6 h = refl
others r (P7 v) Source7 h = absurd (h refl)
others r (P7 v) SourceT2 h = refl
others r (P7 v) SourceT6 h = refl
others r (P7 v) Status h = refl
others r (T2 v) Source0 h = refl
others r (T2 v) Source1 h = refl
others r (T2 v) Source2 h = refl
others r (T2 v) Source6 h = refl
others r (T2 v) Source7 h = refl
others r (T2 v) SourceT2 h = absurd (h refl)
others r (T2 v) SourceT6 h = refl
others r (T2 v) Status h = refl
others r (T6 v) Source0 h = refl
others r (T6 v) Source1 h = refl
others r (T6 v) Source2 h = refl
others r (T6 v) Source6 h = refl
others r (T6 v) Source7 h = refl
others r (T6 v) SourceT2 h = refl
others r (T6 v) SourceT6 h = absurd (h refl)
others r (T6 v) Status h = refl
others r (FS v) Source0 h = refl
others r (FS v) Source1 h = refl
others r (FS v) Source2 h = refl
others r (FS v) Source6 h = refl
others r (FS v) Source7 h = refl
others r (FS v) SourceT2 h = refl
others r (FS v) SourceT6 h = refl
others r (FS v) Status h = absurd (h refl)
