-- A bench setting changes the reading that it is for, and no other; a code is one source's.
use mathlib.Core.Path.{◌≡◌, refl, sym, ap, ◌∙◌}
use mathlib.Core.List.{[], ◌∷◌}
use mathlib.Core.Option.{Option, none, some}
use Prim.Native.Nat.{ℕ}
use lib.Dec.{eqb}
use Rattle.buffer.specs.First.{◌⇒◌, first, pick}
use Rattle.readings.specs.Reading.{put_reading}
use Rattle.readings.specs.declared.Reading.TheVariants.{P0, P1, P2, P6, P7, T2, T6, FS}
use Rattle.readings.specs.Place.{Place, Source0, Source1, Source2, Source6, Source7, SourceT2, SourceT6, Status, code_of, place_of, reading_at}
use Rattle.readings_facts.proofs.Lemmas.Others.{others}
use Rattle.readings_facts.specs.Theorems.{GetPut, GetOther, CodeOne}

-- what was set is read
pub get_put : GetPut
unfolding put_reading reading_at place_of
get_put r (P0 v) = refl
get_put r (P1 v) = refl
get_put r (P2 v) = refl
get_put r (P6 v) = refl
get_put r (P7 v) = refl
get_put r (T2 v) = refl
get_put r (T6 v) = refl
get_put r (FS v) = refl

-- and every other place reads as before
pub get_other : GetOther
get_other r x p h = others r x p h

-- the place of a code
place_at : Option ℕ → Place
place_at none = Status
place_at (some code) =
    first
    (eqb code 0 ⇒ Source0
    ∷ eqb code 1 ⇒ Source1
    ∷ eqb code 2 ⇒ Source2
    ∷ eqb code 6 ⇒ Source6
    ∷ eqb code 7 ⇒ Source7
    ∷ eqb code 8 ⇒ SourceT2
    ∷ [])
    SourceT6

place_back : (p : Place) → place_at (code_of p) ≡ p
unfolding place_at code_of pick
place_back Source0 = refl
place_back Source1 = refl
place_back Source2 = refl
place_back Source6 = refl
place_back Source7 = refl
place_back SourceT2 = refl
place_back SourceT6 = refl
place_back Status = refl

-- no two sources have one code
pub code_one : CodeOne
code_one p q e = sym (place_back p) ∙ ap place_at e ∙ place_back q
