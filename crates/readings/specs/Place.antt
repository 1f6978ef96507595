-- The places of the readings: each source's, and FS; the code that names a source; the list of them.
use Rattle.std.specs.Prelude.{List, [], ◌∷◌, ℕ}
use Rattle.std.proofs.Math.Option.{Option, none, some}
use Rattle.readings.specs.declared.Reading.{Reading}
use Rattle.readings.specs.declared.Reading.TheVariants.{P0, P1, P2, P6, P7, T2, T6, FS}
use Rattle.readings.specs.declared.Readings.{Readings}

pub data Place : Type 0 where
  Source0 : Place
  Source1 : Place
  Source2 : Place
  Source6 : Place
  Source7 : Place
  SourceT2 : Place
  SourceT6 : Place
  Status : Place

-- the code of a source, in bench calls and in lists: its digit, 8 for `T2`, 9 for `T6`. FS is no source and has none
unfoldable pub code_of : Place → Option ℕ
code_of Source0 = some 0
code_of Source1 = some 1
code_of Source2 = some 2
code_of Source6 = some 6
code_of Source7 = some 7
code_of SourceT2 = some 8
code_of SourceT6 = some 9
code_of Status = none

-- the place that a reading is for
unfoldable pub place_of : Reading → Place
place_of (P0 v) = Source0
place_of (P1 v) = Source1
place_of (P2 v) = Source2
place_of (P6 v) = Source6
place_of (P7 v) = Source7
place_of (T2 v) = SourceT2
place_of (T6 v) = SourceT6
place_of (FS v) = Status

-- what stands at a place
unfoldable pub reading_at : Place → Readings → Reading
reading_at Source0 r = P0 r.p0
reading_at Source1 r = P1 r.p1
reading_at Source2 r = P2 r.p2
reading_at Source6 r = P6 r.p6
reading_at Source7 r = P7 r.p7
reading_at SourceT2 r = T2 r.t2
reading_at SourceT6 r = T6 r.t6
reading_at Status r = FS r.status

-- all of them
abbrev pub places : List Place
places = Source0 ∷ Source1 ∷ Source2 ∷ Source6 ∷ Source7 ∷ SourceT2 ∷ SourceT6 ∷ Status ∷ []
