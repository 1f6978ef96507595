-- Document 01, "V1 on the same settings", written out from the paper beside what the table's rows give: V1's five letters with their
-- data, and the number at an unlocked and at a locked gauge.
use Rattle.std.specs.Prelude.{Bool, true, false, List, [], ◌∷◌, map, ℕ}
use Prim.Native.String.{String}
use Rattle.buffer.specs.First.{◌⇒◌, first}
use Rattle.buffer.specs.Byte.{at}
use Rattle.buffer.specs.Quoted.{bytes}
use Rattle.sources.specs.declared.Profile.TheVariants.{Standard}
use Rattle.settings.specs.Limits.{limits_of}
use Rattle.gauge_rules.specs.State.{State, unlocked_as, fresh}
use Rattle.gauge_table.specs.Asked.{unknown_letter, bad_form_v1, locked_write, outside_v1, measures_faulty}

pub record Row : Type 0 where
  pub letter : List ℕ
  pub text : List ℕ
  -- unlocked, locked
  pub numbers : List ℕ

-- a request whose number the lock does not change, and one whose number it does
abbrev pub gives : String → String → ℕ → Row
gives letter text number = record { letter = bytes letter; text = bytes text; numbers = number ∷ number ∷ [] }

abbrev pub writes : String → String → ℕ → ℕ → Row
writes letter text unlocked locked = record { letter = bytes letter; text = bytes text; numbers = unlocked ∷ locked ∷ [] }

abbrev pub table : List Row
table =
    gives "M" "" 0
    ∷ gives "M" "1" 10
    ∷ gives "M" "000001" 10
    ∷ gives "C" "1" 0
    ∷ gives "C" "0" 11
    ∷ gives "C" "2" 11
    ∷ gives "C" "" 10
    ∷ gives "C" "a" 10
    ∷ gives "C" "01" 10
    ∷ gives "C" "000100" 10
    ∷ gives "c" "1" 0
    ∷ gives "c" "0" 11
    ∷ gives "c" "2" 11
    ∷ gives "c" "" 10
    ∷ gives "c" "a" 10
    ∷ gives "c" "01" 10
    ∷ gives "c" "00100" 10
    ∷ gives "c" "00010x" 10
    ∷ gives "c" "0000100" 10
    ∷ writes "c" "000000" 11 12
    ∷ writes "c" "000019" 11 12
    ∷ writes "c" "000020" 0 12
    ∷ writes "c" "000800" 0 12
    ∷ writes "c" "000801" 11 12
    ∷ writes "c" "001200" 11 12
    ∷ writes "c" "999999" 11 12
    ∷ gives "U" "" 0
    ∷ gives "U" "1" 10
    ∷ gives "U" "000001" 10
    ∷ gives "u" "000000" 0
    ∷ gives "u" "000001" 0
    ∷ gives "u" "000002" 0
    ∷ gives "u" "000003" 11
    ∷ gives "u" "001000" 11
    ∷ gives "u" "" 10
    ∷ gives "u" "1" 10
    ∷ gives "u" "00001" 10
    ∷ gives "u" "00000a" 10
    ∷ gives "u" "0000001" 10
    ∷ gives "m" "" 8
    ∷ gives "T" "" 8
    ∷ gives "z" "000001" 8
    ∷ []

-- the table's rows of V1 from 8 on
abbrev pub rows_v1 : State → ℕ → List ℕ → ℕ
rows_v1 g l d =
    first
    (unknown_letter l ⇒ 8
    ∷ bad_form_v1 l d ⇒ 10
    ∷ locked_write g l d ⇒ 12
    ∷ outside_v1 l d ⇒ 11
    ∷ measures_faulty g l ⇒ 13
    ∷ [])
    0

-- these rows at a gauge at its start but for the lock
abbrev pub numbers_of : Row → List ℕ
numbers_of r =
    map
    (λ (unlocked : Bool). rows_v1 (unlocked_as (fresh (limits_of Standard)) unlocked) (at r.letter 0) r.text)
    (true ∷ false ∷ [])

abbrev pub printed : Row → List ℕ
printed r = r.numbers
