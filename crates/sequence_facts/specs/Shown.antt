-- The stream line by what it shows: the text of the reading that stands at each source listed, and how many values stand in its bytes.
use Rattle.std.specs.Prelude.{◌≡◌, cond, List, [], ◌∷◌, map, ℕ, ◌+◌, eqb}
use Rattle.std.proofs.Math.Option.{some}
use Rattle.frames.specs.Checksum.{closed}
use Rattle.frames.specs.Frame.{body}
use Rattle.readings.specs.declared.Readings.{Readings}
use Rattle.readings.specs.Place.{Place, code_of, reading_at}
use Rattle.readings.specs.There.{shown_as}
use Rattle.line.specs.Line.{joined}

-- these places are source 0's and then those of the list, in order
abbrev pub Listed : List ℕ → List Place → Type 0
Listed list places = map code_of places ≡ map some (0 ∷ list)

-- "joined by `;`"; "data, checksum and CR only": the line of what stands at these places, each value whole
abbrev pub shown_line : Readings → List Place → List ℕ
shown_line r places = closed (joined (map (λ (p : Place). shown_as (reading_at p r)) places))

-- how often a character stands in a text
unfoldable pub count_of : ℕ → List ℕ → ℕ
count_of b [] = 0
count_of b (x ∷ s) = cond (eqb x b) (count_of b s + 1) (count_of b s)

-- how many values stand in the bytes of a line: one more than `;` stand before the checksum and CR; none in no bytes
unfoldable pub values_in : List ℕ → ℕ
values_in [] = 0
values_in (x ∷ s) = count_of 59 (body (x ∷ s)) + 1
