-- The stream line.
use Rattle.std.specs.Prelude.{not, List, [], ◌∷◌, ◌++◌, map, ℕ, ltb, take}
use Rattle.buffer.specs.First.{◌⇒◌, first, pick}
use Rattle.buffer.specs.Answer.{Answer, silent}
use Rattle.frames.specs.Checksum.{closed}
use Rattle.sources.specs.Source.{listable}
use Rattle.settings.specs.Limits.{ProfileLimits, width_of, longest_line}
use Rattle.settings.specs.Settings.{Held}
use Rattle.readings.specs.Reading.{value_text}
use Rattle.readings.specs.declared.Readings.{Readings}

-- the value of a source. None is wider than its source's width in a state that calls reach (source 0 is never negative); in another state
-- it is cut there, so that no line is longer than the longest.
unfoldable pub line_value : Readings → ℕ → List ℕ
line_value r code = take (width_of code) (value_text code r)

-- the list that a line shows, where these are the gauge's sources: a list that SM could not have, which no call makes, is left out
unfoldable pub shown_list : List ℕ → List ℕ → List ℕ
shown_list codes list = pick (listable codes list) list []

-- "The line is source 0, then the list in order"
unfoldable pub values_of : List ℕ → Readings → List (List ℕ)
values_of list r = map (line_value r) (0 ∷ list)

-- each text after a `;`
unfoldable pub tail_of : List (List ℕ) → List ℕ
tail_of [] = []
tail_of (t ∷ ts) = (59 ∷ []) ++ t ++ tail_of ts

-- "joined by `;`"
unfoldable pub joined : List (List ℕ) → List ℕ
joined [] = []
joined (t ∷ ts) = t ++ tail_of ts

-- with less lent than the profile's longest line, "which is its stream buffer's lower limit", "ROOM, checked first"; "With SM 0 there is no line (0,
-- length 0, nothing written)"; "A frameless stream line has data, checksum and CR only."
unfoldable pub line_answer : ProfileLimits → ℕ → Held → Readings → Answer
line_answer limits room h r =
    first
    (ltb room (longest_line limits.source_codes) ⇒ silent 1
    ∷ not h.streaming ⇒ silent 0
    ∷ [])
    (record { number = 0; reply = closed (joined (values_of (shown_list limits.source_codes h.list) r)) })
