-- "Its places are handed over as eight rows of eleven characters, by value." A row's text ends at its first zero; the first empty row after
-- the first row ends the line. No public contract cites this file.
use Rattle.std.specs.Prelude.{cond, List, [], ◌∷◌, ◌++◌, map, ℕ, eqb, take, drop, get_or, replicate}
use Rattle.std.proofs.lemmas.List.Edits.{sets}
use Rattle.buffer.specs.Byte.{at, until_of}
use Rattle.frames.specs.Checksum.{closed}

-- a row of zeros
abbrev pub no_row : List ℕ
no_row = replicate 11 0

-- a text as a row: stored in a row of zeros
unfoldable pub row_of : List ℕ → List ℕ
row_of t = sets no_row 0 t

-- texts as rows: stored in eight rows of zeros
unfoldable pub rows_of : List (List ℕ) → List (List ℕ)
rows_of ts = sets (replicate 8 no_row) 0 (map row_of ts)

-- the text of a row
unfoldable pub row_text : List ℕ → List ℕ
row_text row = take (until_of 0 row) row

-- each row's text after a `;`, up to the first empty row
unfoldable pub tail_rows : List (List ℕ) → List ℕ
tail_rows [] = []
tail_rows (row ∷ rows) = cond (eqb (at row 0) 0) [] ((59 ∷ []) ++ row_text row ++ tail_rows rows)

-- the line of rows
unfoldable pub line_of : List (List ℕ) → List ℕ
line_of rows = closed (row_text (get_or rows 0 []) ++ tail_rows (drop 1 rows))
