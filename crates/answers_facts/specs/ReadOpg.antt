-- Document 01, "The master's side": the number of the OPG reader's answer to any bytes, 22 to 28 in this order, and 20 for a reply that was
-- read.
use Rattle.std.specs.Prelude.{Bool, true, false, not, ◌&&◌, List, [], ◌∷◌, ℕ, Ok, Err}
use Rattle.buffer.specs.First.{◌⇒◌, first}
use Rattle.buffer.specs.Byte.{at, within, word_at}
use Rattle.opg_frames.specs.Frame.{misshapen, foreign, wrong_crc, wrong_version, acknowledges, data_at}
use Rattle.opg_units.specs.Units.{finite}
use Rattle.opg_commands.specs.declared.Request.{Request}
use Rattle.opg_commands.specs.declared.Request.TheVariants.{ReadPressure, ReadUnit, WriteUnit, DetectionOff, DetectionOn}
use Rattle.opg_replies.specs.Reply.{ReadOpg, is_error, other_reply, wrong_count, read_shown}

-- document 01's number for an answer, and whether a reply was read
unfoldable pub read_number : ReadOpg → ℕ
read_number x = at (read_shown x) 0

unfoldable pub is_read : ReadOpg → Bool
is_read (Ok x) = true
is_read (Err k) = false

-- "28 a unit outside 1 to 4, or a pressure that is not finite"
unfoldable pub bad_value : Request → List ℕ → Bool
bad_value (ReadPressure u) s = not (finite (word_at s 10))
bad_value ReadUnit s = not (within 1 4 (data_at s 0))
bad_value (WriteUnit u) s = false
bad_value DetectionOff s = false
bad_value (DetectionOn n gas) s = false

-- the first that applies
abbrev pub number_rows : Request → List ℕ → ℕ
number_rows r s =
    first
    (misshapen s ⇒ 22
    ∷ foreign 0x0b s ⇒ 23
    ∷ wrong_crc s ⇒ 24
    ∷ wrong_version s ⇒ 25
    ∷ not (acknowledges s) ⇒ 25
    ∷ other_reply r s ⇒ 26
    ∷ wrong_count r s ⇒ 27
    ∷ (not (is_error s) && bad_value r s) ⇒ 28
    ∷ [])
    20
