-- Document 01, "The master's side": any bytes read as the reply to a request, or the first refusal that applies.
use Rattle.std.specs.Prelude.{Bool, not, ◌&&◌, ◌||◌, List, [], ◌∷◌, ℕ, eqb, Result, Ok, Err}
use Rattle.std.specs.Float.{binary32}
use Rattle.std.specs.Float.Ieee.{of_bits, to_bits}
use Rattle.buffer.specs.First.{Row, ◌⇒◌, first, pick}
use Rattle.buffer.specs.Byte.{within, word_at}
use Rattle.opg_frames.specs.Frame.{misshapen, foreign, wrong_crc, wrong_version, acknowledges, indexed, cmd_of, pid_of, count_of, data_at}
use Rattle.opg_units.specs.Units.{finite}
use Rattle.opg_commands.specs.Limits.{unit_low, unit_high}
use Rattle.opg_commands.specs.Request.{request_pid, reply_cmd, reply_count}
use Rattle.opg_commands.specs.declared.Request.{Request}
use Rattle.opg_commands.specs.declared.Request.TheVariants.{ReadPressure, ReadUnit, WriteUnit, DetectionOff, DetectionOn}
use Rattle.opg_frames.specs.Number.{refusal_number}
use Rattle.opg_frames.specs.declared.Refusal.{Refusal}
use Rattle.opg_frames.specs.declared.Refusal.TheVariants.{Shape, Address, Crc, Header, Other, Length, Value}
use Rattle.opg_replies.specs.declared.Reply.{Reply}
use Rattle.opg_replies.specs.declared.Reply.TheVariants.{Pressure, Unit, Done, Error}

-- what any bytes are to a master: a reply, or a refusal
abbrev pub ReadOpg : Type 0
ReadOpg = Result Reply Refusal

-- "An error reply has PID 0xFFFF"
unfoldable pub is_error : List ℕ → Bool
is_error s = eqb (pid_of s) 0xffff

-- "26 CMD not the request's plus 1, IDX not 0, or PID neither the request's nor 0xFFFF"
unfoldable pub other_reply : Request → List ℕ → Bool
other_reply r s = not (eqb (cmd_of s) (reply_cmd r)) || (indexed s || (not (is_error s) && not (eqb (pid_of s) (request_pid r))))

-- "27 data length": an error has one byte
unfoldable pub needed_of : Request → List ℕ → ℕ
needed_of r s = pick (is_error s) 1 (reply_count r)

unfoldable pub wrong_count : Request → List ℕ → Bool
wrong_count r s = not (eqb (count_of s) (needed_of r s))

-- "28 a unit outside 1 to 4, or a pressure that is not finite"; the pressure is the f32 of the four bytes, high byte first
unfoldable pub reply_value : Request → List ℕ → ReadOpg
reply_value (ReadPressure u) s = pick (not (finite (word_at s 10))) (Err Value) (Ok (Pressure (of_bits binary32 (word_at s 10))))
reply_value ReadUnit s = pick (not (within unit_low unit_high (data_at s 0))) (Err Value) (Ok (Unit (data_at s 0)))
reply_value (WriteUnit u) s = Ok Done
reply_value DetectionOff s = Ok Done
reply_value (DetectionOn n gas) s = Ok Done

-- "22 length or reserved bits; 23 ADDR not 0 or ID not 0x0B; 24 CRC; 25 version, or acknowledge clear; 26 ..; 27 ..", then an error's byte
abbrev pub reply_rows : Request → List ℕ → List (Row ReadOpg)
reply_rows r s =
    misshapen s ⇒ Err Shape
    ∷ foreign 0x0b s ⇒ Err Address
    ∷ wrong_crc s ⇒ Err Crc
    ∷ wrong_version s ⇒ Err Header
    ∷ not (acknowledges s) ⇒ Err Header
    ∷ other_reply r s ⇒ Err Other
    ∷ wrong_count r s ⇒ Err Length
    ∷ is_error s ⇒ Ok (Error (data_at s 0))
    ∷ []

unfoldable pub read_of : Request → List ℕ → ReadOpg
read_of r s = first (reply_rows r s) (reply_value r s)

-- document 01's number and values for each answer: a refusal's number; or 20, the kind (1 a pressure, 2 a unit, 3 a done, 4 an error) and
-- the value: a pressure's 32 bits, a unit, an error's byte
unfoldable pub read_shown : ReadOpg → List ℕ
read_shown (Err k) = refusal_number k ∷ []
read_shown (Ok (Pressure p)) = 20 ∷ 1 ∷ to_bits binary32 p ∷ []
read_shown (Ok (Unit u)) = 20 ∷ 2 ∷ u ∷ []
read_shown (Ok Done) = 20 ∷ 3 ∷ []
read_shown (Ok (Error e)) = 20 ∷ 4 ∷ e ∷ []
