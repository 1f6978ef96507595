-- Document 01, "OPG frames": the bytes of a frame, and the answer of a frame's writer.
use Rattle.std.specs.Prelude.{List, [], ◌∷◌, ◌++◌, ℕ, ◌+◌, ◌/◌, ◌%◌, ltb, length}
use Rattle.buffer.specs.First.{◌⇒◌, first}
use Rattle.buffer.specs.Answer.{Answer, silent}
use Rattle.opg_frames.specs.Frame.{crc_bytes}

-- a number of two bytes, high byte first
abbrev pub pair : ℕ → List ℕ
pair n = n / 256 % 256 ∷ n % 256 ∷ []

-- bytes with their CRC
unfoldable pub sealed : List ℕ → List ℕ
sealed b = b ++ crc_bytes b

-- ADDR 0, ID, header, "LEN counts CMD to data", CMD, PID, IDX 0, data, CRC
unfoldable pub frame : ℕ → ℕ → ℕ → ℕ → List ℕ → List ℕ
frame id header cmd pid bytes = sealed ((0 ∷ id ∷ header ∷ []) ++ pair (length bytes + 5) ++ (cmd ∷ []) ++ pair pid ++ pair 0 ++ bytes)

-- "Master ID 0, gauge ID 0x0B; version 2; replies set acknowledge."
abbrev pub request_frame : ℕ → ℕ → List ℕ → List ℕ
request_frame cmd pid bytes = frame 0 0x20 cmd pid bytes

abbrev pub reply_frame : ℕ → ℕ → List ℕ → List ℕ
reply_frame cmd pid bytes = frame 0x0b 0x21 cmd pid bytes

-- what a writer answers that is lent `room` bytes for this frame of these data: the frame, under the number given, or 21 where less than
-- 32 bytes are lent or the frame does not fit, 22 where LEN cannot count the data
unfoldable pub written : ℕ → ℕ → List ℕ → List ℕ → Answer
written room number bytes whole =
    first
    (ltb room 32 ⇒ silent 21
    ∷ ltb room (length whole) ⇒ silent 21
    ∷ ltb 65530 (length bytes) ⇒ silent 22
    ∷ [])
    (record { number = number; reply = whole })
