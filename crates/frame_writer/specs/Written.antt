-- Document 01, "Text frames": the bytes of a frame, and the answer of a frame's writer.
use Rattle.std.specs.Prelude.{Bool, not, ◌&&◌, List, [], ◌∷◌, ◌++◌, ℕ, ltb, leb, length}
use Rattle.buffer.specs.First.{◌⇒◌, first}
use Rattle.buffer.specs.Byte.{within, is_digit, every, digits2, digits3}
use Rattle.buffer.specs.Answer.{Answer, silent}
use Rattle.frames.specs.Checksum.{closed}
use Rattle.frames.specs.Frame.{is_letter}
use Rattle.frames.specs.declared.HeadV1.{HeadV1}
use Rattle.frames.specs.declared.HeadV2.{HeadV2}

-- "address (3 bytes), access code (1), command (2), LEN (2 digits), data (0 to 99), checksum, CR"
unfoldable pub frame_v2 : HeadV2 → List ℕ → List ℕ
frame_v2 h bytes = closed (digits3 h.address ++ (h.access ∷ h.first ∷ h.second ∷ []) ++ digits2 (length bytes) ++ bytes)

-- "address, one letter, data (0 to 6), checksum, CR"
unfoldable pub frame_v1 : HeadV1 → List ℕ → List ℕ
frame_v1 h bytes = closed (digits3 h.address ++ (h.letter ∷ []) ++ bytes)

-- "CR stands at the end only; the bytes before the checksum are 32 to 126": data that a frame can carry, at most `most` bytes
unfoldable pub data_fit : ℕ → List ℕ → Bool
data_fit most bytes = leb (length bytes) most && every (within 32 126) bytes

-- "Byte 3 decides: a digit is V2, a letter A-Z or a-z is V1": what a V2 frame can carry, "data (0 to 99)", and a V1 frame, "data (0 to 6)"
unfoldable pub carries_v2 : HeadV2 → List ℕ → Bool
carries_v2 h bytes = is_digit h.access && within 32 126 h.first && within 32 126 h.second && data_fit 99 bytes

unfoldable pub carries_v1 : HeadV1 → List ℕ → Bool
carries_v1 h bytes = is_letter h.letter && data_fit 6 bytes

-- an address that a frame can hold: "4 (address outside 1 to 999)"
abbrev pub is_address : ℕ → Bool
is_address a = within 1 999 a

-- what a writer answers that is lent `room` bytes, told whether a frame can carry what is to be written: the frame, or 1 ROOM where it does
-- not fit, 2 SHAPE where it can be no frame, 4 ADDRESS where the address is outside 1 to 999
unfoldable pub frame_written : ℕ → Bool → ℕ → List ℕ → Answer
frame_written room carried address frame =
    first
    (ltb room (length frame) ⇒ silent 1
    ∷ not carried ⇒ silent 2
    ∷ not (is_address address) ⇒ silent 4
    ∷ [])
    (record { number = 0; reply = frame })

abbrev pub written_v2 : ℕ → HeadV2 → List ℕ → Answer
written_v2 room h bytes = frame_written room (carries_v2 h bytes) h.address (frame_v2 h bytes)

abbrev pub written_v1 : ℕ → HeadV1 → List ℕ → Answer
written_v1 room h bytes = frame_written room (carries_v1 h bytes) h.address (frame_v1 h bytes)
