-- What is proved here, each statement as a type; proofs/ has the proofs.
use Rattle.std.specs.Prelude.{◌≡◌, List, ◌↔◌, true, ℕ, ◌≤◌, length, Ok}
use Rattle.frames.specs.Frame.{data_from, frame_of}
use Rattle.frames.specs.declared.HeadV2.{HeadV2}
use Rattle.frames.specs.declared.Frame.TheVariants.{V2, V1}
use Rattle.frame_writer.specs.Written.{frame_v2, frame_v1, carries_v2, carries_v1, written_v2, written_v1}
use Rattle.frames.specs.declared.HeadV1.{HeadV1}
use Rattle.buffer.specs.Byte.{within, every}
use Rattle.frames_facts.specs.ReadBack.{ReadV2, ReadV1}
use Rattle.frame_writer.specs.Sendable.{SendableV2, SendableV1}
use Rattle.frames_facts.specs.Examples.{right, cases, well, sendings, answered, writings}

-- "V2: address (3 bytes), access code (1), command (2), LEN (2 digits), data (0 to 99), checksum, CR (13).": bytes are read as a head with data
-- exactly if these can be sent and the bytes are their frame
abbrev pub FrameExactlyV2 : Type 0
FrameExactlyV2 = (s : List ℕ) (h : HeadV2) (d : List ℕ) → ((frame_of s ≡ Ok (V2 h)) × (data_from 8 s ≡ d)) ↔ (SendableV2 h d × (s ≡ frame_v2 h d))

-- "V1 request: address, one letter, data (0 to 6), checksum, CR": the same
abbrev pub FrameExactlyV1 : Type 0
FrameExactlyV1 = (s : List ℕ) (h : HeadV1) (d : List ℕ) → ((frame_of s ≡ Ok (V1 h)) × (data_from 4 s ≡ d)) ↔ (SendableV1 h d × (s ≡ frame_v1 h d))

-- a V2 frame of what can be sent is read as what was sent
abbrev pub ReadBackV2 : Type 0
ReadBackV2 = (h : HeadV2) (bytes : List ℕ) → SendableV2 h bytes → ReadV2 h bytes

-- and a V1 frame
abbrev pub ReadBackV1 : Type 0
ReadBackV1 = (h : HeadV1) (bytes : List ℕ) → SendableV1 h bytes → ReadV1 h bytes

-- what can be sent is what a frame's writer says it carries, with an address from 1 to 999
abbrev pub SendableExactlyV2 : Type 0
SendableExactlyV2 = (h : HeadV2) (d : List ℕ) → SendableV2 h d ↔ ((carries_v2 h d ≡ true) × (within 1 999 h.address ≡ true))

-- and for V1
abbrev pub SendableExactlyV1 : Type 0
SendableExactlyV1 = (h : HeadV1) (d : List ℕ) → SendableV1 h d ↔ ((carries_v1 h d ≡ true) × (within 1 999 h.address ≡ true))

-- a writer accepts exactly what fits the memory lent and can be sent
abbrev pub AcceptedExactlyV2 : Type 0
AcceptedExactlyV2 = (room : ℕ) (h : HeadV2) (d : List ℕ) → ((written_v2 room h d).number ≡ 0) ↔ ((length (frame_v2 h d) ≤ room) × SendableV2 h d)

-- and for V1
abbrev pub AcceptedExactlyV1 : Type 0
AcceptedExactlyV1 = (room : ℕ) (h : HeadV1) (d : List ℕ) → ((written_v1 room h d).number ≡ 0) ↔ ((length (frame_v1 h d) ≤ room) × SendableV1 h d)

-- whatever a writer accepted, read again, is the same head and data
abbrev pub WrittenReadV2 : Type 0
WrittenReadV2 = (room : ℕ) (h : HeadV2) (d : List ℕ) → (written_v2 room h d).number ≡ 0
    → (frame_of (written_v2 room h d).reply ≡ Ok (V2 h)) × (data_from 8 (written_v2 room h d).reply ≡ d)

-- and for V1
abbrev pub WrittenReadV1 : Type 0
WrittenReadV1 = (room : ℕ) (h : HeadV1) (d : List ℕ) → (written_v1 room h d).number ≡ 0
    → (frame_of (written_v1 room h d).reply ≡ Ok (V1 h)) × (data_from 4 (written_v1 room h d).reply ≡ d)

-- the worked cases: each text is read with the paper's number
abbrev pub AllRead : Type 0
AllRead = every right cases ≡ true

-- each error frame, and the frameless line, has the paper's bytes
abbrev pub AllSent : Type 0
AllSent = every well sendings ≡ true

-- each writer answers the paper's number
abbrev pub AllAnswered : Type 0
AllAnswered = every answered writings ≡ true
