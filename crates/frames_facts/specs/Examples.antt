-- Document 01, "Text frames" and the reply column of its table: worked cases, their bytes and numbers taken from the paper.
use Rattle.std.specs.Prelude.{Bool, List, [], ◌∷◌, ℕ, eqb}
use Prim.Native.String.{String}
use Rattle.buffer.specs.Byte.{at, same_text}
use Rattle.buffer.specs.Answer.{Answer}
use Rattle.buffer.specs.Quoted.{bytes}
use Rattle.frames.specs.Checksum.{closed}
use Rattle.frames.specs.Frame.{frame_of, frame_number}
use Rattle.frames.specs.declared.HeadV1.{HeadV1}
use Rattle.frames.specs.declared.HeadV2.{HeadV2}
use Rattle.frame_writer.specs.Written.{frame_v2, frame_v1, written_v2, written_v1}
use Rattle.error_texts.specs.Texts.{error_of, error_bytes}
use Rattle.frame_writer.specs.Error.{error_head_v2, error_data_v1, error_head_v1}

-- ---- bytes that come, and the number that a reader of frames gives them: 0 is a frame

pub record Case : Type 0 where
  pub text : List ℕ
  pub number : ℕ

abbrev pub expect : String → ℕ → Case
expect text number = record { text = bytes text; number = number }

abbrev pub cases : List Case
cases =
    expect "0010MV00D\r" 0
    ∷ expect "001M982122V\r" 0
    ∷ expect "0012SM064D7DT2B\r" 0
    ∷ expect "0011C1041.00Y\r" 0
    ∷ expect "0012CC010Z\r" 0
    ∷ expect "001C000100u\r" 0
    -- 127 is a legal checksum; an address that is another gauge's is a frame
    ∷ expect "0060DU00\u{7f}\r" 0
    ∷ expect "0170MV00K\r" 0
    -- SHAPE: no bytes, nine bytes, a V1 frame of 13, byte 3, CR at the checksum's place, no CR, a byte 127 before the checksum
    ∷ expect "" 2
    ∷ expect "0010MV0T\r" 2
    ∷ expect "001c0000100E\r" 2
    ∷ expect "001 MV00t\r" 2
    ∷ expect "0010MV00\r\r" 2
    ∷ expect "0010MV00D" 2
    ∷ expect "0012DU04mb\u{7f}r@\r" 2
    -- CHECKSUM: another byte, and one that no checksum can be
    ∷ expect "0010MV00E\r" 3
    ∷ expect "0010MV00\u{80}\r" 3
    -- ADDRESS: 000, and no digit
    ∷ expect "0000MV00C\r" 4
    ∷ expect "0A10MV00U\r" 4
    -- LENGTH: not the data count, LEN that is no number, LEN 99
    ∷ expect "0019XX01[\r" 6
    ∷ expect "0010MV0AU\r" 6
    ∷ expect "0012SM994D7D\r" 6
    ∷ []

abbrev pub right : Case → Bool
right c = eqb (frame_number (frame_of c.text)) c.number

-- ---- frames that are sent

pub record Sending : Type 0 where
  pub frame : List ℕ
  pub text : List ℕ

-- the error frame of a V2 request to address 1 with this command, and of a V1 request with this letter
abbrev pub error_v2 : String → ℕ → String → Sending
error_v2 command number text =
    let h : HeadV2 = record { address = 1; access = 48; first = at (bytes command) 0; second = at (bytes command) 1 } in
    record { frame = frame_v2 (error_head_v2 h) (error_bytes (error_of number)); text = bytes text }

abbrev pub error_v1 : String → ℕ → String → Sending
error_v1 letter number text =
    let h : HeadV1 = record { address = 1; letter = at (bytes letter) 0 } in
    record { frame = frame_v1 (error_head_v1 number h) (error_data_v1 number); text = bytes text }

abbrev pub sendings : List Sending
sendings =
    error_v2 "MV" 6 "0017MV06LENGTHS\r"
    ∷ error_v2 "XX" 6 "0017XX06LENGTH`\r"
    ∷ error_v2 "XX" 7 "0017XX06_LOGICk\r"
    ∷ error_v2 "MR" 8 "0017MR06NO_DEFX\r"
    ∷ error_v2 "MV" 9 "0017MV06_LOGIC^\r"
    ∷ error_v2 "CC" 10 "0017CC06SYNTAX[\r"
    ∷ error_v2 "CC" 11 "0017CC06_RANGE@\r"
    ∷ error_v2 "CC" 12 "0017CC06_LOGICA\r"
    ∷ error_v2 "T2" 13 "0017T206ERROR1o\r"
    ∷ error_v1 "X" 8 "001NO_DEF\\\r"
    ∷ error_v1 "c" 10 "001c_LOGICA\r"
    ∷ error_v1 "c" 12 "001c_LOGICA\r"
    ∷ error_v1 "c" 11 "001c_RANGE@\r"
    ∷ error_v1 "C" 11 "001C_RANGE`\r"
    ∷ error_v1 "M" 13 "001M1O\r"
    -- the frameless line of 973.4
    ∷ record { frame = closed (bytes "9.734e2"); text = bytes "9.734e2\\\r" }
    ∷ []

abbrev pub well : Sending → Bool
well c = same_text c.frame c.text

-- ---- what a frame's writer answers: 0 is a frame

pub record Writing : Type 0 where
  pub answer : Answer
  pub number : ℕ

-- a writer that is lent `room` bytes for a frame of this address, access and command (V1: letter) and data
abbrev pub writing_v2 : ℕ → ℕ → String → String → ℕ → Writing
writing_v2 room address start text number =
    let s = bytes start in
    let h : HeadV2 = record { address = address; access = at s 0; first = at s 1; second = at s 2 } in
    record { answer = written_v2 room h (bytes text); number = number }

abbrev pub writing_v1 : ℕ → ℕ → String → String → ℕ → Writing
writing_v1 room address letter text number =
    let h : HeadV1 = record { address = address; letter = at (bytes letter) 0 } in
    record { answer = written_v1 room h (bytes text); number = number }

abbrev pub writings : List Writing
writings =
    writing_v2 14 1 "2DU" "mbar" 0
    ∷ writing_v1 12 999 "c" "000100" 0
    -- ROOM
    ∷ writing_v2 13 1 "2DU" "mbar" 1
    -- SHAPE: data that hold a frame of their own, which would change the address; a byte 31, and 127; an access code that is no digit; a command
    -- with CR; a letter that is none, seven data
    ∷ writing_v2 109 1 "2DU" "x\r0012DA03005@\r" 2
    ∷ writing_v2 109 1 "2DU" "mb\u{1f}r" 2
    ∷ writing_v2 109 1 "2DU" "mb\u{7f}r" 2
    ∷ writing_v2 109 1 "MDU" "mbar" 2
    ∷ writing_v2 109 1 "2\rU" "mbar" 2
    ∷ writing_v1 109 1 "0" "" 2
    ∷ writing_v1 109 1 "[" "" 2
    ∷ writing_v1 109 1 "c" "00010\r" 2
    ∷ writing_v1 109 1 "c" "0000100" 2
    -- ADDRESS
    ∷ writing_v2 109 0 "2DU" "mbar" 4
    ∷ writing_v1 109 1000 "M" "" 4
    ∷ []

abbrev pub answered : Writing → Bool
answered c = eqb c.answer.number c.number
