-- Document 01, "Text frames": any bytes read as a frame, or refused with 2, 3, 4 or 6.
use Rattle.std.specs.Prelude.{ℕ, ◌-◌, Bool, true, false, not, ◌||◌, List, [], ◌∷◌, length, take, drop, ◌==◌, nat_eq, Err, Ok, Result}
use Rattle.buffer.specs.First.{◌⇒◌, first}
use Rattle.buffer.specs.Byte.{at, within, is_digit, every, numeral}
use Rattle.frames.specs.Checksum.{checksum_of}
use Rattle.frames.specs.declared.HeadV1.{HeadV1}
use Rattle.frames.specs.declared.HeadV2.{HeadV2}
use Rattle.frames.specs.declared.Frame.{Frame}
use Rattle.frames.specs.declared.Frame.TheVariants.{V1, Length, V2}
use Rattle.refusals.specs.Number.{refusal_number}
use Rattle.refusals.specs.declared.Refusal.{Refusal}

-- "a letter A-Z or a-z"
unfoldable pub is_letter : ℕ → Bool
is_letter b = within 65 90 b || within 97 122 b

-- the bytes before the checksum, the checksum's byte, and the last byte
abbrev pub body : List ℕ → List ℕ
body s = take (length s - 2) s

abbrev pub sum_byte : List ℕ → ℕ
sum_byte s = at s (length s - 2)

abbrev pub last_byte : List ℕ → ℕ
last_byte s = at s (length s - 1)

-- the data: V2's begin at byte 8, V1's at byte 4
abbrev pub data_from : ℕ → List ℕ → List ℕ
data_from start s = drop start (body s)

-- "Byte 3 decides: a digit is V2, a letter is V1." "A frame has 10 to 109 bytes", V1 "6 to 12 bytes"
unfoldable pub length_fits : List ℕ → Bool
length_fits s =
    first
    (is_digit (at s 3) ⇒ within 10 109 (length s)
    ∷ is_letter (at s 3) ⇒ within 6 12 (length s)
    ∷ [])
    false

-- 2 SHAPE: "length, byte 3, CR or a byte outside the rules above". "CR stands at the end only; the bytes before the checksum are 32 to 126."
unfoldable pub misshapen : List ℕ → Bool
misshapen s =
    first
    (not (length_fits s) ⇒ true
    ∷ not (last_byte s == 13) ⇒ true
    ∷ nat_eq (sum_byte s) 13 ⇒ true
    ∷ not (every (within 32 126) (body s)) ⇒ true
    ∷ [])
    false

-- 3 CHECKSUM: "it differs"
unfoldable pub wrong_sum : List ℕ → Bool
wrong_sum s = not (sum_byte s == checksum_of (body s))

abbrev pub address_of : List ℕ → ℕ
address_of s = numeral (take 3 s)

-- 4 ADDRESS: "not three digits, or 000"
unfoldable pub wrong_address : List ℕ → Bool
wrong_address s =
    first
    (not (every is_digit (take 3 s)) ⇒ true
    ∷ nat_eq (address_of s) 0 ⇒ true
    ∷ [])
    false

-- 6 LENGTH: "LEN not two digits or not the data count"
unfoldable pub wrong_length : List ℕ → Bool
wrong_length s =
    let len = take 2 (drop 6 s) in
    first
    (not (every is_digit len) ⇒ true
    ∷ not (numeral len == length (data_from 8 s)) ⇒ true
    ∷ [])
    false

unfoldable pub head_v1 : List ℕ → HeadV1
head_v1 s = record { address = address_of s; letter = at s 3 }

unfoldable pub head_v2 : List ℕ → HeadV2
head_v2 s = record { address = address_of s; access = at s 3; first = at s 4; second = at s 5 }

-- what bytes are as a frame: the first refusal that applies, in the order of document 01's table. (5 OTHER stands between 4 and 6, and
-- is the gauge's own: so a frame that is refused with 6 tells its head.)
unfoldable pub frame_of : List ℕ → Result Frame Refusal
frame_of s =
    first
    (misshapen s ⇒ Err Refusal.Shape
    ∷ wrong_sum s ⇒ Err Refusal.Checksum
    ∷ wrong_address s ⇒ Err Refusal.Address
    ∷ is_letter (at s 3) ⇒ Ok (V1 (head_v1 s))
    ∷ wrong_length s ⇒ Ok (Length (head_v2 s))
    ∷ [])
    (Ok (V2 (head_v2 s)))

-- document 01's number for each answer: 0 where the bytes are a frame
unfoldable pub frame_number : Result Frame Refusal → ℕ
frame_number (Err k) = refusal_number k
frame_number (Ok (V1 h)) = 0
frame_number (Ok (Length h)) = 6
frame_number (Ok (V2 h)) = 0
