-- Document 01, "OPG frames": the parts of any bytes as a frame, and each part's tests.
use Rattle.std.specs.Prelude.{Bool, not, ◌||◌, List, [], ◌∷◌, ℕ, ◌+◌, ◌-◌, ◌*◌, ◌/◌, ◌%◌, eqb, ltb, length, take, drop}
use Rattle.buffer.specs.Byte.{at, same_text}
use Rattle.opg_crc.specs.Crc.{crc_of}

-- "ADDR, ID, header (version in bits 7 to 4, reserved 3 to 1, acknowledge 0), LEN (2, high first), CMD, PID (2), IDX (2), data, CRC"
unfoldable pub address_of : List ℕ → ℕ
address_of s = at s 0

unfoldable pub id_of : List ℕ → ℕ
id_of s = at s 1

unfoldable pub version_of : List ℕ → ℕ
version_of s = at s 2 / 16

unfoldable pub reserved_of : List ℕ → ℕ
reserved_of s = at s 2 / 2 % 8

unfoldable pub acknowledge_of : List ℕ → ℕ
acknowledge_of s = at s 2 % 2

unfoldable pub len_of : List ℕ → ℕ
len_of s = at s 3 * 256 + at s 4

unfoldable pub cmd_of : List ℕ → ℕ
cmd_of s = at s 5

unfoldable pub pid_of : List ℕ → ℕ
pid_of s = at s 6 * 256 + at s 7

unfoldable pub idx_of : List ℕ → ℕ
idx_of s = at s 8 * 256 + at s 9

-- how many data bytes a frame has, and its data byte at place i
unfoldable pub count_of : List ℕ → ℕ
count_of s = length s - 12

abbrev pub data_at : List ℕ → ℕ → ℕ
data_at s i = at s (10 + i)

-- the bytes before the CRC
abbrev pub body : List ℕ → List ℕ
body s = take (length s - 2) s

-- "CRC (low byte first)"
unfoldable pub crc_bytes : List ℕ → List ℕ
crc_bytes b = crc_of b % 256 ∷ crc_of b / 256 % 256 ∷ []

-- "the frame has LEN + 7 bytes", "LEN at least 5"; "length or reserved bits wrong"
unfoldable pub misshapen : List ℕ → Bool
misshapen s = ltb (len_of s) 5 || (not (eqb (length s) (len_of s + 7)) || not (eqb (reserved_of s) 0))

-- ADDR is not 0, or ID is not the one given
unfoldable pub foreign : ℕ → List ℕ → Bool
foreign id s = not (eqb (address_of s) 0) || not (eqb (id_of s) id)

-- the last two bytes are not the CRC of those before them
unfoldable pub wrong_crc : List ℕ → Bool
wrong_crc s = not (same_text (drop (length s - 2) s) (crc_bytes (body s)))

-- "version 2"
unfoldable pub wrong_version : List ℕ → Bool
wrong_version s = not (eqb (version_of s) 2)

unfoldable pub acknowledges : List ℕ → Bool
acknowledges s = eqb (acknowledge_of s) 1

-- IDX is not 0
unfoldable pub indexed : List ℕ → Bool
indexed s = not (eqb (idx_of s) 0)
