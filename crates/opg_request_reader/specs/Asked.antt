-- Document 01, "OPG frames": any bytes read as a request, or the first refusal that applies.
use Rattle.std.specs.Prelude.{Bool, not, ◌&&◌, ◌||◌, List, [], ◌∷◌, ℕ, eqb, leb, length, Result, Ok, Err}
use Rattle.buffer.specs.Byte.{within, word_at}
use Rattle.buffer.specs.First.{Row, ◌⇒◌, first, pick}
use Rattle.opg_frames.specs.Frame.{misshapen, foreign, wrong_crc, wrong_version, acknowledges, indexed, cmd_of, pid_of, count_of, data_at}
use Rattle.opg_frames.specs.Number.{refusal_number, error_number}
use Rattle.opg_frames.specs.declared.Refusal.{Refusal}
use Rattle.opg_frames.specs.declared.Refusal.TheVariants as refusal
use Rattle.opg_frames.specs.declared.ErrorByte.{ErrorByte}
use Rattle.opg_frames.specs.declared.ErrorByte.TheVariants as byte
use Rattle.opg_commands.specs.Limits.{mode_high}
use Rattle.opg_commands.specs.Request.{outside_of}
use Rattle.opg_commands.specs.declared.Request.{Request}
use Rattle.opg_commands.specs.declared.Request.TheVariants.{ReadPressure, ReadUnit, WriteUnit, DetectionOff, DetectionOn}
use Rattle.opg_request_reader.specs.declared.Denied.{Denied}
use Rattle.opg_request_reader.specs.declared.Denied.TheVariants.{Silent, Error}

-- "22 length or reserved bits wrong"; "a request at most 128"
unfoldable pub wrong_shape : List ℕ → Bool
wrong_shape s = leb 129 (length s) || misshapen s

-- "CMD not 1 or 3: 101"
unfoldable pub unknown_cmd : List ℕ → Bool
unknown_cmd s = not (eqb (cmd_of s) 1 || eqb (cmd_of s) 3)

-- "PID unknown 3"
unfoldable pub unknown_pid : List ℕ → Bool
unknown_pid s = not (eqb (pid_of s) 14000 || (eqb (pid_of s) 14001 || eqb (pid_of s) 22000))

-- "access 1": "PID 14000 read", "PID 14001 read and write", "PID 22000 write"
unfoldable pub lacks_access : List ℕ → Bool
lacks_access s = (eqb (pid_of s) 14000 && eqb (cmd_of s) 3) || (eqb (pid_of s) 22000 && eqb (cmd_of s) 1)

-- "data length 4": the pressure's unit; mode, spectra and gas; the unit that is written; none with the unit's read
unfoldable pub needed_of : List ℕ → ℕ
needed_of s =
    first
    (eqb (pid_of s) 14000 ⇒ 1
    ∷ eqb (pid_of s) 22000 ⇒ 6
    ∷ eqb (cmd_of s) 3 ⇒ 1
    ∷ [])
    0

unfoldable pub wrong_count : List ℕ → Bool
wrong_count s = not (eqb (count_of s) (needed_of s))

-- what a request means. "With mode 0 the other five bytes are not examined"
unfoldable pub meaning : List ℕ → Request
meaning s =
    first
    (eqb (pid_of s) 14000 ⇒ ReadPressure (data_at s 0)
    ∷ eqb (pid_of s) 14001 ⇒ pick (eqb (cmd_of s) 1) ReadUnit (WriteUnit (data_at s 0))
    ∷ eqb (data_at s 0) 0 ⇒ DetectionOff
    ∷ [])
    (DetectionOn (word_at s 11) (data_at s 5))

-- "value 2": "mode 0 or 1", or a value of the request
unfoldable pub wrong_mode : List ℕ → Bool
wrong_mode s = eqb (pid_of s) 22000 && not (within 0 mode_high (data_at s 0))

unfoldable pub outside : List ℕ → Bool
outside s = wrong_mode s || outside_of (meaning s)

-- what any bytes are: a request, or a refusal
abbrev pub Asked : Type 0
Asked = Result Request Denied

abbrev pub silent : Refusal → Asked
silent k = Err (Silent k)

abbrev pub error : ErrorByte → Asked
error e = Err (Error e)

-- the refusals that depend on the bytes alone, in the order of document 01. 22 and 23 are silent; the others are answered with an error byte
abbrev pub refusals : List ℕ → List (Row Asked)
refusals s =
    wrong_shape s ⇒ silent refusal.Shape
    ∷ foreign 0 s ⇒ silent refusal.Address
    ∷ wrong_crc s ⇒ error byte.Crc
    ∷ wrong_version s ⇒ error byte.Version
    ∷ acknowledges s ⇒ error byte.Acknowledge
    ∷ unknown_cmd s ⇒ error byte.Cmd
    ∷ unknown_pid s ⇒ error byte.Pid
    ∷ lacks_access s ⇒ error byte.Access
    ∷ indexed s ⇒ error byte.Value
    ∷ wrong_count s ⇒ error byte.Length
    ∷ outside s ⇒ error byte.Value
    ∷ []

unfoldable pub asked_of : List ℕ → Asked
asked_of s = first (refusals s) (Ok (meaning s))

-- document 01's number for each answer; "Accepted is 20"
unfoldable pub denied_number : Denied → ℕ
denied_number (Silent k) = refusal_number k
denied_number (Error e) = error_number e

unfoldable pub asked_number : Asked → ℕ
asked_number (Ok r) = 20
asked_number (Err d) = denied_number d
