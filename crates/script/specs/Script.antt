-- The calls of a script: what stands at its front, and at a place of it.
use Rattle.std.specs.Prelude.{not, List, [], ◌∷◌, ℕ, ◌+◌, ◌-◌, ◌<◌, ◌≤◌, ltb, eqb, length, drop, None, Option, Some}
use Rattle.buffer.specs.First.{◌⇒◌, first}
use Rattle.buffer.specs.Byte.{at, pair_at, word_at}
use Rattle.decimal.specs.declared.Exact.{Exact}
use Rattle.readings.specs.declared.Bench.TheVariants.{Reads, UnderRange, OverRange, Faulty, Status}
use Rattle.opg_gauge.specs.declared.Pressure.TheVariants.{Bits, Unavailable}
use Rattle.script.specs.declared.To.{To}
use Rattle.script.specs.declared.To.TheVariants.{Text, Opg}
use Rattle.script.specs.declared.Call.{Call}
use Rattle.script.specs.declared.Call.TheVariants.{Request, Line, SetBench, SetOpgBench}

-- a request: 0 or 3, how many bytes are lent, how many bytes it has, and its bytes
unfoldable pub request_of : To → List ℕ → Option Call
request_of to s = first (ltb (length s) 5 ⇒ None ∷ ltb (length s - 5) (pair_at s 3) ⇒ None ∷ []) (Some (Request to (pair_at s 1) (pair_at s 3)))

-- the stream line: 1, and how many bytes are lent
unfoldable pub line_of : List ℕ → Option Call
line_of s = first (ltb (length s) 3 ⇒ None ∷ []) (Some (Line (pair_at s 1)))

-- a bench setting of the text gauge: 2, which, the source's code or the status, the sign, four bytes of digits, how many places up and how many
-- down
unfoldable pub exact_at : List ℕ → Exact
exact_at s = record { negative = not (eqb (at s 3) 0); digits = word_at s 4; up = at s 8; down = at s 9 }

unfoldable pub setting_of : List ℕ → Option Call
setting_of s =
    first
    (ltb (length s) 10 ⇒ None
    ∷ eqb (at s 1) 0 ⇒ Some (SetBench (Reads (at s 2) (exact_at s)))
    ∷ eqb (at s 1) 1 ⇒ Some (SetBench (UnderRange (at s 2)))
    ∷ eqb (at s 1) 2 ⇒ Some (SetBench (OverRange (at s 2)))
    ∷ eqb (at s 1) 3 ⇒ Some (SetBench (Faulty (at s 2)))
    ∷ eqb (at s 1) 4 ⇒ Some (SetBench (Status (at s 2)))
    ∷ [])
    None

-- a bench setting of the OPG: 4, which, and four bytes: the pressure's bits, or, where it is unavailable, anything
unfoldable pub pressure_of : List ℕ → Option Call
pressure_of s =
    first
    (ltb (length s) 6 ⇒ None
    ∷ eqb (at s 1) 0 ⇒ Some (SetOpgBench (Bits (word_at s 2)))
    ∷ eqb (at s 1) 1 ⇒ Some (SetOpgBench Unavailable)
    ∷ [])
    None

-- the call at the front of s; none where no whole call stands there
unfoldable pub call_of : List ℕ → Option Call
call_of s =
    first
    (ltb (length s) 1 ⇒ None
    ∷ eqb (at s 0) 0 ⇒ request_of Text s
    ∷ eqb (at s 0) 1 ⇒ line_of s
    ∷ eqb (at s 0) 2 ⇒ setting_of s
    ∷ eqb (at s 0) 3 ⇒ request_of Opg s
    ∷ eqb (at s 0) 4 ⇒ pressure_of s
    ∷ [])
    None

-- the call at a place of a script
abbrev pub call_at : List ℕ → ℕ → Option Call
call_at script at = call_of (drop at script)

-- how many bytes of memory a call asks for
abbrev pub room_of : Option Call → ℕ
room_of (Some (Request to room len)) = room
room_of (Some (Line room)) = room
room_of (Some (SetBench b)) = 0
room_of (Some (SetOpgBench p)) = 0
room_of None = 0

-- a call that was read at place `at` of n bytes ends within them, and its room is a 16-bit number
abbrev pub Fits : ℕ → ℕ → Option Call → Type 0
Fits n at (Some (Request to room len)) = (room < 65536) × (at + 5 + len ≤ n)
Fits n at (Some (Line room)) = (room < 65536) × (at + 3 ≤ n)
Fits n at (Some (SetBench b)) = at + 10 ≤ n
Fits n at (Some (SetOpgBench p)) = at + 6 ≤ n
Fits n at None = Unit {0}
