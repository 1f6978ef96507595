-- The script of a sequence of calls.
use Rattle.std.specs.Prelude.{cond, List, [], ◌∷◌, ◌++◌, ℕ, ◌+◌, ◌<◌, length}
use Rattle.readings.specs.declared.Bench.{Bench}
use Rattle.readings.specs.declared.Bench.TheVariants.{Reads, UnderRange, OverRange, Faulty, Status}
use Rattle.opg_gauge.specs.declared.Pressure.{Pressure}
use Rattle.opg_gauge.specs.declared.Pressure.TheVariants.{Bits, Unavailable}
use Rattle.script.specs.Number.{pair_bytes, word_bytes}
use Rattle.script.specs.declared.To.{To}
use Rattle.script.specs.declared.To.TheVariants.{Text, Opg}
use Rattle.player.specs.Played.{Exchange, asked, lined, bench_set, opg_bench_set}

-- a call before it is answered: a request to one of the gauges, the stream line, a bench setting of the text gauge, one of the OPG
pub data Fed : Type 0 where
  request : (to : To) (s : List ℕ) (lent : ℕ) → Fed
  line : (lent : ℕ) → Fed
  bench : (b : Bench) → Fed
  pressure : (p : Pressure) → Fed

abbrev pub fed : Exchange → Fed
fed (asked to s before number len after) = request to s (length before)
fed (lined before number len after) = line (length before)
fed (bench_set b number) = bench b
fed (opg_bench_set p number) = pressure p

-- how many bytes of memory a call asks for
abbrev pub lent_to : Fed → ℕ
lent_to (request to s lent) = lent
lent_to (line lent) = lent
lent_to (bench b) = 0
lent_to (pressure p) = 0

-- ---- a call as bytes, as the script has it

abbrev pub kind_of : To → ℕ
kind_of Text = 0
kind_of Opg = 3

-- what follows the kind of a bench setting
unfoldable pub bench_bytes : Bench → List ℕ
bench_bytes (Reads code x) = 0 ∷ code ∷ cond x.negative 1 0 ∷ word_bytes x.digits ++ x.up ∷ x.down ∷ []
bench_bytes (UnderRange code) = 1 ∷ code ∷ 0 ∷ 0 ∷ 0 ∷ 0 ∷ 0 ∷ 0 ∷ 0 ∷ []
bench_bytes (OverRange code) = 2 ∷ code ∷ 0 ∷ 0 ∷ 0 ∷ 0 ∷ 0 ∷ 0 ∷ 0 ∷ []
bench_bytes (Faulty code) = 3 ∷ code ∷ 0 ∷ 0 ∷ 0 ∷ 0 ∷ 0 ∷ 0 ∷ 0 ∷ []
bench_bytes (Status v) = 4 ∷ v ∷ 0 ∷ 0 ∷ 0 ∷ 0 ∷ 0 ∷ 0 ∷ 0 ∷ []

unfoldable pub pressure_bytes : Pressure → List ℕ
pressure_bytes (Bits w) = 0 ∷ word_bytes w
pressure_bytes Unavailable = 1 ∷ 0 ∷ 0 ∷ 0 ∷ 0 ∷ []

unfoldable pub bytes_of : Fed → List ℕ
bytes_of (request to s lent) = kind_of to ∷ pair_bytes lent ++ pair_bytes (length s) ++ s
bytes_of (line lent) = 1 ∷ pair_bytes lent
bytes_of (bench b) = 2 ∷ bench_bytes b
bytes_of (pressure p) = 4 ∷ pressure_bytes p

-- ---- a sequence

-- calls in the order in which they are made, each as its bytes
unfoldable pub script_of : List Fed → List ℕ
script_of [] = []
script_of (f ∷ fs) = bytes_of f ++ script_of fs

-- how many bytes of memory all calls ask for
unfoldable pub lent_to_all : List Fed → ℕ
lent_to_all [] = 0
lent_to_all (f ∷ fs) = lent_to f + lent_to_all fs

-- P holds of each
unfoldable pub Every : {F : Type 0} → (F → Type 0) → List F → Type 0
Every P [] = Unit {0}
Every P (f ∷ fs) = P f × Every P fs

-- each of these numbers is a byte
abbrev pub Bytes : List ℕ → Type 0
Bytes s = Every (λ (x : ℕ). x < 256) s

-- what a script can hold: a call whose request has bytes, whose lengths are numbers of two bytes, and whose bench setting has the numbers of its type
abbrev pub Sendable : Fed → Type 0
Sendable (request to s lent) = Bytes s × (length s < 65536) × (lent < 65536)
Sendable (line lent) = lent < 65536
Sendable (bench (Reads code x)) = (code < 256) × (x.digits < 4294967296) × (x.up < 256) × (x.down < 256)
Sendable (bench (UnderRange code)) = code < 256
Sendable (bench (OverRange code)) = code < 256
Sendable (bench (Faulty code)) = code < 256
Sendable (bench (Status v)) = v < 256
Sendable (pressure (Bits w)) = w < 4294967296
Sendable (pressure Unavailable) = Unit {0}
