-- Document 01: "A request is accepted exactly if lent room, frame, checksum, address, command, access, data and state satisfy document 01".
use Rattle.std.specs.Prelude.{Bool, true, false, not, ◌&&◌, List, [], ◌∷◌, ℕ, leb, ltb, Ok, Err}
use Rattle.buffer.specs.First.{Row, ◌⇒◌}
use Rattle.buffer.specs.Byte.{within}
use Rattle.opg_frames.specs.Frame.{foreign, wrong_crc, wrong_version, acknowledges, indexed}
use Rattle.opg_commands.specs.Limits.{unit_low, unit_high, mode_high, gas_high}
use Rattle.opg_commands.specs.declared.Settings.{Settings}
use Rattle.opg_request_reader.specs.Asked.{Asked, wrong_shape, unknown_cmd, unknown_pid, lacks_access, wrong_count, meaning, outside}
use Rattle.opg_gauge.specs.Judged.{unavailable}
use Rattle.opg_gauge.specs.declared.Gauge.{Gauge}

-- a request is accepted
unfoldable pub is_accepted : Asked → Bool
is_accepted (Ok r) = true
is_accepted (Err d) = false

-- no row's test holds
unfoldable pub none : {A : Type 0} → List (Row A) → Bool
none [] = true
none ((t ⇒ a) ∷ rows) = not t && none rows

-- 21: not "less than 32 bytes lent"
abbrev pub has_room : ℕ → Bool
has_room room = not (ltb room 32)

-- 22: the length and the reserved bits
abbrev pub frame_fits : List ℕ → Bool
frame_fits s = not (wrong_shape s)

-- 23: ADDR and ID are 0
abbrev pub address_fits : List ℕ → Bool
address_fits s = not (foreign 0 s)

-- 100: it does not differ
abbrev pub checksum_fits : List ℕ → Bool
checksum_fits s = not (wrong_crc s)

-- 104 and 102: version 2, and the acknowledge clear
abbrev pub header_fits : List ℕ → Bool
header_fits s = not (wrong_version s) && not (acknowledges s)

-- 101 and 3: CMD and PID are known
abbrev pub command_fits : List ℕ → Bool
command_fits s = not (unknown_cmd s) && not (unknown_pid s)

-- 1: the PID has this access
abbrev pub access_fits : List ℕ → Bool
access_fits s = not (lacks_access s)

-- 2, 4 and 2: IDX is 0, the data have their length, no value lies outside
abbrev pub data_fits : List ℕ → Bool
data_fits s = not (indexed s) && (not (wrong_count s) && not (outside s))

-- 0: no unavailable pressure is asked for
abbrev pub state_fits : Gauge → List ℕ → Bool
state_fits g s = not (unavailable g (meaning s))

-- 21, 22 and 23: "These are silent."
abbrev pub silent_number : ℕ → Bool
silent_number n = within 21 23 n

-- settings within their limits
unfoldable pub sound : Settings → Bool
sound s = within unit_low unit_high s.unit && (leb s.mode mode_high && leb s.gas gas_high)
