-- Document 01, "Settings and readings, V2" and "V1 on the same settings": what typed requests are sent as.
use Rattle.std.specs.Prelude.{List, [], ◌++◌, ℕ, ◌/◌}
use Rattle.buffer.specs.Byte.{at, digits3}
use Rattle.buffer.specs.Quoted.{bytes}
use Rattle.frames.specs.declared.HeadV1.{HeadV1}
use Rattle.frames.specs.declared.HeadV2.{HeadV2}
use Rattle.sources.specs.declared.Profile.TheVariants.{Standard}
use Rattle.settings.specs.Limits.{limits_of}
use Rattle.settings.specs.Settings.{key_of, factory, put_of}
use Rattle.settings.specs.Sent.{read_text}
use Rattle.settings.specs.Units.{unit_code}
use Rattle.requests.specs.Command.{command_text, read_code, write_code, restore_code}
use Rattle.requests.specs.declared.Command.{Command}
use Rattle.requests.specs.declared.Command.TheVariants.{Of}
use Rattle.requests.specs.declared.RequestV2.{RequestV2}
use Rattle.requests.specs.declared.RequestV2.TheVariants.{Read, Restore, Set}
use Rattle.requests.specs.declared.RequestV1.{RequestV1}
use Rattle.requests.specs.declared.RequestV1.TheVariants.{Measure, ReadFactor, Unlock, SetFactor, ReadUnit, SetUnit}

-- ---- V2

-- "read 0", "write 2", "factory default 4"
unfoldable pub access_of : RequestV2 → ℕ
access_of (Read c) = read_code
access_of (Restore c) = restore_code
access_of (Set x) = write_code

unfoldable pub command_in : RequestV2 → Command
command_in (Read c) = c
command_in (Restore c) = c
command_in (Set x) = Of (key_of x)

unfoldable pub head_for : ℕ → RequestV2 → HeadV2
head_for address r = record { address = address; access = access_of r; first = at (command_text (command_in r)) 0; second = at (command_text (command_in r)) 1 }

-- the data: a write sends what a read of the setting sends after it, whatever else is held; the list counts for SM only
unfoldable pub data_v2 : RequestV2 → List ℕ → List ℕ
data_v2 (Read c) list = []
data_v2 (Restore c) list = []
data_v2 (Set x) list = read_text (key_of x) (put_of (factory (limits_of Standard)) x list)

-- ---- V1

-- "six digits"
abbrev pub digits6 : ℕ → List ℕ
digits6 n = digits3 (n / 1000) ++ digits3 n

-- `M`, `C`, `c`, `U`, `u`
unfoldable pub letter_v1 : RequestV1 → ℕ
letter_v1 Measure = 77
letter_v1 ReadFactor = 67
letter_v1 Unlock = 99
letter_v1 (SetFactor n) = 99
letter_v1 ReadUnit = 85
letter_v1 (SetUnit u) = 117

-- no data with `M` and `U`, the digit 1 with `C` and the unlock, six digits with the others
unfoldable pub data_v1 : RequestV1 → List ℕ
data_v1 Measure = []
data_v1 ReadFactor = bytes "1"
data_v1 Unlock = bytes "1"
data_v1 (SetFactor n) = digits6 n
data_v1 ReadUnit = []
data_v1 (SetUnit u) = digits6 (unit_code u)

abbrev pub head_for_v1 : ℕ → RequestV1 → HeadV1
head_for_v1 address r = record { address = address; letter = letter_v1 r }
