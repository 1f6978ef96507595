-- What is proved here besides the contracts, each statement as a type; proofs/ has the proofs.
use Rattle.std.specs.Prelude.{◌≡◌, true, List, [], ℕ, ◌≤◌, length, get_or}
use Rattle.frames.specs.Checksum.{closed}
use Rattle.sources.specs.Source.{among}
use Rattle.sources.specs.declared.Profile.{Profile}
use Rattle.settings.specs.Limits.{limits_of, longest_line}
use Rattle.readings.specs.declared.Readings.{Readings}
use Rattle.line.specs.Line.{values_of, shown_list, joined}
use Rattle.line.specs.Rows.{no_row, rows_of}

-- "The line then has at most seven values": as many as there are sources, whatever the settings and readings are
abbrev pub FewValues : Type 0
FewValues = (codes list : List ℕ) (r : Readings) → among codes 0 ≡ true → length (values_of (shown_list codes list) r) ≤ length codes

-- and it is never longer than the longest
abbrev pub NoLonger : Type 0
NoLonger = (codes list : List ℕ) (r : Readings) → among codes 0 ≡ true → length (closed (joined (values_of (shown_list codes list) r))) ≤ longest_line codes

-- of the "eight rows of eleven characters" the eighth is always empty
abbrev pub EighthEmpty : Type 0
EighthEmpty = (p : Profile) (list : List ℕ) (r : Readings) → get_or (rows_of (values_of (shown_list (limits_of p).source_codes list) r)) 7 [] ≡ no_row
