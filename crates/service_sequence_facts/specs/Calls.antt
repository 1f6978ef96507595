-- What one call of `service::serve` is, as a sequence of requests to the gauge.
use Rattle.std.specs.Prelude.{◌≡◌, ℕ, ◌-◌, ◌≤◌, length, take, drop}
use mathlib.Core.List.{List, [], ◌∷◌, ◌++◌, flatten}
use Rattle.sources.specs.declared.Profile.{Profile}
use Rattle.settings.specs.Limits.{limits_of}
use Rattle.gauge_table.specs.Table.{answer_room}
use Rattle.service.specs.Split.{frames_of}
use Rattle.service.specs.declared.Served.{Served}
use Rattle.history.specs.Latest.{Each}
use Rattle.sequence_facts.specs.Sequence.{Exchange, asked, bench_set, lined, History, Trace}

-- the requests of a history, in the order in which they were made, and their replies one after another
unfoldable pub requests_of : History → List (List ℕ)
requests_of [] = []
requests_of (asked s before number len after ∷ h) = requests_of h ++ (s ∷ [])
requests_of (bench_set b number ∷ h) = requests_of h
requests_of (lined before number len after ∷ h) = requests_of h

unfoldable pub replies_of : History → List ℕ
replies_of [] = []
replies_of (asked s before number len after ∷ h) = replies_of h ++ take len after
replies_of (bench_set b number ∷ h) = replies_of h
replies_of (lined before number len after ∷ h) = replies_of h

-- a request that was lent what the replies before it left of this memory: as much as an answer asks for
abbrev pub Lent : List ℕ → History → Exchange → Type 0
Lent memory earlier (asked s before number len after) = (before ≡ drop (length (replies_of earlier)) memory) × (answer_room ≤ length before)
Lent memory earlier (bench_set b number) = ⊥
Lent memory earlier (lined before number len after) = ⊥

-- A gauge of a profile, which had the calls h, was given these bytes and the memory `before`, and `serve` came back with r and left the memory
-- `after`: that is a number of requests, one after another. The gauge that came back is one that had these calls and no other since.
pub record Serving (p : Profile) (h : History) (input before after : List ℕ) (r : Served) : Type 0 where
  -- the calls that were made, the latest first: requests, each lent what was left of the memory
  pub made : History
  pub lent : Each (Lent before) made
  pub trace : Trace (limits_of p) (made ++ h) r.gauge
  -- they are the frames of the input in order, from the first on, and their bytes are those that were taken
  pub left : List (List ℕ)
  pub order : frames_of input ≡ requests_of made ++ left
  pub taken : r.taken ≡ length (flatten (requests_of made))
  pub bytes : take r.taken input ≡ flatten (requests_of made)
  -- their replies are what stands at the front of the memory
  pub replies : take r.len after ≡ replies_of made
  -- a frame is left only where less memory is left than an answer asks for
  pub stops : answer_room ≤ length before - r.len → left ≡ []
