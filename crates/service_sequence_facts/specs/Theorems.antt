-- What is proved here, each statement as a type; proofs/ has the proofs.
use Rattle.std.specs.Prelude.{◌≡◌, List, [], ℕ, ◌≤◌, length}
use Rattle.sources.specs.declared.Profile.{Profile}
use Rattle.settings.specs.Limits.{limits_of}
use Rattle.gauge_rules.specs.State.{state_of}
use Rattle.gauge_rules.specs.declared.Gauge.{Gauge}
use Rattle.gauge_table.specs.Table.{answer_room}
use Rattle.service.specs.Split.{frames_of}
use Rattle.service.specs.Served.{Serves}
use Rattle.service.specs.declared.Served.{Served}
use Rattle.history.specs.Latest.{Each}
use Rattle.sequence_facts.specs.Sequence.{History, Trace, Claim, OfProfile}
use Rattle.service_sequence_facts.specs.Calls.{requests_of, replies_of, Serving}
use Rattle.service_sequence_facts.specs.Run.{Run, HasRun, stream_of, Same, Streamed, AsWhole}

-- THE THEOREM of one call: a call of `service::serve` that meets its contract is a sequence of requests to the gauge
abbrev pub OneCall : Type 0
OneCall = (p : Profile) (h : History) (g : Gauge) (input before after : List ℕ) (r : Served) → Trace (limits_of p) h g → Serves (state_of g) input before after r
    → Serving p h input before after r

-- THE THEOREM: a stream in any pieces is a sequence of requests, and has the claim
abbrev pub StreamedInPieces : Type 0
StreamedInPieces = (p : Profile) (h : History) (g₀ g : Gauge) (parts : List (List ℕ)) (kept written : List ℕ) → Run p h g₀ parts g kept written
    → Streamed p h parts g written

-- in plain words: whatever the pieces in which the bytes come to a gauge of any profile at its start (`Trace .. []` is the contract of
-- `Gauge::at_start`), what it answers and holds has the claim on a sequence of calls, and the calls are the requests of the stream
abbrev pub FromStart : Type 0
FromStart = (p : Profile) (g₀ g : Gauge) (parts : List (List ℕ)) (kept written : List ℕ) → Run p [] g₀ parts g kept written
    → (h : History) × Claim (limits_of p) h g × OfProfile p g × Same (requests_of h) (frames_of (stream_of parts)) × (replies_of h ≡ written)

-- where no frame of the stream has over 109 bytes, the requests are its frames to the byte
abbrev pub AllShort : Type 0
AllShort = (a b : List (List ℕ)) → Same a b → Each (λ rest f. length f ≤ 109) b → a ≡ b

-- THE THEOREM: in any pieces the stream is served as the whole at once
abbrev pub PiecesAsWhole : Type 0
PiecesAsWhole = (p : Profile) (h : History) (g₀ g : Gauge) (parts : List (List ℕ)) (kept written : List ℕ) → Run p h g₀ parts g kept written
    → AsWhole (state_of g₀) parts g kept written

-- the claim on a stream is about something: every list of pieces has a run, from a gauge with any history, whatever memory from 64 bytes on is lent
-- with each call
abbrev pub EveryRun : Type 0
EveryRun = (p : Profile) (h : History) (g₀ : Gauge) → Trace (limits_of p) h g₀ → (before : List ℕ) → answer_room ≤ length before → (parts : List (List ℕ)) → HasRun p h g₀ parts
