-- A stream of bytes that comes in pieces, served by calls of `service::serve` and `keep`, and what is claimed of it.
use Rattle.std.specs.Prelude.{◌≡◌, List, [], ◌∷◌, ◌++◌, ℕ, ◌+◌, ◌≤◌, length, take, drop}
use Rattle.sources.specs.declared.Profile.{Profile}
use Rattle.settings.specs.Limits.{limits_of}
use Rattle.gauge_rules.specs.State.{State, state_of}
use Rattle.gauge_rules.specs.declared.Gauge.{Gauge}
use Rattle.gauge_table.specs.Table.{answer_room}
use Rattle.service.specs.Split.{frames_of}
use Rattle.service.specs.Served.{Serves, most_kept, Keeps}
use Rattle.service.specs.declared.Served.{Served}
use Rattle.service_facts.specs.Stream.{served}
use Rattle.history.specs.Latest.{Each}
use Rattle.sequence_facts.specs.Sequence.{Exchange, asked, bench_set, lined, History, Trace, Claim, OfProfile}
use Rattle.service_sequence_facts.specs.Calls.{requests_of, replies_of}

-- ---- a run

-- Calls of `serve` for bytes that were read, up to one that takes none of them. Each has the gauge that the last one gave back and the bytes that
-- it left, and is lent 64 bytes or more, whatever they hold. The gauge at the end, how many bytes were taken in all, and what was written.
pub data AnswersAll : Gauge → List ℕ → Gauge → ℕ → List ℕ → Type 0 where
  last : {g : Gauge} {input before after : List ℕ} {r : Served} → answer_room ≤ length before → Serves (state_of g) input before after r → r.taken ≡ 0
      → AnswersAll g input r.gauge 0 (take r.len after)
  call : {g g' : Gauge} {input before after written : List ℕ} {r : Served} {taken : ℕ} → answer_room ≤ length before → Serves (state_of g) input before after r
      → AnswersAll r.gauge (drop r.taken input) g' taken written → AnswersAll g input g' (r.taken + taken) (take r.len after ++ written)

-- A run from a gauge g₀ of a profile, which had the calls h (none where it comes from `Gauge::at_start`, or the bench settings of the program's
-- arguments): the pieces in which bytes came, the latest first, the gauge after them, the bytes that are kept, and all that was written. A piece
-- comes in memory behind the bytes that are kept, both are answered, and `keep` moves what was not taken to the front.
pub data Run (p : Profile) (h : History) (g₀ : Gauge) : List (List ℕ) → Gauge → List ℕ → List ℕ → Type 0 where
  start : Trace (limits_of p) h g₀ → Run p h g₀ [] g₀ [] []
  piece : {parts : List (List ℕ)} {g g' : Gauge} {kept written bytes memory memory' new : List ℕ} {end taken n : ℕ} → Run p h g₀ parts g kept written
      → take end memory ≡ kept ++ bytes → AnswersAll g (take end memory) g' taken new → Keeps memory taken end memory' n
      → Run p h g₀ (bytes ∷ parts) g' (take n memory') (written ++ new)

-- there is a run on these pieces
pub record HasRun (p : Profile) (h : History) (g₀ : Gauge) (parts : List (List ℕ)) : Type 0 where
  pub gauge : Gauge
  pub kept : List ℕ
  pub written : List ℕ
  pub run : Run p h g₀ parts gauge kept written

-- ---- the claim

-- all bytes that came, in order
unfoldable pub stream_of : List (List ℕ) → List ℕ
stream_of [] = []
stream_of (bytes ∷ parts) = stream_of parts ++ bytes

-- Request for request the same. One of over 109 bytes, which is SHAPE, may be cut: of its bytes up to the place k, where a piece ends within it, the
-- first 110 are kept. So it has over 109 bytes still.
pub data Same : List (List ℕ) → List (List ℕ) → Type 0 where
  none : Same [] []
  whole : {f : List ℕ} {a b : List (List ℕ)} → Same a b → Same (f ∷ a) (f ∷ b)
  cut : {x f : List ℕ} {a b : List (List ℕ)} (k : ℕ) → most_kept ≤ k → k ≤ length f → x ≡ take most_kept f ++ drop k f → Same a b → Same (x ∷ a) (f ∷ b)

-- a request, lent as much as an answer asks for
abbrev pub Request : Exchange → Type 0
Request (asked s before number len after) = answer_room ≤ length before
Request (bench_set b number) = ⊥
Request (lined before number len after) = ⊥

-- The stream in any pieces is a sequence of calls: there is a history of requests, and no other calls, after which the gauge stands, so it has the
-- claim. The requests are the frames of the whole stream in order, and their replies one after another are all that was written.
pub record Streamed (p : Profile) (h : History) (parts : List (List ℕ)) (g : Gauge) (written : List ℕ) : Type 0 where
  pub made : History
  pub only_requests : Each (λ earlier e. Request e) made
  pub trace : Trace (limits_of p) (made ++ h) g
  pub claim : Claim (limits_of p) (made ++ h) g
  pub of_profile : OfProfile p g
  pub requests : Same (requests_of made) (frames_of (stream_of parts))
  pub replies : replies_of made ≡ written

-- and what it holds, keeps and has written is that of the whole stream served at once (`served`): the pieces have no influence
pub record AsWhole (g₀ : State) (parts : List (List ℕ)) (g : Gauge) (kept written : List ℕ) : Type 0 where
  pub state : state_of g ≡ (served g₀ (stream_of parts)).state
  pub kept_is : kept ≡ (served g₀ (stream_of parts)).kept
  pub written_is : written ≡ (served g₀ (stream_of parts)).replies
