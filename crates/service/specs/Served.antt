-- What serving promises: the frames answered in order by the gauge's rule, and the end that is kept.
use Rattle.std.specs.Prelude.{◌≡◌, List, [], ◌∷◌, ◌++◌, ℕ, ◌+◌, ◌-◌, ltb, length, take, drop}
use Rattle.buffer.specs.First.{◌⇒◌, first}
use Rattle.buffer.specs.Answer.{over}
use Rattle.gauge_rules.specs.State.{State, state_of}
use Rattle.gauge_table.specs.Table.{answer_room}
use Rattle.gauge_table.specs.After.{answer_of, next_of}
use Rattle.service.specs.Split.{frames_of}
use Rattle.service.specs.declared.Served.{Served}

-- frames that were answered: the state afterwards, how many bytes they have, and their replies one after another
pub record Service : Type 0 where
  pub state : State
  pub taken : ℕ
  pub replies : List ℕ

abbrev pub nothing : State → Service
nothing g = record { state = g; taken = 0; replies = [] }

-- so many bytes answered by this reply, and then what follows
abbrev pub then : ℕ → List ℕ → Service → Service
then n reply s = record { state = s.state; taken = n + s.taken; replies = reply ++ s.replies }

-- The frames answered in order, each in the state that the last one left and with the memory that the replies before it left. It stops before
-- a frame for which less is left than an answer asks for.
unfoldable pub service_of : State → ℕ → List (List ℕ) → Service
service_of g room [] = nothing g
service_of g room (f ∷ fs) =
    let reply = (answer_of g room f).reply in
    first (ltb room answer_room ⇒ nothing g ∷ []) (then (length f) reply (service_of (next_of g room f) (room - length reply) fs))

-- a gauge g, given these bytes and lent the memory `before`, served r and left the memory `after`
pub record Serves (g : State) (input before after : List ℕ) (r : Served) : Type 0 where
  pub state : state_of r.gauge ≡ (service_of g (length before) (frames_of input)).state
  pub taken : r.taken ≡ (service_of g (length before) (frames_of input)).taken
  pub len : r.len ≡ length (service_of g (length before) (frames_of input)).replies
  pub memory : after ≡ over (service_of g (length before) (frames_of input)).replies before

-- how many bytes of an unfinished end are kept: with these and a CR a request has over 109 bytes, whatever comes between
abbrev pub most_kept : ℕ
most_kept = 110

-- the bytes of the memory from `from` up to `to`, at most the first 110 of them; none where `to` is not past `from`
unfoldable pub kept_of : List ℕ → ℕ → ℕ → List ℕ
kept_of memory from to = take most_kept (drop from (take to memory))

-- they were moved to the front, and the rest of the memory is as it was
pub record Keeps (before : List ℕ) (from to : ℕ) (after : List ℕ) (r : ℕ) : Type 0 where
  pub len : r ≡ length (kept_of before from to)
  pub memory : after ≡ over (kept_of before from to) before
