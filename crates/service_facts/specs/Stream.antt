-- A stream of bytes that comes in deliveries, and what a server of it keeps between them.
use Rattle.std.specs.Prelude.{◌≡◌, ℕ, take}
use mathlib.Core.List.{List, [], ◌∷◌, ◌++◌, foldl}
use Rattle.gauge_rules.specs.State.{State}
use Rattle.gauge_table.specs.Table.{answer_room}
use Rattle.gauge_table.specs.After.{answer_of, next_of}
use Rattle.service.specs.Split.{Split, frames_of, unfinished_of}
use Rattle.service.specs.Served.{most_kept}

-- the replies to frames one after another, each answered in the state that the last one left; and the state afterwards
unfoldable pub replies_to : State → List (List ℕ) → List ℕ
replies_to g [] = []
replies_to g (f ∷ fs) = (answer_of g answer_room f).reply ++ replies_to (next_of g answer_room f) fs

unfoldable pub state_after : State → List (List ℕ) → State
state_after g [] = g
state_after g (f ∷ fs) = state_after (next_of g answer_room f) fs

-- after some deliveries: the gauge's state, the bytes kept of the unfinished end, and all replies so far
pub record Progress : Type 0 where
  pub state : State
  pub kept : List ℕ
  pub replies : List ℕ

-- one delivery more: the bytes kept and then the new ones are served, and the front of their unfinished end is kept
abbrev pub deliver : Progress → List ℕ → Progress
deliver p bytes =
    record {
      state = state_after p.state (frames_of (p.kept ++ bytes));
      kept = take most_kept (unfinished_of (p.kept ++ bytes));
      replies = p.replies ++ replies_to p.state (frames_of (p.kept ++ bytes));
    }

-- deliveries in order, to a gauge that has had none
unfoldable pub deliver_all : State → List (List ℕ) → Progress
deliver_all g parts = foldl deliver (record { state = g; kept = []; replies = [] }) parts

-- the whole stream at once
abbrev pub served : State → List ℕ → Progress
served g s = record { state = state_after g (frames_of s); kept = take most_kept (unfinished_of s); replies = replies_to g (frames_of s) }

-- two ways to split that a server cannot tell apart: the same replies, the same state, and the same bytes are kept
pub record Alike (a b : Split) : Type 0 where
  pub state : (g : State) → state_after g a.frames ≡ state_after g b.frames
  pub replies : (g : State) → replies_to g a.frames ≡ replies_to g b.frames
  pub kept : take most_kept a.unfinished ≡ take most_kept b.unfinished
