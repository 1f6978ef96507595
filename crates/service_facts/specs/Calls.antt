-- Calls of `service::serve` one after another, and one call with memory enough.
use Rattle.std.specs.Prelude.{◌≡◌, List, [], ◌++◌, ℕ, drop, take}
use Rattle.gauge_rules.specs.State.{State, state_of}
use Rattle.service.specs.Split.{frames_of, unfinished_of}
use Rattle.service.specs.Served.{service_of}
use Rattle.service.specs.declared.Served.{Served}
use Rattle.service_facts.specs.Stream.{replies_to, state_after}

-- Calls one after another, each lent `room` bytes and given what the last one left of the input, up to one that takes nothing: the state at the
-- end, the bytes left, and all replies.
pub data Calls (room : ℕ) : State → List ℕ → State → List ℕ → List ℕ → Type 0 where
  last : {g : State} {s : List ℕ} → (service_of g room (frames_of s)).taken ≡ 0 → Calls room g s g s []
  call : {g g' : State} {s left replies : List ℕ} → Calls room (service_of g room (frames_of s)).state (drop (service_of g room (frames_of s)).taken s) g' left replies
      → Calls room g s g' left ((service_of g room (frames_of s)).replies ++ replies)

-- whatever memory from 64 bytes on is lent, they answer every frame, and leave the unfinished end
pub record All (g : State) (s : List ℕ) (g' : State) (left replies : List ℕ) : Type 0 where
  pub state : g' ≡ state_after g (frames_of s)
  pub left_is : left ≡ unfinished_of s
  pub replies_are : replies ≡ replies_to g (frames_of s)

-- a call of `serve` with memory enough: the state and the replies of all frames, and the unfinished end is left
pub record Called (g : State) (input after : List ℕ) (r : Served) : Type 0 where
  pub state : state_of r.gauge ≡ state_after g (frames_of input)
  pub replies : take r.len after ≡ replies_to g (frames_of input)
  pub left : drop r.taken input ≡ unfinished_of input
