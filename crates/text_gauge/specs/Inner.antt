-- What inner functions promise; no public contract cites this file.
use Rattle.std.specs.Prelude.{◌≡◌, false, List, [], ◌∷◌, ℕ, ◌≤◌, eqb, length, Result}
use Rattle.buffer.specs.First.{◌⇒◌, first}
use Rattle.buffer.specs.Answer.{Answer, Sent}
use Rattle.refusals.specs.declared.Refusal.{Refusal}
use Rattle.frames.specs.declared.HeadV1.{HeadV1}
use Rattle.frames.specs.declared.HeadV2.{HeadV2}
use Rattle.requests.specs.declared.RequestV2.{RequestV2}
use Rattle.requests.specs.declared.RequestV1.{RequestV1}
use Rattle.gauge_rules.specs.State.{State, settled, unlocked_as}
use Rattle.gauge_table.specs.Table.{answer_room}
use Rattle.gauge_table.specs.Decided.{decided_v2, decided_v1}
use Rattle.gauge_table.specs.Reply.{error_v2, error_v1, accepted_v2, accepted_v1}
use Rattle.gauge_table.specs.After.{entered_v2, entered_v1, asks_unlock}
use Rattle.text_gauge.specs.declared.Decided.{Decided}
use Rattle.text_gauge.specs.Answer.{decided_state}

-- room for any reply, and a head that can be sent
pub record Fits (Head : Type 0) (memory : List ℕ) : Type 0 where
  pub room : answer_room ≤ length memory
  pub sendable : Head

-- this answer with another number
abbrev pub with_number : ℕ → Answer → Answer
with_number k a = record { number = k; reply = a.reply }

-- a typed request, decided: its answer and the state afterwards
unfoldable pub answer_v2 : State → HeadV2 → Result RequestV2 Refusal → Answer
answer_v2 g h ask =
    record {
      number = decided_v2 g ask;
      reply = first (eqb (decided_v2 g ask) 0 ⇒ accepted_v2 g h ask ∷ []) (error_v2 (decided_v2 g ask) h);
    }

unfoldable pub next_v2 : State → List ℕ → Result RequestV2 Refusal → State
next_v2 g list ask =
    first
    (eqb (decided_v2 g ask) 0 ⇒ settled g (entered_v2 g.limits g.settings list ask)
    ∷ [])
    g

unfoldable pub answer_v1 : State → List ℕ → HeadV1 → Result RequestV1 Refusal → Answer
answer_v1 g s h ask =
    record {
      number = decided_v1 g ask;
      reply = first (eqb (decided_v1 g ask) 0 ⇒ accepted_v1 g s h ask ∷ []) (error_v1 (decided_v1 g ask) h);
    }

unfoldable pub next_v1 : State → Result RequestV1 Refusal → State
next_v1 g ask =
    first
    (eqb (decided_v1 g ask) 0 ⇒ unlocked_as (settled g (entered_v1 g.settings ask)) (asks_unlock ask)
    ∷ [])
    (unlocked_as g false)

pub record DecidesV2 (g : State) (h : HeadV2) (ask : Result RequestV2 Refusal) (list before after : List ℕ) (r : Decided) : Type 0 where
  pub sent : Sent before (answer_v2 g h ask) after r.written
  pub state : decided_state g r ≡ next_v2 g list ask

pub record DecidesV1 (g : State) (s : List ℕ) (h : HeadV1) (ask : Result RequestV1 Refusal) (before after : List ℕ) (r : Decided) : Type 0 where
  pub sent : Sent before (answer_v1 g s h ask) after r.written
  pub state : decided_state g r ≡ next_v1 g ask
