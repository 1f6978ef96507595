-- What the text gauge promises: its answer in lent memory, and its state afterwards.
use Rattle.std.specs.Prelude.{◌≡◌, List, ℕ, length}
use Rattle.buffer.specs.Answer.{Sent}
use Rattle.readings.specs.Bench.{bench_number}
use Rattle.readings.specs.declared.Bench.{Bench}
use Rattle.sources.specs.Source.{list_of}
use Rattle.settings.specs.Settings.{changed_by}
use Rattle.gauge_rules.specs.State.{State, state_of, settled, unlocked_as}
use Rattle.gauge_rules.specs.BenchIn.{bench_in}
use Rattle.gauge_table.specs.After.{answer_of, next_of, benched}
use Rattle.buffer.specs.declared.Answered.{Answered}
use Rattle.gauge_rules.specs.declared.Gauge.{Gauge}
use Rattle.text_gauge.specs.declared.Decided.{Decided}
use Rattle.buffer.specs.declared.BenchAnswer.{BenchAnswer}

-- a gauge g, asked with the bytes s and lent the memory `before`, answered r and left the memory `after`
pub record Answers (g : State) (s before after : List ℕ) (r : Answered Gauge) : Type 0 where
  pub sent : Sent before (answer_of g (length before) s) after r.written
  pub state : state_of r.gauge ≡ next_of g (length before) s

-- the state after what was decided. "No request changes a reading or FS."
abbrev pub decided_state : State → Decided → State
decided_state g r = unlocked_as (settled g (changed_by g.settings r.change.value (list_of r.change.sources))) r.unlocked

-- as `Answers`, where the answer tells what changes and not the gauge afterwards: a change that gives this state, whichever it is
pub record Decides (g : State) (s before after : List ℕ) (r : Decided) : Type 0 where
  pub sent : Sent before (answer_of g (length before) s) after r.written
  pub state : decided_state g r ≡ next_of g (length before) s

-- "An accepted bench setting is answered 0", "anything else is refused with 15"; "no bench call has a reply"
pub record Benches (g : State) (b : Bench) (r : BenchAnswer Gauge) : Type 0 where
  pub number : r.number ≡ bench_number (bench_in g.limits b)
  pub state : state_of r.gauge ≡ benched g (bench_in g.limits b)
