-- The answer of the text gauge to any bytes, and its state after requests and bench settings.
use Rattle.std.specs.Prelude.{Bool, false, cond, not, ◌&&◌, List, ℕ, eqb, Err, None, Ok, Option, Result, Some}
use Rattle.buffer.specs.Byte.{within}
use Rattle.buffer.specs.Answer.{Answer}
use Rattle.frames.specs.Frame.{data_from, head_v2}
use Rattle.settings.specs.Limits.{ProfileLimits}
use Rattle.settings.specs.Settings.{Held}
use Rattle.readings.specs.Reading.{put_reading}
use Rattle.requests.specs.AskV2.{ask_list}
use Rattle.gauge_rules.specs.State.{State, settled, measured, unlocked_as}
use Rattle.gauge_rules.specs.RulesV2.{enter_v2}
use Rattle.gauge_rules_v1.specs.RulesV1.{enter_v1, unlocks}
use Rattle.gauge_table.specs.Asked.{is_v1, asked_v2, asked_v1}
use Rattle.gauge_table.specs.Table.{number_of}
use Rattle.gauge_table.specs.Reply.{reply_of}
use Rattle.readings.specs.declared.Reading.{Reading}
use Rattle.refusals.specs.declared.Refusal.{Refusal}
use Rattle.requests.specs.declared.RequestV2.{RequestV2}
use Rattle.requests.specs.declared.RequestV1.{RequestV1}

unfoldable pub answer_of : State → ℕ → List ℕ → Answer
answer_of g room s = record { number = number_of g room s; reply = reply_of g s (number_of g room s) }

-- what an accepted request enters
unfoldable pub entered_v2 : ProfileLimits → Held → List ℕ → Result RequestV2 Refusal → Held
entered_v2 limits h list (Ok r) = enter_v2 limits h r list
entered_v2 limits h list (Err k) = h

unfoldable pub entered_v1 : Held → Result RequestV1 Refusal → Held
entered_v1 h (Ok r) = enter_v1 h r
entered_v1 h (Err k) = h

-- an accepted `c1`
unfoldable pub asks_unlock : Result RequestV1 Refusal → Bool
asks_unlock (Ok r) = unlocks r
asks_unlock (Err k) = false

-- the state after a request that was answered with k; the profile stays. A refused request changes no setting. "No request changes a reading or FS."
-- "The next V1 request past check 5 ends the unlock, unless it is again an accepted `c1`; V2 requests do not touch it."
unfoldable pub afterwards : State → List ℕ → ℕ → State
afterwards g s k =
    unlocked_as
    (settled
    g
    (cond (eqb k 0) (cond (is_v1 s) (entered_v1 g.settings (asked_v1 s)) (entered_v2 g.limits g.settings (ask_list g.limits (head_v2 s) (data_from 8 s)) (asked_v2 g.limits s))) g.settings))
    (cond (is_v1 s && not (within 1 5 k)) (eqb k 0 && asks_unlock (asked_v1 s)) g.unlocked)

unfoldable pub next_of : State → ℕ → List ℕ → State
next_of g room s = afterwards g s (number_of g room s)

-- after a bench setting: an accepted setting enters its reading; a refused one "changes nothing"
unfoldable pub benched : State → Option Reading → State
benched g (Some x) = measured g (put_reading g.readings x)
benched g None = g
