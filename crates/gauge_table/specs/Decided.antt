-- The number of what a frame asks: a request that was decoded is decided by the rules on the gauge's state; one that was not has its number.
use Rattle.std.specs.Prelude.{ℕ, Err, Ok, Result}
use Rattle.gauge_rules.specs.State.{State}
use Rattle.gauge_rules.specs.RulesV2.{grant_v2}
use Rattle.gauge_rules_v1.specs.RulesV1.{grant_v1}
use Rattle.refusals.specs.declared.Refusal.{Refusal}
use Rattle.refusals.specs.Number.{refusal_number}
use Rattle.requests.specs.declared.RequestV2.{RequestV2}
use Rattle.requests.specs.declared.RequestV1.{RequestV1}

-- of a V2 frame
unfoldable pub decided_v2 : State → Result RequestV2 Refusal → ℕ
decided_v2 g (Ok r) = grant_v2 g r
decided_v2 g (Err k) = refusal_number k

-- of a V1 frame
unfoldable pub decided_v1 : State → Result RequestV1 Refusal → ℕ
decided_v1 g (Ok r) = grant_v1 g r
decided_v1 g (Err k) = refusal_number k
