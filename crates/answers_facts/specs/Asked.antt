-- The numbers of what a frame asks, and of the request reader beside the gauge.
use Rattle.std.specs.Prelude.{◌≡◌, false, ◌⊎◌, ℕ, Err, Ok, Result}
use Rattle.gauge_rules.specs.State.{State}
use Rattle.requests.specs.declared.RequestV2.{RequestV2}
use Rattle.requests.specs.declared.RequestV1.{RequestV1}
use Rattle.refusals.specs.Number.{refusal_number}
use Rattle.refusals.specs.declared.Refusal.{Refusal}

-- ---- what a frame asks

-- document 01's number for each answer of the decoders: 0 where a request was asked
unfoldable pub ask_number_v2 : Result RequestV2 Refusal → ℕ
ask_number_v2 (Ok r) = 0
ask_number_v2 (Err k) = refusal_number k

unfoldable pub ask_number_v1 : Result RequestV1 Refusal → ℕ
ask_number_v1 (Ok r) = 0
ask_number_v1 (Err k) = refusal_number k

-- ---- the request reader

-- n is the gauge's number of what the reader refuses with k: the same, save a write of a factor that is locked and outside: "checked before the number"
abbrev pub Refuses : State → ℕ → ℕ → Type 0
Refuses g k n = (n ≡ k) ⊎ ((k ≡ 11) × (n ≡ 12) × (g.unlocked ≡ false))
