-- What the master is to read of the gauge's reply to a request of either protocol.
use Rattle.std.specs.Prelude.{◌≡◌, List, ℕ}
use Rattle.written_facts.specs.Again.{Typed, in_v1, in_v2}
use Rattle.replies_v2.specs.ReplyV2.{read_v2, read_list}
use Rattle.replies_v1.specs.ReplyV1.{read_v1}
use Rattle.gauge_rules.specs.State.{State}
use Rattle.exchange_v2_facts.specs.HeldV2.{expected_v2, expected_list_v2}
use Rattle.exchange_v1_facts.specs.HeldV1.{expected_v1}

-- a reply s that is read as what the gauge holds, or as the error that document 01 fixes
abbrev pub ReadAsHeld : State → Typed → List ℕ → Type 0
ReadAsHeld g (in_v1 r) s = read_v1 g.settings.address r s ≡ expected_v1 g r
ReadAsHeld g (in_v2 r q) s = (read_v2 g.limits g.settings.address r s ≡ expected_v2 g r) × (read_list g.limits g.settings.address r s ≡ expected_list_v2 g r)
