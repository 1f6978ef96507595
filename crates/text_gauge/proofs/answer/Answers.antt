-- `text_gauge::answer` meets its contract.
use mathlib.Core.Path.{◌∙◌}
use Rattle.text_gauge.proofs.Compose.{applied}
use Rattle.text_gauge.proofs.answer.Goals as goal

pub returns : goal.returns
returns c =
    let decided = c.decide-d in
    let d = decided.ensures in
    let settings = c.changed-settings.ensures in
    let entered = c.with_settings.ensures in
    let after = c.with_unlock.ensures in
    record { answers = record { sent = d.decides.sent; state = applied _ _ _ _ decided.result settings.result_value entered.result_value after.result_value ∙ d.decides.state }; counted = λ n. rw (after.settings_value.0, entered.settings_value.0) (settings.counted n d.counted) }
