-- `text_gauge::reply_v1` meets its contract.
use mathlib.Core.Path.{sym, ◌∙◌}
use Rattle.buffer.specs.First.{pick}
use Rattle.gauge_rules.specs.State.{state_of}
use Rattle.gauge_table.proofs.Sendable.{text_printed_v1, data_sendable_v1}
use Rattle.text_gauge.proofs.Sends.{sent_v1, text_v1_le}
use Rattle.text_gauge.proofs.reply_v1.Goals as goal

pub returns-then-repeats_request : goal.returns-then-repeats_request
unfolding pick
returns-then-repeats_request c = rw (sym c.repeats_request.ensures ∙ c.if-repeats_request.true) c.repeat.ensures

pub returns : goal.returns
unfolding pick
returns c =
    let g = state_of c.args.g in
    let p = c.requires.fits in
    rw (sym c.repeats_request.ensures ∙ c.if-repeats_request.false)
    (sent_v1 _ _ _ _ _ p.room (data_sendable_v1 _ _ p.sendable (text_printed_v1 g c.args.asks) (text_v1_le g c.args.asks)) (rw c.text_v1.ensures at c.write_text.ensures.sent))
