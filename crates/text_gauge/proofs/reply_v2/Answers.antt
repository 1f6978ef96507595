-- `text_gauge::reply_v2` meets its contract.
use native.Mathlib.Omega.{arith}
use Rattle.gauge_table.proofs.Sendable.{answer_sendable, code_digit, text_printed}
use Rattle.text_gauge.proofs.Sends.{sent_v2_lem}
use Rattle.text_gauge.proofs.reply_v2.Goals as goal

-- the reply comes from the address that the request named, which is the gauge's before the request
pub returns : goal.returns
returns c =
    let w = c.write_text.ensures in
    let p = c.requires in
    let few = rw c.text_v2.ensures at w.text_len_bound in
    let sent = rw (← p.address_value, c.answer_code.ensures) at w.sent in
    sent_v2_lem _ _ _ _ _ p.fits.room (answer_sendable _ _ _ p.fits.sendable (code_digit _) (text_printed _ _) (omega (arith, few))) few (rw c.text_v2.ensures at sent)
