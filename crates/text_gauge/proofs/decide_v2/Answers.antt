-- `text_gauge::decide_v2` meets its contract.
use Rattle.text_gauge.proofs.Compose.{refused_v2, accepts_v2}
use Rattle.text_gauge.proofs.Sends.{error_sent_v2}
use Rattle.text_gauge.proofs.decide_v2.Goals as goal

pub returns-in-Err : goal.returns-in-Err
returns-in-Err c = record { decides_v2 = refused_v2 _ _ _ _ _ _ _ _ _ c.in-Err.ensures.number c.same.ensures.put_value (error_sent_v2 _ _ _ _ _ c.requires.fits c.refuse.ensures); counted = λ _. c.same.ensures.counted }

pub returns-in-Ok : goal.returns-in-Ok
returns-in-Ok c = record { decides_v2 = accepts_v2 _ _ _ _ _ _ _ _ _ c.in-Ok.ensures.ok c.in-Ok.ensures.number c.reply_v2.ensures c.change_v2.ensures.sources_value; counted = c.change_v2.ensures.counted }
