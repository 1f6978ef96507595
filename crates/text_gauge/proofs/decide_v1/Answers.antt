-- `text_gauge::decide_v1` meets its contract.
use Rattle.text_gauge.proofs.Compose.{refused_v1, accepts_v1}
use Rattle.text_gauge.proofs.Sends.{error_sent_v1}
use Rattle.text_gauge.proofs.decide_v1.Goals as goal

pub returns-in-Err : goal.returns-in-Err
returns-in-Err c = record { decides_v1 = refused_v1 _ _ _ _ _ _ _ _ _ c.in-Err.ensures.number c.same.ensures.put_value (error_sent_v1 _ _ _ _ _ c.requires.fits c.refuse.ensures); counted = c.same.ensures.counted }

pub returns-in-Ok : goal.returns-in-Ok
returns-in-Ok c = record { decides_v1 = accepts_v1 c.args.g _ _ _ _ _ _ _ _ _ c.in-Ok.ensures.ok c.in-Ok.ensures.number c.reply_v1.ensures (rw c.alone.ensures.value_is c.put_v1.ensures) c.unlocks_gauge.ensures; counted = c.alone.ensures.count }
