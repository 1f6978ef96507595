-- `text_gauge::repeat` meets its contract.
use mathlib.Core.Path.{refl}
use Rattle.buffer.proofs.Laws.{sends}
use Rattle.text_gauge.proofs.repeat.Goals as goal

pub returns : goal.returns
returns c = sends 0 _ refl c.put.ensures refl c.requires
