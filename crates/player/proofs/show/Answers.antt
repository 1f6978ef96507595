-- `player::show` meets its contract.
use mathlib.Core.Path.{refl}
use native.Mathlib.Omega.{arith}
use Rattle.sequence_facts.specs.Sequence as text
use Rattle.player.proofs.Turns.{reply_fits}
use Rattle.player.proofs.show.Goals as goal

pub overflow_cast-result : goal.overflow_cast-result
overflow_cast-result c =
    let line = c.stream_line-w in
    omega (arith, reply_fits line.ensures line.auto.out, c.requires)

pub returns : goal.returns
returns c =
    record {
      number_is = refl;
      length_is = refl;
      follows = λ profile h t. record { of_text_gauge = text.show t.of_text_gauge c.stream_line-w.ensures; of_opg_gauge = t.of_opg_gauge };
    }
