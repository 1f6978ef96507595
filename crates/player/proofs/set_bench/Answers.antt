-- `player::set_bench` meets its contract.
use mathlib.Core.Path.{refl}
use Rattle.sequence_facts.specs.Sequence as text
use Rattle.player.proofs.set_bench.Goals as goal

pub returns : goal.returns
returns c =
    record {
      number_is = refl;
      length_is = refl;
      follows = λ profile h t. record { of_text_gauge = text.set_bench t.of_text_gauge c.set_bench-a.ensures.benches; of_opg_gauge = t.of_opg_gauge };
    }
