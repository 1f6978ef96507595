-- `player::set_opg_bench` meets its contract.
use mathlib.Core.Path.{refl}
use Rattle.opg_sequence_facts.specs.Sequence as opg
use Rattle.player.proofs.set_opg_bench.Goals as goal

pub returns : goal.returns
returns c =
    record {
      number_is = refl;
      length_is = refl;
      follows = λ profile h t. record { of_text_gauge = t.of_text_gauge; of_opg_gauge = opg.set_bench t.of_opg_gauge c.bench-a.ensures };
    }
