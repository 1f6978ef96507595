-- `player::at_start` meets its contract.
use Rattle.sequence_facts.specs.Sequence as text
use Rattle.opg_sequence_facts.specs.Sequence as opg
use Rattle.player.proofs.at_start.Goals as goal

pub returns : goal.returns
returns c = (record { of_text_gauge = text.begin c.at_start.ensures.result_value.0; of_opg_gauge = opg.begin c.at_start-2.ensures }, c.at_start.ensures.result_value.1)
