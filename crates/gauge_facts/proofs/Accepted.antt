-- A request is accepted exactly if the eight conditions hold.
use Rattle.gauge_table.specs.Table.{number_of}
use Rattle.gauge_facts.specs.Theorems.{AcceptedExactly}
use Rattle.gauge_facts.proofs.Lemmas.Rows.{rows_fit}

pub accepted_exactly : AcceptedExactly
unfolding number_of
accepted_exactly g room s = rows_fit _ _ _ _ _ _ _ _ _ _ _ _ _ _ _
