-- To compute with these definitions: `unfolding gauge_table_open` opens every one of this crate, and those that they stand on.
use Rattle.gauge_rules_v1.proofs.Open.{gauge_rules_v1_open}
use Rattle.gauge_table.specs.After.{answer_of, entered_v2, entered_v1, asks_unlock, afterwards, next_of, benched}
use Rattle.gauge_table.specs.Asked.{unknown_command, lacks, data_number, bad_form_v2, outside_v2, against_logic, breaks_rule, asks_faulty, unknown_letter, bad_form_v1, locked_write, outside_v1, measures_faulty}
use Rattle.gauge_table.specs.Decided.{decided_v2, decided_v1}
use Rattle.gauge_table.specs.Reply.{accepted_v2, accepted_v1, reply_of}
use Rattle.gauge_table.specs.Table.{number_of}

unfoldable pub gauge_table_open : Unit {0}
unfolding gauge_rules_v1_open answer_of entered_v2 entered_v1 asks_unlock afterwards next_of benched unknown_command lacks data_number bad_form_v2 outside_v2 against_logic breaks_rule asks_faulty unknown_letter bad_form_v1 locked_write outside_v1 measures_faulty decided_v2 decided_v1 accepted_v2 accepted_v1 reply_of number_of
gauge_table_open = tt
