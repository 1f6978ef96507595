-- To compute with these definitions: `unfolding gauge_rules_open` opens every one of this crate, and those that they stand on.
use Rattle.frame_writer.proofs.Open.{frame_writer_open}
use Rattle.readings.specs.There.{names}
use Rattle.readings.proofs.Open.{readings_open}
use Rattle.requests.proofs.Open.{requests_open}
use Rattle.gauge_rules.specs.BenchIn.{lacked, bench_in}
use Rattle.gauge_rules.specs.RulesV2.{filament_of, changes_cathode, reads_faulty, grant_v2, sent_text, text_v2, answer_code, enter_v2}

unfoldable pub gauge_rules_open : Unit {0}
unfolding frame_writer_open readings_open requests_open filament_of changes_cathode reads_faulty grant_v2 sent_text text_v2 answer_code enter_v2 names lacked bench_in
gauge_rules_open = tt
