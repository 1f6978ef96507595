-- To compute with these definitions: `unfolding replies_v2_values_open` opens every one of this crate, and those that they stand on.
use Rattle.frame_writer.proofs.Open.{frame_writer_open}
use Rattle.readings.proofs.Open.{readings_open}
use Rattle.requests.proofs.Open.{requests_open}
use Rattle.replies_v2_values.specs.Value.{measured_reply, pressure_reply, degrees_reply, temperature_reply, filament_reply, status_reply, held_reply, both_ends, transition_reply, setting_reply, value_reply, value_list}

unfoldable pub replies_v2_values_open : Unit {0}
unfolding frame_writer_open readings_open requests_open measured_reply pressure_reply degrees_reply temperature_reply filament_reply status_reply held_reply both_ends transition_reply setting_reply value_reply value_list
replies_v2_values_open = tt
