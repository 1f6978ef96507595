-- To compute with these definitions: `unfolding opg_gauge_open` opens every one of this crate, and those that they stand on.
use Rattle.opg_request_reader.proofs.Open.{opg_request_reader_open}
use Rattle.opg_units.proofs.Open.{opg_units_open}
use Rattle.opg_gauge.specs.Judged.{is_pressure_read, unavailable, judgement, after}
use Rattle.opg_gauge.specs.State.{is_unavailable, takes, benched}

unfoldable pub opg_gauge_open : Unit {0}
unfolding opg_request_reader_open opg_units_open is_pressure_read unavailable judgement after is_unavailable takes benched
opg_gauge_open = tt
