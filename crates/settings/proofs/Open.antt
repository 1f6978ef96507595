-- To compute with these definitions: `unfolding settings_open` opens every one of this crate, and those that they stand on.
use Rattle.decimal_text.proofs.Open.{decimal_text_open}
use Rattle.sources.proofs.Open.{sources_open}
use Rattle.settings.specs.Limits.{limits_of, width_of, longest_line}
use Rattle.settings.specs.Sent.{unit_text, transition_text, stream_text, read_text}
use Rattle.settings.specs.Settings.{factory_of, put_of, restore_of, changed_by}
use Rattle.settings.specs.Units.{unit_code}

unfoldable pub settings_open : Unit {0}
unfolding decimal_text_open sources_open limits_of width_of longest_line unit_text transition_text stream_text read_text factory_of put_of restore_of changed_by unit_code
settings_open = tt
