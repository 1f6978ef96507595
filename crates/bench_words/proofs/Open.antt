-- To compute with these definitions: `unfolding bench_words_open` opens every one of this crate, and those that they stand on.
use Rattle.readings.proofs.Open.{readings_open}
use Rattle.sources.proofs.Open.{sources_open}
use Rattle.long_decimal.proofs.Open.{long_decimal_open}
use Rattle.bench_words.specs.Words.{number_at, value_at, status_of, source_at, worded_of}

unfoldable pub bench_words_open : Unit {0}
unfolding readings_open sources_open long_decimal_open number_at value_at status_of source_at worded_of
bench_words_open = tt
