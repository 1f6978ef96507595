-- The worked cases, computed.
use mathlib.Core.Path.{refl}
use Rattle.bench_words.specs.Theorems.{AllRight}
use Rattle.bench_words.proofs.Open.{bench_words_open}

-- each setting is read, and answered by the bench, as the paper says
pub all_right : AllRight
unfolding bench_words_open
all_right = refl
