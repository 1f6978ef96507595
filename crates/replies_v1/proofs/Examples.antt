-- The worked cases, computed.
use mathlib.Core.Path.{refl}
use Rattle.replies_v1.specs.Theorems.{AllRight}
use Rattle.replies_v1.proofs.Open.{replies_v1_open}

-- each reply is read as the paper says
pub all_right : AllRight
unfolding replies_v1_open
all_right = refl
