-- The worked cases, computed.
use mathlib.Core.Path.{refl}
use Rattle.replies_v2.specs.Theorems.{AllRead}
use Rattle.replies_v2.proofs.Open.{replies_v2_open}

pub all_read : AllRead
unfolding replies_v2_open
all_read = refl
