-- `reply_words::show_bits` is safe: a float that equals itself is no NaN.
use mathlib.Core.Path.{◌≡◌}
use mathlib.Core.Bool.{false, not, true≢false}
use lib.Dec.{T}
use lib.Ieee.{Float, nan, inf, fin, is_nan, eq, ne}
use Rattle.reply_words.proofs.show_bits.Goals as goal

no_nan : (x : Float) → ne x x ≡ false → T (not (is_nan x))
unfolding ne eq is_nan
no_nan nan e = absurd (true≢false e)
no_nan (inf s) e = tt
no_nan (fin s m k) e = tt

pub float_to_bits-p : goal.float_to_bits-p
float_to_bits-p c = no_nan c.args.p c.if-p.false
