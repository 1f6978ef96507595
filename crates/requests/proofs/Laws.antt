-- Laws of six digits.
use mathlib.Core.Path.{◌≡◌, ap}
use mathlib.Core.Bool.{true, and-eq-true_iff}
use mathlib.Core.List.{List}
use Prim.Native.Nat.{ℕ}
use native.Mathlib.Omega.{arith}
use borrow.Author.Tests.{eqb-true}
use lib.Dec.{eqb}
use lib.ListN.{length, take}
use lib.Seq.{take_all}
use Rattle.buffer.specs.Byte.{is_digit, every, numeral}
use Rattle.requests.specs.AskV1.{six_digits}

-- they are six, and digits
pub six_told : (s : List ℕ) → six_digits s ≡ true → (length s ≡ 6) × (every is_digit s ≡ true)
unfolding six_digits
six_told s e =
    let h = (and-eq-true_iff (eqb (length s) 6) (every is_digit s)).0 e in
    (eqb-true (length s) 6 h.0, h.1)

-- all that is spelled is read
pub six_whole : (s : List ℕ) → six_digits s ≡ true → numeral (take 6 s) ≡ numeral s
six_whole s e = ap numeral (take_all 6 s (omega (arith, (six_told s e).0)))
