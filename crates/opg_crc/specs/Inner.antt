-- What the functions inside this crate promise each other.
use Rattle.std.specs.Prelude.{cond, ℕ, zero, suc, ◌/◌, ◌%◌, eqb}
use Rattle.std.specs.Int.Bits.{bit_xor}

-- one step of the division on a number of sixteen digits; 0x8408 is 0x1021 with its digits in reverse
unfoldable pub bit_of : ℕ → ℕ
bit_of c = cond (eqb (c % 2) 1) (bit_xor (c / 2) 0x8408) (c / 2)

unfoldable pub bits_of : ℕ → ℕ → ℕ
bits_of zero c = c
bits_of (suc k) c = bits_of k (bit_of c)

unfoldable pub byte_of : ℕ → ℕ → ℕ
byte_of c b = bits_of 8 (bit_xor b c)
