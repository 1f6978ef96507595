-- Document 01, "OPG frames": "CRC: polynomial 0x1021, reflected, initial 0xFFFF, no final change." It is the remainder of a division of
-- polynomials whose coefficients are numbers mod 2 (true is 1). A polynomial is the list of its coefficients, the highest power first.
use Rattle.std.specs.Prelude.{Bool, true, false, cond, List, [], ◌∷◌, ◌++◌, ℕ, zero, suc, ◌+◌, ◌*◌, ◌/◌, ◌%◌, eqb, length, replicate}
use Rattle.std.specs.Bool.{xor}

-- the coefficients of q added to the first ones of p; mod 2 a sum is a difference
unfoldable pub plus : List Bool → List Bool → List Bool
plus p [] = p
plus [] (y ∷ q) = []
plus (x ∷ p) (y ∷ q) = xor x y ∷ plus p q

-- x^16 + x^12 + x^5 + 1 without its leading power: 0x1021
abbrev pub divisor : List Bool
divisor =
    false ∷ false ∷ false ∷ true ∷ false ∷ false ∷ false ∷ false
    ∷ false ∷ false ∷ true ∷ false ∷ false ∷ false ∷ false ∷ true ∷ []

-- long division, n steps: the leading coefficient goes; where it is 1, the divisor is subtracted from what follows it
unfoldable pub remainder : ℕ → List Bool → List Bool
remainder zero p = p
remainder (suc n) [] = []
remainder (suc n) (true ∷ p) = remainder n (plus p divisor)
remainder (suc n) (false ∷ p) = remainder n p

-- "reflected": the lowest digit of a number is the coefficient of the highest power, in the bytes and in the result
unfoldable pub digits : ℕ → ℕ → List Bool
digits zero n = []
digits (suc k) n = eqb (n % 2) 1 ∷ digits k (n / 2)

unfoldable pub number : List Bool → ℕ
number [] = 0
number (x ∷ p) = number p * 2 + cond x 1 0

-- the bytes as one polynomial
unfoldable pub message : List ℕ → List Bool
message [] = []
message (b ∷ s) = digits 8 b ++ message s

-- the remainder of the bytes followed by sixteen zeros, with the number c added to their first sixteen digits
unfoldable pub crc_from : ℕ → List ℕ → ℕ
crc_from c s = number (remainder (length s * 8) (plus (message s ++ replicate 16 false) (digits 16 c)))

-- "initial 0xFFFF"
unfoldable pub crc_of : List ℕ → ℕ
crc_of s = crc_from 0xffff s
