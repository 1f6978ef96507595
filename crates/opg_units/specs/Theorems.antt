-- What is proved here, each statement as a type; proofs/ has the proofs.
use Rattle.std.specs.Prelude.{◌≡◌, Bool, true, false, ◌&&◌, ℕ, ◌+◌, ◌-◌, ◌*◌, ◌^◌, leb, ltb, pos, negsuc}
use Rattle.std.specs.Float.{binary32, fin}
use Rattle.std.specs.Float.Ieee.{of_bits}
use Rattle.opg_units.specs.Units.{torr, pascal, micron}

-- "Torr is one f32 product with the f32 nearest 0.75006168, Pascal with 100, micron with the f32 nearest 750.06168": the factors are
-- 12583947 x 2^-24, 25 x 2^2 and 12289011 x 2^-14
pub record Factors : Type 0 where
  pub torr_is : torr ≡ fin false 12583947 (negsuc 23)
  pub pascal_is : pascal ≡ fin false 25 (pos 2)
  pub micron_is : micron ≡ fin false 12289011 (negsuc 13)

-- m / 2^k, of 24 digits, lies within half of its last digit of num / den
abbrev pub nearest : ℕ → ℕ → ℕ → ℕ → Bool
nearest m k num den =
    let a = m * den in
    let b = num * 2 ^ k in
    leb (2 ^ 23) m && (ltb m (2 ^ 24) && ltb ((a - b + (b - a)) * 2) den)

-- no f32 is nearer to 0.75006168 and to 750.06168 than these two
abbrev pub NoneNearer : Type 0
NoneNearer = (nearest 12583947 24 75006168 100000000 && nearest 12289011 14 75006168 100000) ≡ true

-- the bits of the program's three literals are those of the factors
abbrev pub Literals : Type 0
Literals = (of_bits binary32 0x3f40040b ≡ torr) × (of_bits binary32 0x42c80000 ≡ pascal) × (of_bits binary32 0x443b83f3 ≡ micron)
