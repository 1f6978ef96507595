-- Document 01, "OPG frames": pressures as f32, by their 32 bits, and their units.
use Rattle.std.specs.Prelude.{Bool, false, not, ◌&&◌, [], ◌∷◌, ℕ, ◌/◌, ◌%◌, eqb, ltb, Float}
use Rattle.std.specs.Float.{binary32}
use Rattle.std.specs.Float.Ieee.{of_bits, to_bits, mul, le, round}
use Rattle.buffer.specs.First.{◌⇒◌, first}

-- the exponent's field is not all ones
unfoldable pub finite : ℕ → Bool
finite w = not (eqb (w / 0x800000 % 256) 255)

-- the f32 nearest a fraction
abbrev pub nearest32 : ℕ → ℕ → Float
nearest32 num den = round binary32 false num den

-- "mbar, finite, 0 to 2000, not negative zero": with the sign's bit clear it is neither negative nor negative zero
unfoldable pub measurable : ℕ → Bool
measurable w = finite w && (ltb w 0x80000000 && le (of_bits binary32 w) (nearest32 2000 1))

-- "Torr is one f32 product with the f32 nearest 0.75006168, Pascal with 100, micron with the f32 nearest 750.06168"
unfoldable pub torr : Float
torr = nearest32 75006168 100000000

unfoldable pub pascal : Float
pascal = nearest32 100 1

unfoldable pub micron : Float
micron = nearest32 75006168 100000

-- "each product rounds once"
unfoldable pub product : Float → ℕ → ℕ
product factor w = to_bits binary32 (mul binary32 (of_bits binary32 w) factor)

-- the bits that are sent: units are 1 mbar, 2 Torr, 3 Pascal, 4 micron; "mbar is the stored bits". (Bits that are not finite, which the
-- bench never stores, are sent as they are.)
unfoldable pub bits_in : ℕ → ℕ → ℕ
bits_in unit w =
    first
    (not (finite w) ⇒ w
    ∷ eqb unit 2 ⇒ product torr w
    ∷ eqb unit 3 ⇒ product pascal w
    ∷ eqb unit 4 ⇒ product micron w
    ∷ [])
    w
