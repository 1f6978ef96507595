-- Which floats are no NaN, and the program's literals.
use mathlib.Core.Path.{◌≡◌, refl, sym}
use mathlib.Core.Bool.{Bool, true, false, not, cond, true≢false}
use Prim.Native.Nat.{ℕ, zero, suc, ◌+◌, ◌-◌, ◌*◌, ◌/◌, ◌%◌, ◌^◌, compare}
use native.Mathlib.Omega.{arith}
use lib.Dec.{T, ltb, eqb}
use lib.Ieee.{Float, nan, inf, fin, Format, binary32, odd, units, round, nearest, size, unlike, up, down, low, prec, emax, mul, is_nan, nan_bits, of_bits}
use lib.Ieee.Bits.{nan_bits_is}
use Rattle.opg_units.specs.Units.{finite, nearest32, torr, pascal, micron}

-- ---- no NaN

-- bits that are finite are no NaN's
pub bits_no_nan : (w : ℕ) → finite w ≡ true → T (not (nan_bits binary32 w))
unfolding finite nan_bits
bits_no_nan w h =
    let field : w % 2147483648 / 8388608 ≡ w / 8388608 % 256 = omega arith in
    let differs : eqb (w / 8388608 % 256) 255 ≡ false = flip _ h in
    rw (field, differs) tt
  where
    flip : (b : Bool) → not b ≡ true → b ≡ false
    flip true e = absurd (true≢false (sym e))
    flip false e = refl

pub float_no_nan : (w : ℕ) → finite w ≡ true → T (not (is_nan (of_bits binary32 w)))
float_no_nan w h = rw (nan_bits_is binary32 w) at (bits_no_nan w h)

-- rounding a fraction gives no NaN
round_no_nan : (f : Format) (s : Bool) (num den : ℕ) → T (not (is_nan (round f s num den)))
unfolding round units odd is_nan
round_no_nan f s num den =
    let n = num * 2 ^ low f in
    let k = size (n / den) - prec f in
    let u = den * 2 ^ k in
    go (nearest (n / u) (compare (n % u * 2) u)) k
  where
    digits : (q k : ℕ) → T (not (is_nan (odd (suc (prec f)) s q k (low f))))
    digits zero k = tt
    digits (suc q) k = tt

    pick : (b : Bool) (x y : Float) → T (not (is_nan x)) → T (not (is_nan y)) → T (not (is_nan (cond b x y)))
    pick true x y hx hy = hx
    pick false x y hx hy = hy

    go : (q k : ℕ) → T (not (is_nan (units f s q k)))
    go q k = pick (ltb (q * 2 ^ k) (2 ^ (low f + suc (emax f)))) (odd (suc (prec f)) s q k (low f)) (inf s) (digits q k) tt

-- a finite float that is not zero
abbrev plain : Float → Bool
plain nan = false
plain (inf s) = false
plain (fin s m e) = not (eqb m 0)

-- a float that is no NaN, times a finite one that is not zero, is none
times : (f : Format) (x y : Float) → T (plain y) → T (not (is_nan x)) → T (not (is_nan (mul f x y)))
unfolding mul is_nan
times f nan y p h = absurd h
times f (inf s) nan p h = absurd p
times f (inf s) (inf t) p h = absurd p
times f (inf s) (fin t n d) p h = go (eqb n 0) (unlike s t) p
  where
    go : (b s : Bool) → T (not b) → T (not (is_nan (cond b nan (inf s))))
    go true s h = absurd h
    go false s h = tt
times f (fin s m e) nan p h = absurd p
times f (fin s m e) (inf t) p h = absurd p
times f (fin s m e) (fin t n d) p h = round_no_nan f (unlike s t) (m * up e * (n * up d)) (down e * down d)

-- ---- the program's literals

-- a literal that is this f32, which is neither infinite nor zero
pub record Literal (bits : ℕ) (factor : Float) : Type 0 where
  pub value : of_bits binary32 bits ≡ factor
  pub plainly : T (plain (of_bits binary32 bits))

pub torr_literal : Literal 0x3f40040b torr
unfolding torr of_bits round
torr_literal = record { value = refl; plainly = tt }

pub pascal_literal : Literal 0x42c80000 pascal
unfolding pascal of_bits round
pascal_literal = record { value = refl; plainly = tt }

pub micron_literal : Literal 0x443b83f3 micron
unfolding micron of_bits round
micron_literal = record { value = refl; plainly = tt }

pub limit_literal : of_bits binary32 0x44fa0000 ≡ nearest32 2000 1
unfolding of_bits round
limit_literal = refl

pub product_no_nan : {bits : ℕ} {factor : Float} → Literal bits factor → (w : ℕ) → finite w ≡ true → T (not (is_nan (mul binary32 (of_bits binary32 w) (of_bits binary32 bits))))
product_no_nan {bits} l w h = times binary32 (of_bits binary32 w) (of_bits binary32 bits) l.plainly (float_no_nan w h)
