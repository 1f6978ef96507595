-- A pressure that the bench takes is finite in every unit: no product overflows.
use mathlib.Core.Path.{◌≡◌, refl, sym, ap, ◌∙◌, subst}
use mathlib.Core.Bool.{Bool, true, false, not, ◌&&◌, ◌||◌, cond, true≢false, false≢true, and-eq-true_iff}
use Prim.Native.Nat.{ℕ, zero, suc, ◌+◌, ◌-◌, ◌*◌, ◌/◌, ◌%◌, ◌^◌, ◌≤◌, ◌<◌, compare}
use native.Mathlib.Nat.{le_trans, le_of_eq, mul_assoc, mul-le-mul_right, mul-mul-mul_comm, mul-pos}
use native.Mathlib.Omega.{arith}
use borrow.Author.Tests.{eqb-true, ltb-true, lt-leb}
use lib.Dec.{T, eqb, ltb, leb, eqb→eq, ltb→lt}
use lib.IntN.{ℤ, pos, negsuc}
use lib.Ieee.{Float, nan, inf, fin, Format, binary32, fits, round, units, odd, nearest, size, low, prec, emax, up, down, mul, le, of_fields, of_bits, to_bits}
use lib.Ieee.Bits.{of_bits-to_bits, to_bits-of_bits}
use lib.Ieee.Fits.{down_pos, mul-fits}
use lib.Ieee.Order.{round_mono}
use Rattle.buffer.proofs.Rules.{each}
use Rattle.opg_units.specs.Units.{finite, measurable, torr, pascal, micron, product, bits_in, nearest32}
use Rattle.opg_units.proofs.Factors.{factors}
use Rattle.opg_units.proofs.Laws.{float_no_nan}
use Rattle.opg_facts.specs.Held.{is_fin}
use Rattle.opg_facts.specs.Theorems.{FiniteExactly, SentFinite, BitsKept}

-- ---- signs, and finite floats

sign_of : Float → Bool
sign_of nan = false
sign_of (inf s) = s
sign_of (fin s m e) = s

either : (b : Bool) (x y : Float) → sign_of x ≡ false → sign_of y ≡ false → sign_of (cond b x y) ≡ false
either true x y h k = h
either false x y h k = k

odd_clear : (d q k l : ℕ) → sign_of (odd d false q k l) ≡ false
unfolding sign_of odd
odd_clear d zero k l = refl
odd_clear d (suc q) k l = refl

round_clear : (f : Format) (num den : ℕ) → sign_of (round f false num den) ≡ false
unfolding sign_of round units
round_clear f num den =
    let n = num * 2 ^ low f in
    let k = size (n / den) - prec f in
    let u = den * 2 ^ k in
    let q = nearest (n / u) (compare (n % u * 2) u) in
    either (ltb (q * 2 ^ k) (2 ^ (low f + suc (emax f)))) (odd (suc (prec f)) false q k (low f)) (inf false) (odd_clear (suc (prec f)) q k (low f)) refl

fields_clear : (x t : ℕ) → sign_of (of_fields binary32 false x t) ≡ false
unfolding sign_of of_fields
fields_clear zero t = odd_clear 24 t 0 149
fields_clear (suc x) t =
    either
    (eqb (suc x) 255)
    (cond (eqb t 0) (inf false) nan)
    (odd 24 false (8388608 + t) x 149)
    (either (eqb t 0) (inf false) nan refl refl)
    (odd_clear 24 (8388608 + t) x 149)

-- with the sign's bit clear
bits_clear : (w : ℕ) → w < 0x80000000 → sign_of (of_bits binary32 w) ≡ false
unfolding of_bits
bits_clear w h = rw (lt-leb 0x80000000 w h) (fields_clear (w % 2147483648 / 8388608) (w % 8388608))

-- an exponent's field that is all ones is no finite float's
no_fin : (w : ℕ) → w / 0x800000 % 256 ≡ 255 → is_fin (of_bits binary32 w) ≡ false
unfolding of_bits of_fields is_fin
no_fin w e =
    let field : w % 2147483648 / 8388608 ≡ 255 = omega arith in
    rw field (go (eqb (w % 8388608) 0))
  where
    go : (b : Bool) → is_fin (cond b (inf (leb 2147483648 w)) nan) ≡ false
    go true = refl
    go false = refl

odd_fin : (d : ℕ) (s : Bool) (q k l : ℕ) → is_fin (odd d s q k l) ≡ true
unfolding is_fin odd
odd_fin d s zero k l = refl
odd_fin d s (suc q) k l = refl

fields_fin : (s : Bool) (x t : ℕ) → eqb x 255 ≡ false → is_fin (of_fields binary32 s x t) ≡ true
unfolding of_fields
fields_fin s zero t h = odd_fin 24 s t 0 149
fields_fin s (suc x) t h = rw h (odd_fin 24 s (8388608 + t) x 149)

-- the exponent's field tells exactly the bits of finite floats
pub finite_exactly : FiniteExactly
unfolding finite of_bits
finite_exactly w = go (eqb (w / 0x800000 % 256) 255) refl
  where
    go : (b : Bool) → eqb (w / 0x800000 % 256) 255 ≡ b → not b ≡ is_fin (of_bits binary32 w)
    go true e = sym (no_fin w (eqb-true _ _ e))
    go false e =
        let field : w % 2147483648 / 8388608 ≡ w / 8388608 % 256 = omega arith in
        sym (fields_fin (leb 2147483648 w) (w % 2147483648 / 8388608) (w % 8388608) (rw field e))

fin_bits : (z : Float) → T (fits binary32 z) → is_fin z ≡ true → finite (to_bits binary32 z) ≡ true
unfolding finite
fin_bits z f h = go (eqb (to_bits binary32 z / 0x800000 % 256) 255) refl
  where
    go : (b : Bool) → eqb (to_bits binary32 z / 0x800000 % 256) 255 ≡ b → not b ≡ true
    go true e = absurd (true≢false (sym h ∙ ap is_fin (sym (of_bits-to_bits binary32 z f)) ∙ no_fin (to_bits binary32 z) (eqb-true _ _ e)))
    go false e = refl

-- ---- products

at_most : (a b : ℕ) (c : Bool) → T (ltb a b || (eqb a b && c)) → a ≤ b
at_most a b c = go (ltb a b) (eqb a b) (ltb→lt a b) (eqb→eq a b)
  where
    go : (l e : Bool) → (T l → a < b) → (T e → a ≡ b) → T (l || (e && c)) → a ≤ b
    go true e f g h = let k = f tt in omega arith
    go false true f g h = let k = g tt in omega arith
    go false false f g h = absurd h

-- a product of a number up to 2000 is at most 2000 times the factor
bounded : (m n : ℕ) (e d : ℤ) → T (le (fin false m e) (fin false 125 (pos 4))) → T (le (mul binary32 (fin false m e) (fin false n d)) (round binary32 false (2000 * (n * up d)) (down d)))
unfolding mul le
bounded m n e d h =
    let x : m * up e ≤ 2000 * down e = go (at_most _ _ _ h) in
    round_mono binary32 (m * up e * (n * up d)) (down e * down d) (2000 * (n * up d)) (down d) (mul-pos (down_pos e) (down_pos d)) (down_pos d)
    (le_trans (le_of_eq (mul_assoc (m * up e) (n * up d) (down d)))
    (le_trans (mul-le-mul_right (n * up d * down d) x) (le_of_eq (mul-mul-mul_comm 2000 (down e) (n * up d) (down d)))))
  where
    go : m * up e * 1 ≤ 2000 * down e → m * up e ≤ 2000 * down e
    go k = omega arith

-- what lies at or below a finite float, with its sign clear, is finite
under : (z hi : Float) → is_fin hi ≡ true → sign_of z ≡ false → T (le z hi) → is_fin z ≡ true
unfolding sign_of le is_fin
under nan hi f s h = absurd h
under (inf true) hi f s h = absurd (true≢false s)
under (inf false) nan f s h = absurd h
under (inf false) (inf t) f s h = absurd (false≢true f)
under (inf false) (fin t n d) f s h = absurd h
under (fin t m e) hi f s h = refl

-- a factor whose product with 2000 is finite
module _ (n : ℕ) (d : ℤ) (most : is_fin (round binary32 false (2000 * (n * up d)) (down d)) ≡ true) where
  product_fin : (x : Float) → sign_of x ≡ false → T (le x (fin false 125 (pos 4))) → is_fin (mul binary32 x (fin false n d)) ≡ true
  unfolding sign_of le mul
  product_fin nan s h = absurd h
  product_fin (inf true) s h = absurd (true≢false s)
  product_fin (inf false) s h = absurd h
  product_fin (fin true m e) s h = absurd (true≢false s)
  product_fin (fin false m e) s h =
      under (mul binary32 (fin false m e) (fin false n d)) (round binary32 false (2000 * (n * up d)) (down d)) most (round_clear binary32 (m * up e * (n * up d)) (down e * down d)) (bounded m n e d h)

  finite_product : (factor : Float) (w : ℕ) → factor ≡ fin false n d → measurable w ≡ true → finite (product factor w) ≡ true
  unfolding product measurable round
  finite_product factor w e h =
      let rest = ((and-eq-true_iff (finite w) (ltb w 0x80000000 && le (of_bits binary32 w) (nearest32 2000 1))).0 h).1 in
      let both = (and-eq-true_iff (ltb w 0x80000000) (le (of_bits binary32 w) (nearest32 2000 1))).0 rest in
      let clear = bits_clear w (ltb-true w 0x80000000 both.0) in
      let small : T (le (of_bits binary32 w) (fin false 125 (pos 4))) = subst T (sym both.1) tt in
      rw e (fin_bits (mul binary32 (of_bits binary32 w) (fin false n d)) (mul-fits binary32 (of_bits binary32 w) (fin false n d)) (product_fin (of_bits binary32 w) clear small))

torr_most : is_fin (round binary32 false (2000 * (12583947 * up (negsuc 23))) (down (negsuc 23))) ≡ true
unfolding round is_fin
torr_most = refl

pascal_most : is_fin (round binary32 false (2000 * (25 * up (pos 2))) (down (pos 2))) ≡ true
unfolding round is_fin
pascal_most = refl

micron_most : is_fin (round binary32 false (2000 * (12289011 * up (negsuc 13))) (down (negsuc 13))) ≡ true
unfolding round is_fin
micron_most = refl

-- ---- in every unit

-- what holds of the stored bits and of each product holds of the bits that are sent
pub bits_each : (P : ℕ → Type 0) (unit w : ℕ) → P w → P (product torr w) → P (product pascal w) → P (product micron w) → P (bits_in unit w)
unfolding bits_in
bits_each P unit w m t a c = each P _ _ _ (λ _. m) (λ _. each P _ _ _ (λ _. t) (λ _. each P _ _ _ (λ _. a) (λ _. each P _ _ _ (λ _. c) (λ _. m))))

-- what the bench takes is sent as a finite f32, whatever the unit
pub sent_finite : SentFinite
unfolding measurable
sent_finite unit w h =
    bits_each
    (λ (n : ℕ). finite n ≡ true)
    unit
    w
    ((and-eq-true_iff (finite w) (ltb w 0x80000000 && le (of_bits binary32 w) (nearest32 2000 1))).0 h).0
    (finite_product 12583947 (negsuc 23) torr_most torr w factors.torr_is h)
    (finite_product 25 (pos 2) pascal_most pascal w factors.pascal_is h)
    (finite_product 12289011 (negsuc 13) micron_most micron w factors.micron_is h)

-- ---- a pressure that is read

-- the f32 of finite bits has those bits: nothing of a reply's four bytes is lost
pub bits_kept : BitsKept
bits_kept w h f = to_bits-of_bits binary32 w h (float_no_nan w f)
