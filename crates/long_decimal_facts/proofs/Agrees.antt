-- A text of document 01's form ("Decimal numbers") is read as the same value without the form's limit of six digits.
use mathlib.Core.Path.{◌≡◌, refl, sym, ap, ap₂, subst, ◌∙◌}
use mathlib.Core.Bool.{Bool, true, false, not, ◌||◌}
use mathlib.Core.List.{List, [], ◌∷◌, ◌++◌}
use Prim.Native.Nat.{ℕ, suc, ◌+◌, ◌-◌, ◌*◌, ◌^◌, ◌<◌, ◌≤◌}
use native.Mathlib.Nat.{add-zero, pow-suc, mul_assoc, mul_right_comm, mul-one, mul-le-mul_right, le-mul_of_pos_right}
use native.Mathlib.Omega.{arith}
use lib.Dec.{ltb, leb, eqb}
use borrow.Author.Tests.{lt-leb, leb-false, eqb-true}
use lib.Pow.{pow-add}
use lib.ListN.{length, take, drop, length-take}
use Rattle.std.specs.Prelude.{None, Option, Some}
use Rattle.buffer.specs.First.{pick}
use Rattle.buffer.specs.Byte.{numeral_from, numeral, leading, starts_with}
use Rattle.buffer.proofs.Laws.{ten_max, leading_le}
use Rattle.decimal.specs.Form as form
use Rattle.decimal.specs.Form.{whole, power_of, exponent_of, scan_of}
use Rattle.decimal.specs.declared.Exact.{Exact}
use Rattle.decimal.proofs.Laws.{numeral_front, numeral_on, numeral_after, significant_le}
use Rattle.decimal.proofs.Sizes.{ten_pos}
use Rattle.decimal.specs.Digits.{significant}
use Rattle.long_decimal.specs.Long.{moved_of, decimal_value, spelled_of, pointed_of, unsigned_of, decimal_of}
use Rattle.long_decimal_facts.specs.Value.{ReadAs}
use Rattle.long_decimal_facts.specs.Theorems.{AsTheForm}

-- ---- powers of ten

-- d times 10 ^ p, 10 ^ z, 10 ^ f and 10 ^ q, in two orders
whole_size : (d p z f q : ℕ) → d * 10 ^ (p + z) * 10 ^ (f + q) ≡ d * 10 ^ z * 10 ^ f * 10 ^ p * 10 ^ q
whole_size d p z f q =
    ap₂ (λ (a b : ℕ). d * a * b) (pow-add 10 p z) (pow-add 10 f q)
    ∙ sym (mul_assoc (d * (10 ^ p * 10 ^ z)) (10 ^ f) (10 ^ q))
    ∙ ap (λ (a : ℕ). a * 10 ^ f * 10 ^ q) (sym (mul_assoc d (10 ^ p) (10 ^ z)) ∙ mul_right_comm d (10 ^ p) (10 ^ z))
    ∙ ap (λ (a : ℕ). a * 10 ^ q) (mul_right_comm (d * 10 ^ z) (10 ^ p) (10 ^ f))

point_size : (d p r k q : ℕ) → d * 10 ^ p * 10 ^ (r + k + q) ≡ d * 10 ^ r * 10 ^ p * 10 ^ (q + k)
point_size d p r k q =
    ap (λ (a : ℕ). d * 10 ^ p * a) (ap (λ (n : ℕ). 10 ^ n) (omega arith) ∙ pow-add 10 r (q + k))
    ∙ sym (mul_assoc (d * 10 ^ p) (10 ^ r) (10 ^ (q + k))) ∙ ap (λ (a : ℕ). a * 10 ^ (q + k)) (mul_right_comm d (10 ^ p) (10 ^ r))

-- ---- zeros at the end of digits

times : (v l : ℕ) → v * 10 * 10 ^ l ≡ v * 10 ^ suc l
times v l = mul_right_comm v 10 (10 ^ l) ∙ mul_assoc v (10 ^ l) 10 ∙ ap (λ (n : ℕ). v * n) (sym (pow-suc 10 l))

trimmed : (f : List ℕ) (v : ℕ) → numeral_from v f ≡ numeral_from v (take (significant f) f) * 10 ^ (length f - significant f)
unfolding significant numeral_from pick
trimmed [] v = sym (mul-one v)
trimmed (x ∷ f) v = go (ltb 0 (significant f)) (eqb x 48) refl refl (trimmed f (v * 10 + (x - 48)))
  where
    go : (b c : Bool) → ltb 0 (significant f) ≡ b → eqb x 48 ≡ c
        → numeral_from (v * 10 + (x - 48)) f ≡ numeral_from (v * 10 + (x - 48)) (take (significant f) f) * 10 ^ (length f - significant f)
        → numeral_from (v * 10 + (x - 48)) f
        ≡ numeral_from v (take (pick b (significant f + 1) (pick c 0 1)) (x ∷ f)) * 10 ^ (suc (length f) - pick b (significant f + 1) (pick c 0 1))
    go true c g h ih =
        let e : suc (length f) - (significant f + 1) ≡ length f - significant f = omega arith in
        let one : significant f + 1 ≡ suc (significant f) = omega arith in
        rw (e, one) ih
    go false true g h ih =
        let z : significant f ≡ 0 = omega (arith, leb-false 1 (significant f) g) in
        let w : v * 10 + (x - 48) ≡ v * 10 = omega (arith, eqb-true x 48 h) in
        let l : length f - 0 ≡ length f = omega arith in
        let m : suc (length f) ≡ suc (length f) - 0 = omega arith in
        ap (λ (n : ℕ). numeral_from n f) w ∙ (rw (z, w) at ih) ∙ ap (λ (n : ℕ). v * 10 * 10 ^ n) l ∙ times v (length f) ∙ ap (λ (n : ℕ). v * 10 ^ n) m
    go false false g h ih =
        let z : significant f ≡ 0 = omega (arith, leb-false 1 (significant f) g) in
        let e : suc (length f) - 1 ≡ length f - 0 = omega arith in
        rw e (rw z at ih)

-- ---- exponents

-- a value without a power of its own, times a power
abbrev powered : ℕ → ℕ → Exact → Exact
powered p q x = record { negative = x.negative; digits = x.digits; up = p; down = x.down + q }

abbrev raised : ℕ → Exact → Exact
raised p x = record { negative = x.negative; digits = x.digits; up = p; down = x.down }

power_up : (s : List ℕ) (x y z : Exact) (below : Bool) → power_of s x below ≡ Some y
    → power_of s z below ≡ pick below (Some (powered 0 (numeral (take (leading s) s)) z)) (Some (raised (numeral (take (leading s) s)) z))
unfolding power_of pick
power_up s x y z below e = go (ltb (leading s) 1) (leb 3 (leading s)) (ltb (leading s) (length s)) e
  where
    R : Exact → Option Exact
    R x = pick below (Some (powered 0 (numeral (take (leading s) s)) x)) (Some (raised (numeral (take (leading s) s)) x))

    go : (a b c : Bool) → pick a None (pick b None (pick c None (R x))) ≡ Some y → pick a None (pick b None (pick c None (R z))) ≡ R z
    go true b c f = cc
    go false true c f = cc
    go false false true f = cc
    go false false false f = refl

-- what follows the digits says a power, whatever the digits are
record Power (e : List ℕ) : Type 0 where
  p : ℕ
  q : ℕ
  says : (x : Exact) → x.up ≡ 0 → exponent_of e x ≡ Some (powered p q x)

power : (e : List ℕ) (x y : Exact) → exponent_of e x ≡ Some y → Power e
unfolding exponent_of pick
power e x y = go (eqb (length e) 0) (not (starts_with 101 e || starts_with 69 e)) (starts_with 45 (drop 1 e)) refl refl refl
  where
    go : (a b c : Bool) → eqb (length e) 0 ≡ a → not (starts_with 101 e || starts_with 69 e) ≡ b → starts_with 45 (drop 1 e) ≡ c
        → pick a (Some x) (pick b None (pick c (power_of (drop 1 (drop 1 e)) x true) (power_of (drop 1 e) x false))) ≡ Some y → Power e
    go true b c f g h k =
        record { p = 0; q = 0; says = λ (z : Exact) (l : z.up ≡ 0). rw f (ap₂ (λ (u d : ℕ). Some (record { negative = z.negative; digits = z.digits; up = u; down = d })) l (sym (add-zero z.down))) }
    go false true c f g h k = cc
    go false false true f g h k =
        record { p = 0; q = numeral (take (leading (drop 1 (drop 1 e))) (drop 1 (drop 1 e))); says = λ (z : Exact) (l : z.up ≡ 0). rw (f, g, h) (power_up (drop 1 (drop 1 e)) x y z true k) }
    go false false false f g h k =
        record { p = numeral (take (leading (drop 1 e)) (drop 1 e)); q = 0; says = λ (z : Exact) (l : z.up ≡ 0). rw (f, g, h) (power_up (drop 1 e) x y z false k ∙ ap (λ (d : ℕ). Some (record { negative = z.negative; digits = z.digits; up = numeral (take (leading (drop 1 e)) (drop 1 e)); down = d })) (sym (add-zero z.down))) }

-- ---- digits and what follows them

-- the values that are read, given the power p, q that follows the digits
by_value : (negative : Bool) (n up down : ℕ) (e : List ℕ) (w : Power e) → n < 1000000
    → decimal_value negative n up down e ≡ Some (record { negative = negative; digits = n; up = w.p + up; down = 0 + w.q + down })
unfolding decimal_value moved_of pick
by_value negative n up down e w h = rw (lt-leb 1000000 n h, w.says (whole negative n) refl)

some_same : {x y : Exact} → Some x ≡ Some y → x ≡ y
some_same e = cc

spelled : (negative : Bool) (w f e : List ℕ) (x : Exact) → length w ≤ 6 → length f ≤ 6 → numeral_from (numeral w) f < 1000000
    → exponent_of e (record { negative = negative; digits = numeral_from (numeral w) f; up = 0; down = length f }) ≡ Some x → ReadAs x (spelled_of negative w f e)
unfolding spelled_of pick numeral_from
spelled negative w f e x h i b k =
    let r = power e _ x k in
    subst (λ (z : Exact). ReadAs z (spelled_of negative w f e)) (some_same (sym (r.says _ refl) ∙ k))
    (rw (lt-leb 101 (length w) (omega arith), lt-leb 101 (length f) (omega arith)) (go (eqb (significant f) 0) refl r))
  where
    go : (t : Bool) → eqb (significant f) 0 ≡ t → (r : Power e)
        → ReadAs (powered r.p r.q (record { negative = negative; digits = numeral_from (numeral w) f; up = 0; down = length f }))
        (pick t (decimal_value negative (numeral (take (significant w) w)) (length w - significant w) 0 e) (decimal_value negative (numeral (w ++ take (significant f) f)) 0 (significant f) e))
    go true t r =
        let z : significant f ≡ 0 = eqb-true (significant f) 0 t in
        let d = numeral (take (significant w) w) in
        let u = length w - significant w in
        let l : length f - 0 ≡ length f = omega arith in
        let n : numeral_from (numeral w) f ≡ d * 10 ^ u * 10 ^ length f = (rw (z, l) at (trimmed f (numeral w))) ∙ ap (λ (v : ℕ). v * 10 ^ length f) (trimmed w 0) in
        let small : d < 1000000 = omega (arith, le-mul_of_pos_right d (ten_pos u), le-mul_of_pos_right (d * 10 ^ u) (ten_pos (length f)), n) in
        let q : r.q ≡ 0 + r.q + 0 = omega arith in
        rw (by_value negative d u 0 e r small)
        (record { sign = refl; size = whole_size d r.p u (length f) r.q ∙ ap₂ (λ (a b : ℕ). a * 10 ^ r.p * 10 ^ b) (sym n) q })
    go false t r =
        let k = significant f in
        let d = numeral (w ++ take k f) in
        let v = length f - k in
        let n : numeral_from (numeral w) f ≡ d * 10 ^ v = trimmed f (numeral w) ∙ ap (λ (a : ℕ). a * 10 ^ v) (sym (numeral_on 0 w (take k f))) in
        let small : d < 1000000 = omega (arith, le-mul_of_pos_right d (ten_pos v), n) in
        let p : r.p + 0 ≡ r.p = omega arith in
        let l : length f + r.q ≡ v + k + r.q = omega (arith, significant_le f) in
        let q : r.q + k ≡ 0 + r.q + k = omega arith in
        rw (by_value negative d 0 k e r small)
        (record { sign = refl; size = ap₂ (λ (a b : ℕ). d * 10 ^ a * 10 ^ b) p l ∙ point_size d r.p v k r.q ∙ ap₂ (λ (a b : ℕ). a * 10 ^ r.p * 10 ^ b) (sym n) q })

-- ---- the whole text

pointed : (negative : Bool) (s u : List ℕ) (n : ℕ) (x : Exact) → n ≤ leading s → form.fraction_of u (whole negative (numeral (take n s))) n ≡ Some x
    → ReadAs x (pointed_of negative (take n s) u)
unfolding form.fraction_of pointed_of pick
pointed negative s u n x h = go (ltb k 1) (leb 7 (n + k)) refl
  where
    k : ℕ
    k = leading u

    w : List ℕ
    w = take n s

    go : (a b : Bool) → leb 7 (n + k) ≡ b
        → pick a None (pick b None (exponent_of (drop k u) (record { negative = negative; digits = numeral w * 10 ^ k + numeral (take k u); up = 0; down = k }))) ≡ Some x
        → ReadAs x (pick a None (spelled_of negative w (take k u) (drop k u)))
    go true b g f = cc
    go false true g f = cc
    go false false g f =
        let l : length (take k u) ≡ k = simp length-take (omega (arith, leading_le u)) in
        let m = leb-false 7 (n + k) g in
        let e : numeral_from (numeral w) (take k u) ≡ numeral w * 10 ^ k + numeral (take k u) = rw l at (numeral_after (numeral w) (take k u)) in
        let a : (numeral w + 1) * 10 ^ k ≤ 10 ^ n * 10 ^ k = mul-le-mul_right (10 ^ k) (omega (arith, numeral_front s 0 n h)) in
        let c = numeral_front u (numeral w) k (omega arith) in
        spelled negative w (take k u) (drop k u) x (simp length-take (omega arith)) (omega arith) (omega (arith, a, c, pow-add 10 n k, ten_max (n + k) 6 (omega arith)))
        (rw (e, l) f)

unsigned : (negative : Bool) (s : List ℕ) (x : Exact) → form.unsigned_of s negative ≡ Some x → ReadAs x (unsigned_of negative s)
unfolding form.unsigned_of unsigned_of pick numeral_from
unsigned negative s x = go (ltb n 1) (leb 7 n) (starts_with 46 (drop n s)) refl
  where
    n : ℕ
    n = leading s

    w : List ℕ
    w = take n s

    go : (a b c : Bool) → leb 7 n ≡ b
        → pick a None (pick b None (pick c (form.fraction_of (drop 1 (drop n s)) (whole negative (numeral w)) n) (exponent_of (drop n s) (whole negative (numeral w))))) ≡ Some x
        → ReadAs x (pick a None (pick c (pointed_of negative w (drop 1 (drop n s))) (spelled_of negative w [] (drop n s))))
    go true b c g f = cc
    go false true c g f = cc
    go false false true g f = pointed negative s (drop 1 (drop n s)) n x (omega arith) f
    go false false false g f =
        let m = leb-false 7 n g in
        spelled negative w [] (drop n s) x (simp length-take (omega arith)) (omega arith)
        (omega (arith, numeral_front s 0 n (omega arith), ten_max n 6 (omega arith))) f

-- each text of document 01's form is read, as its value
pub as_the_form : AsTheForm
unfolding scan_of decimal_of pick
as_the_form s x = go (starts_with 45 s)
  where
    go : (t : Bool) → pick t (form.unsigned_of (drop 1 s) true) (form.unsigned_of s false) ≡ Some x → ReadAs x (pick t (unsigned_of true (drop 1 s)) (unsigned_of false s))
    go true f = unsigned true (drop 1 s) x f
    go false f = unsigned false s x f
