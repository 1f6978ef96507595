-- Lemmas on the reader: each part of the form is read, and only that.
use mathlib.Core.Path.{◌≡◌, refl, ◌∙◌}
use mathlib.Core.Bool.{Bool, true, false, cond, not, ◌||◌, true≢false}
use mathlib.Core.List.{List, [], ◌∷◌, ◌++◌, append-nil, append_assoc}
use mathlib.Core.Logic.{◌⊎◌, inl, inr}
use Prim.Native.Nat.{ℕ, suc, ◌+◌, ◌*◌, ◌^◌, ◌<◌, ◌≤◌}
use native.Mathlib.Nat.{add-zero}
use native.Mathlib.Omega.{arith}
use borrow.Author.Tests.{le-ltb, lt-leb, ne_eqb, ltb-false, leb-false, eqb-true}
use lib.Dec.{ltb, leb, eqb, eqb-suc-zero}
use lib.ListN.{length, take, drop, take-append-drop}
use lib.Seq.{take-length, take-append_seam, drop-append_seam}
use Rattle.std.specs.Prelude.{None, Option, Some}
use Rattle.buffer.specs.First.{pick}
use Rattle.buffer.specs.Byte.{at, within, is_digit, every, numeral, numeral_from, leading, starts_with}
use Rattle.decimal.specs.Form.{power_of, exponent_of, fraction_of, unsigned_of, scan_of}
use Rattle.decimal.specs.declared.Exact.{Exact}
use Rattle.buffer.proofs.Laws.{leading_le}
use Rattle.decimal_facts.specs.Grammar.{Parts, Good, dash, point, exponent, spelled_of, meaning}
use Rattle.decimal_facts.proofs.Lemmas.Digits.{digit_low, both_left, leading_at, leading_digits, leading_length, numeral_append, passed}

-- ---- from the form to the reader

-- a text of digits alone
pub leading_all : (s : List ℕ) → every is_digit s ≡ true → leading s ≡ length s
unfolding within
leading_all s e = rw (append-nil s) at (leading_at s [] e refl)

-- digits d over 10 ^ k
abbrev plain : Bool → ℕ → ℕ → Exact
plain negative d k = record { negative = negative; digits = d; up = 0; down = k }

-- x with the power s
abbrev raised : Exact → Bool → List ℕ → Exact
raised x below s = record { negative = x.negative; digits = x.digits; up = cond below 0 (numeral s); down = x.down + cond below (numeral s) 0 }

power_reads : (s : List ℕ) (x : Exact) (below : Bool) → every is_digit s ≡ true → 1 ≤ length s → length s ≤ 2 → power_of s x below ≡ Some (raised x below s)
unfolding power_of pick
power_reads s x below e h k =
    rw (leading_all s e, le-ltb (length s) 1 h, lt-leb 3 (length s) (omega arith), le-ltb (length s) (length s) (omega arith), take-length s) (go below)
  where
    go : (b : Bool) → pick b (Some (raised x true s)) (Some (record { negative = x.negative; digits = x.digits; up = numeral s; down = x.down })) ≡ Some (raised x b s)
    go true = refl
    go false = rw (add-zero x.down)

-- a test that both marks answer alike
by_mark : (f : ℕ → Bool) (b : Bool) (mark : ℕ) → f 101 ≡ b → f 69 ≡ b → (mark ≡ 101) ⊎ (mark ≡ 69) → f mark ≡ b
by_mark f b mark g h (inl e) = rw e g
by_mark f b mark g h (inr e) = rw e h

-- a digit is no other character
no_digit : (b x : ℕ) → is_digit x ≡ true → b < 48 → eqb x b ≡ false
no_digit b x e h = ne_eqb x b (λ (z : x ≡ b). omega (arith, digit_low x e))

module _ (mark : ℕ) (m : (mark ≡ 101) ⊎ (mark ≡ 69)) where
  is_mark : (eqb mark 101 || eqb mark 69) ≡ true
  is_mark = by_mark (λ k. eqb k 101 || eqb k 69) true mark refl refl m

  exponent_reads : (below : Bool) (s : List ℕ) (negative : Bool) (d k : ℕ) → every is_digit s ≡ true → length s ≤ 2
      → exponent_of (exponent mark below s) (plain negative d k) ≡ Some (raised (plain negative d k) below s)
  unfolding exponent_of exponent pick starts_with numeral_from dash every
  exponent_reads true [] negative d k e h = rw (add-zero k)
  exponent_reads false [] negative d k e h = rw (add-zero k)
  exponent_reads true (y ∷ s) negative d k e h =
      rw (eqb-suc-zero (suc (suc (length s))), is_mark) (power_reads (y ∷ s) (plain negative d k) true e (omega arith) h)
  exponent_reads false (y ∷ s) negative d k e h =
      rw (eqb-suc-zero (suc (length s)), is_mark, no_digit 45 y (both_left (is_digit y) (every is_digit s) e) (omega arith))
      (power_reads (y ∷ s) (plain negative d k) false e (omega arith) h)

  -- what follows the digits is no digit, and no point
  mark_ends : (below : Bool) (s : List ℕ) → is_digit (at (exponent mark below s) 0) ≡ false
  unfolding exponent within
  mark_ends below [] = refl
  mark_ends below (y ∷ s) = by_mark is_digit false mark refl refl m

  no_point : (below : Bool) (s : List ℕ) → starts_with 46 (exponent mark below s) ≡ false
  unfolding exponent starts_with
  no_point below [] = refl
  no_point below (y ∷ s) = by_mark (λ k. eqb k 46) false mark refl refl m

fraction_reads : (f t : List ℕ) (x : Exact) (n : ℕ) → every is_digit f ≡ true → is_digit (at t 0) ≡ false → 1 ≤ length f → n + length f ≤ 6
    → fraction_of (f ++ t) x n ≡ exponent_of t (plain x.negative (x.digits * 10 ^ length f + numeral f) (length f))
unfolding fraction_of pick
fraction_reads f t x n e g h k =
    rw (leading_at f t e g, le-ltb (length f) 1 h, lt-leb 7 (n + length f) (omega arith), take-append_seam f t, drop-append_seam f t)

-- the whole, and a rest t that is no digit
whole_reads : (w t : List ℕ) (negative : Bool) → every is_digit w ≡ true → is_digit (at t 0) ≡ false → 1 ≤ length w → length w ≤ 6
    → unsigned_of (w ++ t) negative ≡ pick (starts_with 46 t) (fraction_of (drop 1 t) (plain negative (numeral w) 0) (length w)) (exponent_of t (plain negative (numeral w) 0))
unfolding unsigned_of pick
whole_reads w t negative e g h k =
    rw (leading_at w t e g, le-ltb (length w) 1 h, lt-leb 7 (length w) (omega arith), take-append_seam w t, drop-append_seam w t)

pub unsigned_reads : (w f : List ℕ) (mark : ℕ) (below : Bool) (s : List ℕ) (negative : Bool)
    → Good (record { negative = negative; whole = w; fraction = f; mark = mark; below = below; power = s })
    → unsigned_of (w ++ (point f ++ exponent mark below s)) negative
    ≡ Some (meaning (record { negative = negative; whole = w; fraction = f; mark = mark; below = below; power = s }))
unfolding pick point meaning within starts_with
unsigned_reads w [] mark below s negative g =
    whole_reads w (exponent mark below s) negative g.whole_digits (mark_ends mark g.marked below s) g.some (omega arith)
    ∙ rw (no_point mark g.marked below s, append-nil w) (exponent_reads mark g.marked below s negative (numeral w) 0 g.power_digits (omega (arith, g.two)))
unsigned_reads w (y ∷ f) mark below s negative g =
    whole_reads w (46 ∷ y ∷ f ++ exponent mark below s) negative g.whole_digits refl g.some (omega arith)
    ∙ fraction_reads (y ∷ f) (exponent mark below s) (plain negative (numeral w) 0) (length w) g.fraction_digits (mark_ends mark g.marked below s) (omega arith) g.six
    ∙ rw (numeral_append w (y ∷ f))
    (exponent_reads mark g.marked below s negative (numeral w * 10 ^ length (y ∷ f) + numeral (y ∷ f)) (length (y ∷ f)) g.power_digits (omega (arith, g.two)))

-- digits first: no sign
pub no_dash : (w t : List ℕ) → every is_digit w ≡ true → 1 ≤ length w → starts_with 45 (w ++ t) ≡ false
unfolding starts_with every
no_dash [] t e h = absurd (omega arith)
no_dash (x ∷ w) t e h = no_digit 45 x (both_left (is_digit x) (every is_digit w) e) (omega arith)

pub signed : (b : Bool) (u : List ℕ) → starts_with 45 u ≡ false → scan_of (dash b ++ u) ≡ unsigned_of u b
unfolding scan_of dash pick starts_with
signed true u e = refl
signed false u e = rw e

-- ---- from the reader to the form

-- a row that refuses was passed
past : (t : Bool) (r : Option Exact) (y : Exact) → pick t None r ≡ Some y → (t ≡ false) × (r ≡ Some y)
past t r y e = passed t None r (Some y) (λ n. cc) e

record Power (s : List ℕ) : Type 0 where
  digits : every is_digit s ≡ true
  some : 1 ≤ length s
  two : length s ≤ 2

power_shape : (s : List ℕ) (x : Exact) (below : Bool) (y : Exact) → power_of s x below ≡ Some y → Power s
unfolding power_of
power_shape s x below y e =
    let a = past (ltb (leading s) 1) _ y e in
    let b = past (leb 3 (leading s)) _ y a.1 in
    let c = past (ltb (leading s) (length s)) _ y b.1 in
    let n : leading s ≡ length s = omega (arith, leading_le s, ltb-false (leading s) (length s) c.0) in
    record {
      digits = rw (n, take-length s) at (leading_digits s);
      some = omega (arith, ltb-false (leading s) 1 a.0);
      two = omega (arith, leb-false 3 (leading s) b.0);
    }

record Tail (s : List ℕ) : Type 0 where
  mark : ℕ
  below : Bool
  power : List ℕ
  digits : every is_digit power ≡ true
  two : length power ≤ 2
  marked : (mark ≡ 101) ⊎ (mark ≡ 69)
  text : exponent mark below power ≡ s

-- a mark, and a power that the reader took
tail_of_lem : (mark : ℕ) (below : Bool) (s : List ℕ) → (mark ≡ 101) ⊎ (mark ≡ 69) → Power s → Tail (mark ∷ dash below ++ s)
unfolding exponent
tail_of_lem mark below [] m w = absurd (omega (arith, w.some))
tail_of_lem mark below (x ∷ s) m w = record { mark = mark; below = below; power = x ∷ s; digits = w.digits; two = w.two; marked = m; text = refl }

mark_of : (b : ℕ) → not (starts_with 101 (b ∷ []) || starts_with 69 (b ∷ [])) ≡ false → (b ≡ 101) ⊎ (b ≡ 69)
unfolding starts_with
mark_of b e = go (eqb b 101) refl (eqb b 69) refl e
  where
    go : (t : Bool) → eqb b 101 ≡ t → (u : Bool) → eqb b 69 ≡ u → not (t || u) ≡ false → (b ≡ 101) ⊎ (b ≡ 69)
    go true f u g h = inl (eqb-true b 101 f)
    go false f true g h = inr (eqb-true b 69 g)
    go false f false g h = absurd (true≢false h)

-- after the mark
mark_shape : (b : ℕ) (s : List ℕ) (x y : Exact) → (b ≡ 101) ⊎ (b ≡ 69) → pick (starts_with 45 s) (power_of (drop 1 s) x true) (power_of s x false) ≡ Some y → Tail (b ∷ s)
unfolding pick starts_with dash
mark_shape b [] x y m e = tail_of_lem b false [] m (power_shape [] x false y e)
mark_shape b (c ∷ s) x y m e = go (eqb c 45) refl e
  where
    go : (t : Bool) → eqb c 45 ≡ t → pick t (power_of s x true) (power_of (c ∷ s) x false) ≡ Some y → Tail (b ∷ c ∷ s)
    go true f g = rw (eqb-true c 45 f) (tail_of_lem b true s m (power_shape s x true y g))
    go false f g = tail_of_lem b false (c ∷ s) m (power_shape (c ∷ s) x false y g)

exponent_shape : (s : List ℕ) (x y : Exact) → exponent_of s x ≡ Some y → Tail s
unfolding exponent_of exponent every pick starts_with
exponent_shape [] x y e = record { mark = 101; below = false; power = []; digits = refl; two = omega arith; marked = inl refl; text = refl }
exponent_shape (b ∷ s) x y e =
    let f = past (not (starts_with 101 (b ∷ s) || starts_with 69 (b ∷ s))) _ y (rw (eqb-suc-zero (length s)) at e) in
    mark_shape b s x y (mark_of b f.0) f.1

-- the parts of a text with no sign, the sign given
record Body (negative : Bool) (s : List ℕ) : Type 0 where
  parts : Parts
  good : Good parts
  sign : parts.negative ≡ negative
  text : parts.whole ++ (point parts.fraction ++ exponent parts.mark parts.below parts.power) ≡ s

record Fraction (s : List ℕ) (n : ℕ) : Type 0 where
  digits : every is_digit (take (leading s) s) ≡ true
  some : 1 ≤ leading s
  six : n + leading s ≤ 6
  tail : Tail (drop (leading s) s)

fraction_shape : (s : List ℕ) (x : Exact) (n : ℕ) (y : Exact) → fraction_of s x n ≡ Some y → Fraction s n
unfolding fraction_of
fraction_shape s x n y e =
    let a = past (ltb (leading s) 1) _ y e in
    let b = past (leb 7 (n + leading s)) _ y a.1 in
    record {
      digits = leading_digits s;
      some = ltb-false (leading s) 1 a.0;
      six = omega (arith, leb-false 7 (n + leading s) b.0);
      tail = exponent_shape (drop (leading s) s) _ y b.1;
    }

point_some : (f : List ℕ) → 1 ≤ length f → point f ≡ 46 ∷ f
unfolding point
point_some [] h = absurd (omega arith)
point_some (x ∷ f) h = refl

-- the whole, and what follows it
module _ (negative : Bool) (w : List ℕ) (e : every is_digit w ≡ true) (n : ℕ) (q : length w ≡ n) (h : 1 ≤ n) (k : n ≤ 6) where
  body_plain : (t : List ℕ) → Tail t → Body negative (w ++ t)
  unfolding point every
  body_plain t r =
      record {
        parts = record { negative = negative; whole = w; fraction = []; mark = r.mark; below = r.below; power = r.power };
        good =
            record {
              whole_digits = e;
              fraction_digits = refl;
              power_digits = r.digits;
              some = omega arith;
              six = omega arith;
              two = r.two;
              marked = r.marked;
            };
        sign = refl;
        text = rw r.text;
      }

  body_pointed : (t : List ℕ) → Fraction t n → Body negative (w ++ (46 ∷ t))
  unfolding point
  body_pointed t r =
      record {
        parts = record { negative = negative; whole = w; fraction = take (leading t) t; mark = r.tail.mark; below = r.tail.below; power = r.tail.power };
        good =
            record {
              whole_digits = e;
              fraction_digits = r.digits;
              power_digits = r.tail.digits;
              some = omega arith;
              six = omega (arith, leading_length t, r.six);
              two = r.tail.two;
              marked = r.tail.marked;
            };
        sign = refl;
        text = rw (r.tail.text, point_some (take (leading t) t) (omega (arith, leading_length t, r.some)), take-append-drop (leading t) t);
      }

  body_of : (t : List ℕ) (x y : Exact) → pick (starts_with 46 t) (fraction_of (drop 1 t) x n) (exponent_of t x) ≡ Some y → Body negative (w ++ t)
  unfolding pick starts_with
  body_of [] x y f = body_plain [] (exponent_shape [] x y f)
  body_of (c ∷ t) x y f = go (eqb c 46) refl f
    where
      go : (b : Bool) → eqb c 46 ≡ b → pick b (fraction_of t x n) (exponent_of (c ∷ t) x) ≡ Some y → Body negative (w ++ (c ∷ t))
      go true z g = rw (eqb-true c 46 z) (body_pointed t (fraction_shape t x n y g))
      go false z g = body_plain (c ∷ t) (exponent_shape (c ∷ t) x y g)

unsigned_shape : (s : List ℕ) (negative : Bool) (y : Exact) → unsigned_of s negative ≡ Some y → Body negative s
unfolding unsigned_of
unsigned_shape s negative y e =
    let a = past (ltb (leading s) 1) _ y e in
    let b = past (leb 7 (leading s)) _ y a.1 in
    rw (take-append-drop (leading s) s) at
    (body_of negative (take (leading s) s) (leading_digits s) (leading s) (leading_length s) (ltb-false (leading s) 1 a.0) (omega (arith, leb-false 7 (leading s) b.0))
    (drop (leading s) s) _ y b.1)

-- the parts of a text with its sign
signed_shape : (b : Bool) (u : List ℕ) → Body b u → (p : Parts) × Good p × (spelled_of p ≡ dash b ++ u)
unfolding spelled_of
signed_shape b u r =
    let p = r.parts in
    (p, r.good, rw (append_assoc (dash p.negative ++ p.whole) (point p.fraction), append_assoc (dash p.negative) p.whole, r.text, r.sign))

pub shape : (s : List ℕ) (y : Exact) → scan_of s ≡ Some y → (p : Parts) × Good p × (spelled_of p ≡ s)
unfolding scan_of starts_with pick dash
shape [] y e = signed_shape false [] (unsigned_shape [] false y e)
shape (c ∷ s) y e = go (eqb c 45) refl e
  where
    go : (b : Bool) → eqb c 45 ≡ b → pick b (unsigned_of s true) (unsigned_of (c ∷ s) false) ≡ Some y → (p : Parts) × Good p × (spelled_of p ≡ c ∷ s)
    go true z g = rw (eqb-true c 45 z) (signed_shape true s (unsigned_shape s true y g))
    go false z g = signed_shape false (c ∷ s) (unsigned_shape (c ∷ s) false y g)
