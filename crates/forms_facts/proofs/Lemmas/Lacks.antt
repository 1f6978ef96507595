-- Texts in which a character does not stand.
use mathlib.Core.Path.{◌≡◌, refl, ap}
use mathlib.Core.Bool.{Bool, true, false, cond, not, ◌&&◌, and-eq-true_iff}
use mathlib.Core.List.{List, [], ◌∷◌, ◌++◌}
use Prim.Native.Nat.{ℕ, suc, ◌+◌, ◌<◌}
use native.Mathlib.Numerals.{add-one}
use native.Mathlib.Omega.{arith}
use borrow.Author.Tests.{not-false, eqb-true, eq-eqb, not-true}
use lib.Dec.{eqb}
use lib.ListN.{length, take, drop}
use Rattle.buffer.specs.Byte.{until_of}

-- b does not stand in the text
unfoldable pub lacks : ℕ → List ℕ → Bool
lacks b [] = true
lacks b (x ∷ s) = not (eqb x b) && lacks b s

pub split : (a b : Bool) → (a && b) ≡ true → (a ≡ true) × (b ≡ true)
split a b e = (and-eq-true_iff a b).0 e

pub both_told : (a b : Bool) → not (a && b) ≡ false → (a ≡ true) × (b ≡ true)
both_told a b e = split a b (not-false (a && b) e)

pub lacks_append : (b : ℕ) (s t : List ℕ) → lacks b s ≡ true → lacks b t ≡ true → lacks b (s ++ t) ≡ true
unfolding lacks
lacks_append b [] t e f = f
lacks_append b (x ∷ s) t e f = let w = split (not (eqb x b)) (lacks b s) e in rw w.0 (lacks_append b s t w.1 f)

-- it stands where the rest begins
pub until_lacks : (b : ℕ) (s t : List ℕ) → lacks b s ≡ true → until_of b (s ++ b ∷ t) ≡ length s
unfolding lacks until_of
until_lacks b [] t e = rw (eq-eqb b b refl)
until_lacks b (x ∷ s) t e =
    let w = split (not (eqb x b)) (lacks b s) e in
    rw (not-true (eqb x b) w.0, until_lacks b s t w.1) (add-one (length s))

-- a text in which b stands
pub until_split : (b : ℕ) (s : List ℕ) → until_of b s < length s → s ≡ take (until_of b s) s ++ b ∷ drop (until_of b s + 1) s
unfolding until_of
until_split b [] h = absurd (omega arith)
until_split b (x ∷ s) h = go (eqb x b) refl h (until_split b s)
  where
    go : (t : Bool) → eqb x b ≡ t → cond t 0 (until_of b s + 1) < suc (length s) → (until_of b s < length s → s ≡ take (until_of b s) s ++ b ∷ drop (until_of b s + 1) s)
        → x ∷ s ≡ take (cond t 0 (until_of b s + 1)) (x ∷ s) ++ b ∷ drop (cond t 0 (until_of b s + 1) + 1) (x ∷ s)
    go true e k f = rw (eqb-true x b e)
    go false e k f =
        let g = rw (add-one (until_of b s)) at (f (omega arith)) in
        rw (add-one (until_of b s + 1), add-one (until_of b s)) (ap (λ (l : List ℕ). x ∷ l) g)
