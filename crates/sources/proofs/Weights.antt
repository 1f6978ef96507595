-- Lists in which no source stands twice: what a weight over them can sum to, and how many entries they can have.
use mathlib.Core.Path.{◌≡◌, refl, sym, ap, ◌∙◌}
use mathlib.Core.Bool.{Bool, true, false, cond, not, ◌&&◌, ◌||◌, and-eq-true_iff, and-false, or-true}
use mathlib.Core.List.{List, [], ◌∷◌}
use mathlib.Core.Logic.{inl, inr}
use Prim.Native.Nat.{ℕ, zero, suc, ◌+◌, ◌≤◌, ◌<◌}
use native.Mathlib.Omega.{arith}
use borrow.Author.Tests.{eqb-true, eq-eqb, not-true}
use lib.Dec.{eqb}
use lib.ListN.{length, take, length-take}
use lib.Seq.{take_all}
use Rattle.buffer.specs.Byte.{at, every}
use Rattle.sources.specs.Source.{among, all_differ, stand_once, listable, most_entries, total, capacity}
use Rattle.sources.proofs.Laws.{eqb_sym}
use Rattle.sources.specs.Theorems.{Repeat, RepeatOrZero, RepeatExactly, OnceExactly, Weights, AtMost, MostIs, LongerRepeats}

both : (a b : Bool) → (a && b) ≡ true → (a ≡ true) × (b ≡ true)
both a b e = (and-eq-true_iff a b).0 e

-- ---- one source taken out

-- the codes without the first c
unfoldable without : ℕ → List ℕ → List ℕ
without c [] = []
without c (d ∷ codes) = cond (eqb c d) codes (d ∷ without c codes)

total_without : (weight : ℕ → ℕ) (c : ℕ) (codes : List ℕ) → among codes c ≡ true → total weight codes ≡ weight c + total weight (without c codes)
unfolding among without total
total_without weight c [] e = absurd (let z : ◌≡◌ {A = ℕ} 0 1 = cc in omega arith)
total_without weight c (d ∷ codes) e = go (eqb c d) refl e (total_without weight c codes)
  where
    go : (b : Bool) → eqb c d ≡ b → (b || among codes c) ≡ true → (among codes c ≡ true → total weight codes ≡ weight c + total weight (without c codes))
        → weight d + total weight codes ≡ weight c + total weight (cond b codes (d ∷ without c codes))
    go true f k r = rw (eqb-true c d f)
    go false f k r = omega (arith, r k)

-- another source is still among them
still : (c x : ℕ) (codes : List ℕ) → eqb x c ≡ false → among codes x ≡ true → among (without c codes) x ≡ true
unfolding among without
still c x [] n e = e
still c x (d ∷ codes) n e = go (eqb c d) (eqb x d) refl refl e (still c x codes n)
  where
    go : (b t : Bool) → eqb c d ≡ b → eqb x d ≡ t → (t || among codes x) ≡ true → (among codes x ≡ true → among (without c codes) x ≡ true)
        → among (cond b codes (d ∷ without c codes)) x ≡ true
    go true true f g k r = absurd (let z : ◌≡◌ {A = Bool} true false = sym g ∙ rw (← (eqb-true c d f)) n in let y : ◌≡◌ {A = ℕ} 0 1 = cc in omega arith)
    go true false f g k r = k
    go false true f g k r = rw g
    go false false f g k r = rw g (r k)

all_still : (c : ℕ) (codes list : List ℕ) → among list c ≡ false → every (among codes) list ≡ true → every (among (without c codes)) list ≡ true
unfolding among every
all_still c codes [] n e = refl
all_still c codes (x ∷ list) n e = go (eqb c x) refl n (all_still c codes list)
  where
    go : (b : Bool) → eqb c x ≡ b → (b || among list c) ≡ false → (among list c ≡ false → every (among codes) list ≡ true → every (among (without c codes)) list ≡ true)
        → (among (without c codes) x && every (among (without c codes)) list) ≡ true
    go true f k r = absurd (let y : ◌≡◌ {A = ℕ} 0 1 = cc in omega arith)
    go false f k r = let w = both (among codes x) (every (among codes) list) e in rw (still c x codes (eqb_sym x c ∙ f) w.0, r k w.1)

-- ---- the weights

pub weights : Weights
unfolding every all_differ total
weights weight codes [] k l = omega arith
weights weight codes (c ∷ list) k l =
    let w = both (among codes c) (every (among codes) list) k in
    let v = both (not (among list c)) (all_differ list) l in
    omega (arith, total_without weight c codes w.0, weights weight (without c codes) list (all_still c codes list (not-true (among list c) v.0) w.1) v.1)

-- the sum of ones is the length
ones : (list : List ℕ) → total (λ _. 1) list ≡ length list
unfolding total
ones [] = refl
ones (c ∷ list) = omega (arith, ones list)

pub most_is : MostIs
most_is = (refl, refl, refl)

-- sources that stand once are at most as many as there are
pub at_most_all : (codes list : List ℕ) → every (among codes) list ≡ true → all_differ list ≡ true → length list ≤ length codes
at_most_all codes list k l = omega (arith, weights (λ _. 1) codes list k l, ones list, ones codes)

-- the sources of the line, `0` and then the list, are known
pub line_known : (codes list : List ℕ) → among codes 0 ≡ true → every (among codes) list ≡ true → every (among codes) (0 ∷ list) ≡ true
unfolding every
line_known codes list z k = rw (z, k)

pub at_most : AtMost
unfolding listable
at_most codes list z e =
    let w = both (every (among codes) list) (all_differ (0 ∷ list)) e in
    omega (arith, at_most_all codes (0 ∷ list) (line_known codes list z w.0) w.1)

-- ---- repeats

-- where a source stands
found : (c : ℕ) (list : List ℕ) → among list c ≡ true → (i : ℕ) × (i < length list) × (c ≡ at list i)
unfolding among
found c [] e = absurd (let y : ◌≡◌ {A = ℕ} 0 1 = cc in omega arith)
found c (d ∷ list) e = go (eqb c d) refl e (found c list)
  where
    go : (b : Bool) → eqb c d ≡ b → (b || among list c) ≡ true → (among list c ≡ true → (i : ℕ) × (i < length list) × (c ≡ at list i))
        → (i : ℕ) × (i < length (d ∷ list)) × (c ≡ at (d ∷ list) i)
    go true f k r = (0, omega arith, eqb-true c d f)
    go false f k r = let w = r k in (suc w.0, omega (arith, w.1), w.2)

stands : (c : ℕ) (list : List ℕ) (i : ℕ) → i < length list → c ≡ at list i → among list c ≡ true
unfolding among
stands c [] i h e = absurd (omega arith)
stands c (d ∷ list) zero h e = rw (eq-eqb c d e)
stands c (d ∷ list) (suc i) h e = rw (stands c list i (omega arith) e) (or-true (eqb c d))

repeats : (list : List ℕ) → all_differ list ≡ false → Repeat list
unfolding all_differ
repeats [] e = absurd (let y : ◌≡◌ {A = ℕ} 0 1 = cc in omega arith)
repeats (c ∷ list) e = go (among list c) refl e (repeats list)
  where
    go : (b : Bool) → among list c ≡ b → (not b && all_differ list) ≡ false → (all_differ list ≡ false → Repeat list) → Repeat (c ∷ list)
    go true f k r = let w = found c list f in record { early = 0; late = suc w.0; apart = omega arith; inside = omega (arith, w.1); same = w.2 }
    go false f k r = let w = r k in record { early = suc w.early; late = suc w.late; apart = omega (arith, w.apart); inside = omega (arith, w.inside); same = w.same }

refuted : (list : List ℕ) (i j : ℕ) → i < j → j < length list → at list i ≡ at list j → all_differ list ≡ false
unfolding all_differ
refuted [] i j h k e = absurd (omega arith)
refuted (c ∷ list) i zero h k e = absurd (omega arith)
refuted (c ∷ list) zero (suc j) h k e = rw (stands c list j (omega arith) e)
refuted (c ∷ list) (suc i) (suc j) h k e = rw (refuted list i j (omega arith) (omega arith) e) (and-false (not (among list c)))

pub repeat_exactly : RepeatExactly
repeat_exactly list = (repeats list, λ r. refuted list r.early r.late r.apart r.inside r.same)

pub once_exactly : OnceExactly
unfolding all_differ
once_exactly list = (go (among list 0) refl, from)
  where
    go : (b : Bool) → among list 0 ≡ b → stand_once list ≡ false → RepeatOrZero list
    go true e h = inr e
    go false e h = inl (repeats list (rw e at h))

    from : RepeatOrZero list → stand_once list ≡ false
    from (inl r) = rw (refuted list r.early r.late r.apart r.inside r.same) (and-false (not (among list 0)))
    from (inr e) = rw e

-- in a list that is too long they do not stand once
pub longer : (codes list : List ℕ) → among codes 0 ≡ true → every (among codes) list ≡ true → most_entries codes < length list → stand_once list ≡ false
unfolding listable
longer codes list z k h = go (stand_once list) refl
  where
    go : (b : Bool) → stand_once list ≡ b → b ≡ false
    go false e = refl
    go true e = absurd (omega (arith, at_most codes list z (rw (k, e))))

pub longer_repeats : LongerRepeats
longer_repeats codes list z k h = (once_exactly list).0 (longer codes list z k h)

-- ---- the places that exist, where the list's array has one for each source

every_take : (codes : List ℕ) (n : ℕ) (list : List ℕ) → every (among codes) list ≡ true → every (among codes) (take n list) ≡ true
unfolding every
every_take codes zero list e = refl
every_take codes (suc n) [] e = refl
every_take codes (suc n) (c ∷ list) e = let w = both (among codes c) (every (among codes) list) e in rw (w.0, every_take codes n list w.1)

module _ (codes : List ℕ) (fits : length codes ≤ capacity) (zero_in : among codes 0 ≡ true) where
  -- known sources that stand once all find a place
  pub kept_whole : (list : List ℕ) → every (among codes) list ≡ true → stand_once list ≡ true → take capacity list ≡ list
  unfolding listable
  kept_whole list k l = take_all capacity list (omega (arith, fits, at_most codes list zero_in (rw (k, l))))

  -- whether known sources stand once is told by those that found a place
  pub places_tell : (list : List ℕ) → every (among codes) list ≡ true → stand_once (take capacity list) ≡ stand_once list
  unfolding listable
  places_tell list k = go (stand_once (take capacity list)) (stand_once list) refl refl
    where
      go : (a b : Bool) → stand_once (take capacity list) ≡ a → stand_once list ≡ b → a ≡ b
      go true b e f =
          let some = at_most_all codes (0 ∷ take capacity list) (line_known codes (take capacity list) zero_in (every_take codes capacity list k)) e in
          let whole : take capacity list ≡ list = take_all capacity list (omega (arith, fits, some, length-take capacity list)) in
          sym e ∙ ap stand_once whole ∙ f
      go false true e f = sym e ∙ ap stand_once (kept_whole list k f) ∙ f
      go false false e f = refl
