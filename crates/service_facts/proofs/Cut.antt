-- Laws of splitting: it loses nothing, and bytes may be cut anywhere.
use mathlib.Core.Path.{◌≡◌, refl, sym, ap, ◌∙◌}
use mathlib.Core.Bool.{Bool, true, false, cond}
use mathlib.Core.Logic.{inl, inr}
use mathlib.Core.List.{List, [], ◌∷◌, ◌++◌, append_assoc, append-nil, flatten}
use Prim.Native.Nat.{ℕ, zero, suc}
use lib.Dec.{eqb}
use lib.ListN.{length, take, drop}
use lib.Seq.{drop-append_seam}
use Rattle.service.specs.Split.{Split, ended_by, joined_to, split, frames_of, unfinished_of}
use Rattle.service_facts.specs.Cut.{cut_at, Open, Closed, AllClosed}
use Rattle.service_facts.specs.Theorems.{NothingLost, CutAnywhere, SplitUnique}

-- the frames and the unfinished end are all the bytes, in order
pub nothing_lost : NothingLost
unfolding split joined_to flatten
nothing_lost [] = refl
nothing_lost (b ∷ s) = go (eqb b 13) (frames_of s) (nothing_lost s)
  where
    go : (t : Bool) (fs : List (List ℕ)) → flatten fs ++ unfinished_of s ≡ s
        → flatten (cond t (record { frames = (b ∷ []) ∷ fs; unfinished = unfinished_of s }) (joined_to b fs (unfinished_of s))).frames
        ++ (cond t (record { frames = (b ∷ []) ∷ fs; unfinished = unfinished_of s }) (joined_to b fs (unfinished_of s))).unfinished
        ≡ b ∷ s
    go true fs e = ap (λ (l : List ℕ). b ∷ l) e
    go false [] e = ap (λ (l : List ℕ). b ∷ l) e
    go false (f ∷ fs) e = ap (λ (l : List ℕ). b ∷ l) e

-- so the unfinished end is what follows the frames
pub after_frames : (s : List ℕ) → drop (length (flatten (frames_of s))) s ≡ unfinished_of s
after_frames s = ap (drop (length (flatten (frames_of s)))) (sym (nothing_lost s)) ∙ drop-append_seam (flatten (frames_of s)) (unfinished_of s)

-- ---- cuts

step : (c : ℕ) (s : List ℕ) → eqb c 13 ≡ false → split (c ∷ s) ≡ joined_to c (frames_of s) (unfinished_of s)
unfolding split
step c s e = rw e

-- a byte before bytes that are split
abbrev pub before : ℕ → Bool → Split → Split
before c t s = cond t (ended_by c s) (joined_to c s.frames s.unfinished)

pub split_cut : CutAnywhere
unfolding split joined_to
split_cut [] b = refl
split_cut (c ∷ a) b = go (eqb c 13) refl (frames_of a) (unfinished_of a) (split (a ++ b)) (split_cut a b)
  where
    go : (t : Bool) → eqb c 13 ≡ t → (fs : List (List ℕ)) (u : List ℕ) (s : Split) → s ≡ cut_at fs (split (u ++ b))
        → before c t s ≡ cut_at (before c t (record { frames = fs; unfinished = u })).frames (split ((before c t (record { frames = fs; unfinished = u })).unfinished ++ b))
    go true t fs u s e = rw e
    go false t [] u s e = rw e (sym (ap (cut_at []) (step c (u ++ b) t)))
    go false t (x ∷ fs) u s e = rw e

-- ---- bytes with no CR

-- the unfinished end has none
pub end_open : (s : List ℕ) → Open (unfinished_of s)
unfolding split joined_to
end_open [] = tt
end_open (b ∷ s) = go (eqb b 13) refl (frames_of s) (unfinished_of s) (end_open s)
  where
    go : (t : Bool) → eqb b 13 ≡ t → (fs : List (List ℕ)) (u : List ℕ) → Open u → Open (before b t (record { frames = fs; unfinished = u })).unfinished
    go true t fs u o = o
    go false t [] u o = (t, o)
    go false t (x ∷ fs) u o = o

pub take_open : (n : ℕ) (x : List ℕ) → Open x → Open (take n x)
take_open zero x o = tt
take_open (suc n) [] o = tt
take_open (suc n) (b ∷ x) o = (o.0, take_open n x o.1)

-- such bytes before others belong to the first frame, and to the unfinished end where there is no frame
unfoldable pub open_before : List ℕ → List (List ℕ) → List ℕ → Split
open_before x [] u = record { frames = []; unfinished = x ++ u }
open_before x (f ∷ fs) u = record { frames = (x ++ f) ∷ fs; unfinished = u }

pub open_before_lem : (x b : List ℕ) → Open x → split (x ++ b) ≡ open_before x (frames_of b) (unfinished_of b)
unfolding open_before joined_to
open_before_lem [] b o = go (frames_of b) refl
  where
    go : (fs : List (List ℕ)) → frames_of b ≡ fs → split b ≡ open_before [] fs (unfinished_of b)
    go [] e = rw (← e)
    go (f ∷ fs) e = rw (← e)
open_before_lem (c ∷ x) b o = step c (x ++ b) o.0 ∙ ap (λ (s : Split). joined_to c s.frames s.unfinished) (open_before_lem x b o.1) ∙ go (frames_of b)
  where
    go : (fs : List (List ℕ)) → joined_to c (open_before x fs (unfinished_of b)).frames (open_before x fs (unfinished_of b)).unfinished ≡ open_before (c ∷ x) fs (unfinished_of b)
    go [] = refl
    go (f ∷ fs) = refl

-- ---- splitting is determined: frames with one CR each, at their ends, and an end with none

pub frames_closed : (s : List ℕ) → AllClosed (frames_of s)
unfolding split joined_to
frames_closed [] = tt
frames_closed (b ∷ s) = go (eqb b 13) refl (frames_of s) (unfinished_of s) (frames_closed s)
  where
    go : (t : Bool) → eqb b 13 ≡ t → (fs : List (List ℕ)) (u : List ℕ) → AllClosed fs → AllClosed (before b t (record { frames = fs; unfinished = u })).frames
    go true t fs u c = (inl (t, refl), c)
    go false t [] u c = tt
    go false t (f ∷ fs) u c = (inr (t, c.0), c.1)

closed_before : (f s : List ℕ) → Closed f → split (f ++ s) ≡ record { frames = f ∷ frames_of s; unfinished = unfinished_of s }
unfolding split joined_to
closed_before [] s c = absurd c
closed_before (b ∷ f) s (inl (e, n)) = rw (n, e)
closed_before (b ∷ f) s (inr (e, c)) = step b (f ++ s) e ∙ ap (λ (x : Split). joined_to b x.frames x.unfinished) (closed_before f s c)

-- so any such frames and end are those of their bytes
pub split_unique : SplitUnique
unfolding split open_before flatten
split_unique [] end c o = rw (append-nil end) at (open_before_lem end [] o)
split_unique (f ∷ fs) end c o =
    rw append_assoc (closed_before f (flatten fs ++ end) c.0 ∙ ap (λ (x : Split). record { frames = f ∷ x.frames; unfinished = x.unfinished }) (split_unique fs end c.1 o))
