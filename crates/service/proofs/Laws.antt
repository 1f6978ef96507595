-- Laws of splitting, by how many bytes stand before the first CR.
use mathlib.Core.Path.{◌≡◌, refl}
use mathlib.Core.Bool.{Bool, true, false, cond}
use mathlib.Core.List.{List, [], ◌∷◌}
use Prim.Native.Nat.{ℕ, suc, ◌+◌, ◌<◌, ◌≤◌}
use native.Mathlib.Numerals.{add-one}
use native.Mathlib.Omega.{arith}
use lib.Dec.{eqb}
use lib.ListN.{length, take, drop}
use Rattle.buffer.specs.Byte.{until_of}
use Rattle.service.specs.Split.{ended_by, joined_to, split, frames_of, unfinished_of}

-- with no CR there is no frame
pub no_frame : (s : List ℕ) → length s ≤ until_of 13 s → frames_of s ≡ []
unfolding split until_of joined_to
no_frame [] h = refl
no_frame (b ∷ s) h = go (eqb b 13) (no_frame s) h
  where
    go : (t : Bool) → (length s ≤ until_of 13 s → frames_of s ≡ []) → suc (length s) ≤ cond t 0 (until_of 13 s + 1)
        → (cond t (ended_by b (split s)) (joined_to b (frames_of s) (unfinished_of s))).frames ≡ []
    go true f k = absurd (omega arith)
    go false f k = rw (f (omega arith))

-- else the first frame ends with the first CR, and what follows is split in its turn
abbrev First : List ℕ → ℕ → Type 0
First s n = frames_of s ≡ take (n + 1) s ∷ frames_of (drop (n + 1) s)

pub one_frame : (s : List ℕ) → until_of 13 s < length s → frames_of s ≡ take (until_of 13 s + 1) s ∷ frames_of (drop (until_of 13 s + 1) s)
unfolding split until_of joined_to
one_frame [] h = absurd (omega arith)
one_frame (b ∷ s) h = go (eqb b 13) (one_frame s) h
  where
    go : (t : Bool) → (until_of 13 s < length s → First s (until_of 13 s)) → cond t 0 (until_of 13 s + 1) < suc (length s)
        → (cond t (ended_by b (split s)) (joined_to b (frames_of s) (unfinished_of s))).frames
        ≡ take (cond t 0 (until_of 13 s + 1) + 1) (b ∷ s) ∷ frames_of (drop (cond t 0 (until_of 13 s + 1) + 1) (b ∷ s))
    go true f k = refl
    go false f k = rw (add-one (until_of 13 s + 1), f (omega arith))
