-- Bytes split into frames, each up to and with its CR, and an unfinished end.
use Rattle.std.specs.Prelude.{cond, List, [], ◌∷◌, ℕ, eqb}

-- the whole frames in order, and the bytes after the last CR
pub record Split : Type 0 where
  pub frames : List (List ℕ)
  pub unfinished : List ℕ

-- a CR before bytes that are split: a frame of its own
abbrev pub ended_by : ℕ → Split → Split
ended_by b s = record { frames = (b ∷ []) ∷ s.frames; unfinished = s.unfinished }

-- any other byte before them belongs to the first frame, and to the unfinished end where there is no frame
unfoldable pub joined_to : ℕ → List (List ℕ) → List ℕ → Split
joined_to b [] end = record { frames = []; unfinished = b ∷ end }
joined_to b (f ∷ fs) end = record { frames = (b ∷ f) ∷ fs; unfinished = end }

unfoldable pub split : List ℕ → Split
split [] = record { frames = []; unfinished = [] }
split (b ∷ s) = cond (eqb b 13) (ended_by b (split s)) (joined_to b (split s).frames (split s).unfinished)

abbrev pub frames_of : List ℕ → List (List ℕ)
frames_of s = (split s).frames

abbrev pub unfinished_of : List ℕ → List ℕ
unfinished_of s = (split s).unfinished
