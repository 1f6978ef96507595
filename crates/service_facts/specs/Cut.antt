-- The words of the laws of splitting: where bytes are cut, bytes with no CR, and frames with one CR each.
use Rattle.std.specs.Prelude.{◌≡◌, true, false, ◌⊎◌, List, [], ◌∷◌, ◌++◌, ℕ, eqb}
use Rattle.service.specs.Split.{Split}

-- bytes a, then bytes b: the frames of a, and then those of the unfinished end of a followed by b
abbrev pub cut_at : List (List ℕ) → Split → Split
cut_at fs s = record { frames = fs ++ s.frames; unfinished = s.unfinished }

-- bytes with no CR
abbrev pub Open : List ℕ → Type 0
Open [] = Unit {0}
Open (b ∷ s) = (eqb b 13 ≡ false) × Open s

-- a frame: one CR, at its end
abbrev pub Closed : List ℕ → Type 0
Closed [] = ⊥
Closed (b ∷ f) = ((eqb b 13 ≡ true) × (f ≡ [])) ⊎ ((eqb b 13 ≡ false) × Closed f)

abbrev pub AllClosed : List (List ℕ) → Type 0
AllClosed [] = Unit {0}
AllClosed (f ∷ fs) = Closed f × AllClosed fs
