-- Digits at the end of a text.
use Rattle.std.specs.Prelude.{List, [], ◌∷◌, ℕ, ◌+◌, ltb, eqb}
use Rattle.buffer.specs.First.{◌⇒◌, first}

-- how many characters there are up to the last that is not `0`
unfoldable pub significant : List ℕ → ℕ
significant [] = 0
significant (x ∷ s) = first (ltb 0 (significant s) ⇒ (significant s + 1) ∷ eqb x 48 ⇒ 0 ∷ []) 1
