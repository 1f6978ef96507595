-- Document 01, "Text frames": the checksum.
use Rattle.std.specs.Prelude.{ℕ, ◌+◌, ◌%◌, List, [], ◌∷◌, ◌++◌}

-- the sum of a list
unfoldable pub sum_of : List ℕ → ℕ
sum_of [] = 0
sum_of (x ∷ xs) = x + sum_of xs

-- "the sum of all bytes before it, mod 64, plus 64"
unfoldable pub checksum_of : List ℕ → ℕ
checksum_of body = sum_of body % 64 + 64

-- the checksum of a body, and CR
unfoldable pub end_of : List ℕ → List ℕ
end_of body = checksum_of body ∷ 13 ∷ []

-- a body with its checksum and CR
unfoldable pub closed : List ℕ → List ℕ
closed body = body ++ end_of body
