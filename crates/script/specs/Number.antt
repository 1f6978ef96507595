-- The numbers of a script, the high byte first.
use Rattle.std.specs.Prelude.{List, [], ◌∷◌, ℕ, ◌/◌, ◌%◌}

-- a number as two bytes, and as four
abbrev pub pair_bytes : ℕ → List ℕ
pair_bytes n = n / 256 ∷ n % 256 ∷ []

abbrev pub word_bytes : ℕ → List ℕ
word_bytes n = n / 16777216 ∷ n / 65536 % 256 ∷ n / 256 % 256 ∷ n % 256 ∷ []
