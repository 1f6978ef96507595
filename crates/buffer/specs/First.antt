-- The first that applies, in this order: a list of tests, each with what it gives, and what is given where none applies.
use Rattle.std.specs.Prelude.{Bool, true, false, List, [], ◌∷◌}

-- one row: a test, and what it gives
pub data Row (A : Type 0) : Type 0 where
  ◌⇒◌ : Bool → A → Row A

infixr 75 ◌⇒◌
-- a where the test holds, and b otherwise
unfoldable pub pick : {A : Type 0} → Bool → A → A → A
pick true a b = a
pick false a b = b

-- what the first row gives whose test holds; d where none does
abbrev pub first : {A : Type 0} → List (Row A) → A → A
first [] d = d
first ((t ⇒ a) ∷ rows) d = pick t a (first rows d)
