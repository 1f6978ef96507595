-- Document 01, "Decimal numbers": the texts that are sent.
use Rattle.std.specs.Prelude.{Bool, cond, ◌&&◌, List, [], ◌∷◌, ◌++◌, ℕ, ◌-◌, ◌/◌, ltb, eqb, length}
use Rattle.buffer.specs.First.{◌⇒◌, first}
use Rattle.buffer.specs.Byte.{digit, digits2, digits3}
use Rattle.decimal.specs.declared.Number.{Number}

-- `-` if negative
unfoldable pub sign_text : Bool → List ℕ
sign_text negative = cond negative (45 ∷ []) []

-- a text of digits after its trailing zeros went
unfoldable pub trimmed : List ℕ → List ℕ
trimmed [] = []
trimmed (x ∷ s) = cond (eqb x 48 && eqb (length (trimmed s)) 0) [] (x ∷ trimmed s)

-- "`.` and further digits if any are left"
unfoldable pub pointed : List ℕ → List ℕ
pointed [] = []
pointed (x ∷ s) = 46 ∷ x ∷ s

-- the five digits of a mantissa after its first
abbrev pub digits5 : ℕ → List ℕ
digits5 m = digit (m / 10000) ∷ digit (m / 1000) ∷ digits3 m

-- "the exponent without leading zeros": place 9 is the exponent 0
unfoldable pub exponent_text : ℕ → List ℕ
exponent_text place = cond (ltb place 9) (45 ∷ digit (9 - place) ∷ []) (digit (place - 9) ∷ [])

-- "Written: `0`, or, after `-` if negative, one nonzero digit, then `.` and further digits if any are left after trailing zeros go, then `e`
-- and the exponent without leading zeros"
unfoldable pub written_of : Number → List ℕ
written_of n =
    first
    (eqb n.mantissa 0 ⇒ (48 ∷ [])
    ∷ [])
    (sign_text n.negative ++ (digit (n.mantissa / 100000) ∷ []) ++ pointed (trimmed (digits5 n.mantissa)) ++ (101 ∷ []) ++ exponent_text n.place)

-- a whole number below 1000 with "no needless leading zero"
unfoldable pub whole_text : ℕ → List ℕ
whole_text n = first (ltb n 10 ⇒ (digit n ∷ []) ∷ ltb n 100 ⇒ digits2 n ∷ []) (digits3 n)

-- "with two decimals and no needless leading zero". "`-0` is zero."
unfoldable pub two_decimals : Bool → ℕ → List ℕ
two_decimals negative h = cond (eqb h 0) [] (sign_text negative) ++ whole_text (h / 100) ++ (46 ∷ []) ++ digits2 h
