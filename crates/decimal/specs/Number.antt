-- Numbers by value.
use Rattle.std.specs.Prelude.{Bool, cond, not, [], ◌∷◌, ℕ, ◌+◌, ◌/◌, ◌%◌, ◌^◌, ltb, leb, eqb, None, Option, Some}
use Rattle.buffer.specs.First.{◌⇒◌, first}
use Rattle.decimal.specs.Exact.{units}
use Rattle.decimal.specs.declared.Number.{Number}

-- a number's value is plus - minus, in 10^-14: one of the two is 0
unfoldable pub plus : Number → ℕ
plus n = cond n.negative 0 (units n)

unfoldable pub minus : Number → ℕ
minus n = cond n.negative (units n) 0

-- a's value is below b's
unfoldable pub below_of : Number → Number → Bool
below_of a b = ltb (plus a + minus b) (plus b + minus a)

-- a and b have the same value
unfoldable pub same_value : Number → Number → Bool
same_value a b = eqb (plus a + minus b) (plus b + minus a)

-- a count that the type of a count, a u32, can hold: no limit of document 01's on hundredths is near its end
unfoldable pub counted_of : ℕ → Option ℕ
counted_of h = first (leb (2 ^ 32) h ⇒ None ∷ []) (Some h)

-- "whole hundredths": how many hundredths a number's size is, where they are whole
unfoldable pub hundredths_of : Number → Option ℕ
hundredths_of n = first (not (eqb (units n % 10 ^ 12) 0) ⇒ None ∷ []) (counted_of (units n / 10 ^ 12))
