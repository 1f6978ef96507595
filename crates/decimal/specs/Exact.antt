-- Exact decimal values and the canonical number of each.
use Rattle.std.specs.Prelude.{Bool, true, false, not, [], ◌∷◌, ℕ, zero, suc, ◌+◌, ◌-◌, ◌*◌, ◌/◌, ◌%◌, ◌^◌, ltb, leb, eqb, Err, Ok, Result}
use Rattle.buffer.specs.First.{◌⇒◌, first}
use Rattle.decimal.specs.declared.Number.{Number}
use Rattle.decimal.specs.declared.Exact.{Exact}
use Rattle.decimal.specs.declared.NumberError.{NumberError}

-- An Exact x is the value digits * 10 ^ up / 10 ^ down, negated if it is negative.
-- A Number n is the value mantissa * 10 ^ place / 10 ^ 14, negated if it is negative: its size in 10^-14
unfoldable pub units : Number → ℕ
units n = n.mantissa * 10 ^ n.place

abbrev pub zero_number : Number
zero_number = record { negative = false; mantissa = 0; place = 0 }

-- how many decimal digits n has: one if it is below 10, which `last` says, and else one more than its tens have. (n steps are always enough)
abbrev pub digits_in : ℕ → Bool → ℕ → ℕ
digits_in zero last n = 1
digits_in (suc steps) true n = 1
digits_in (suc steps) false n = digits_in steps (ltb (n / 10) 10) (n / 10) + 1

unfoldable pub size_of : ℕ → ℕ
size_of n = digits_in n (ltb n 10) n

-- The canonical number of a value: six digits, the first not zero, and the first one's place from 10^-9, which is 0, to 10^9, which is 18.
-- "The value is exact. It is zero or has its first nonzero digit at a place from 10^-9 to 10^9; else RANGE." A value that needs over six
-- digits has no text of the form: SYNTAX. (The first of z digits stands at 10 ^ (z - 1 + up - down).)
unfoldable pub normal_of : Exact → Result Number NumberError
normal_of x =
    let z = size_of x.digits in
    first
    (eqb x.digits 0 ⇒ Ok zero_number
    ∷ not (eqb (x.digits * 10 ^ 6 % 10 ^ z) 0) ⇒ Err NumberError.Syntax
    ∷ ltb (z + 8 + x.up) x.down ⇒ Err NumberError.Range
    ∷ leb (x.down + 19) (z + 8 + x.up) ⇒ Err NumberError.Range
    ∷ [])
    (Ok (record { negative = x.negative; mantissa = x.digits * 10 ^ 6 / 10 ^ z; place = z + 8 + x.up - x.down }))
