-- Decimals as people write them: document 01's form ("Decimal numbers") without its limit of six digits before the exponent, by their value. A value that
-- needs over six digits is none, and so is one of over 100 digits before or after the point.
use Rattle.std.specs.Prelude.{Bool, true, false, List, [], ◌∷◌, ◌++◌, ℕ, ◌+◌, ◌-◌, ltb, leb, eqb, length, take, drop, None, Option, Some}
use Rattle.buffer.specs.First.{◌⇒◌, first}
use Rattle.buffer.specs.Byte.{numeral, leading, starts_with}
use Rattle.decimal.specs.Digits.{significant}
use Rattle.decimal.specs.Form.{whole, exponent_of}
use Rattle.decimal.specs.declared.Exact.{Exact}

-- a value times 10 ^ up / 10 ^ down
unfoldable pub moved_of : ℕ → ℕ → Option Exact → Option Exact
moved_of up down (Some x) = Some (record { negative = x.negative; digits = x.digits; up = x.up + up; down = x.down + down })
moved_of up down None = None

-- n * 10 ^ up / 10 ^ down, times the power that the text e says; e is what follows the digits, nothing or an exponent
unfoldable pub decimal_value : Bool → ℕ → ℕ → ℕ → List ℕ → Option Exact
decimal_value negative n up down e = first (leb 1000000 n ⇒ None ∷ []) (moved_of up down (exponent_of e (whole negative n)))

-- the digits w before the point and f after it: zeros at the end are not among those that count
unfoldable pub spelled_of : Bool → List ℕ → List ℕ → List ℕ → Option Exact
spelled_of negative w f e =
    let m = significant w in
    let k = significant f in
    first
    (leb 101 (length w) ⇒ None
    ∷ leb 101 (length f) ⇒ None
    ∷ eqb k 0 ⇒ decimal_value negative (numeral (take m w)) (length w - m) 0 e
    ∷ [])
    (decimal_value negative (numeral (w ++ take k f)) 0 k e)

-- after the point: "digits"
unfoldable pub pointed_of : Bool → List ℕ → List ℕ → Option Exact
pointed_of negative w s =
    let k = leading s in
    first (ltb k 1 ⇒ None ∷ []) (spelled_of negative w (take k s) (drop k s))

-- "digits, optionally `.` and digits"
unfoldable pub unsigned_of : Bool → List ℕ → Option Exact
unsigned_of negative s =
    let n = leading s in
    let t = drop n s in
    first
    (ltb n 1 ⇒ None
    ∷ starts_with 46 t ⇒ pointed_of negative (take n s) (drop 1 t)
    ∷ [])
    (spelled_of negative (take n s) [] t)

-- "an optional `-`"
unfoldable pub decimal_of : List ℕ → Option Exact
decimal_of s = first (starts_with 45 s ⇒ unsigned_of true (drop 1 s) ∷ []) (unsigned_of false s)
