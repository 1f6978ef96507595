-- Document 01, "Decimal numbers": the form, read from the front; each definition is given what is left of the text. It goes by the reader's
-- steps. What to believe is the grammar, `decimal_facts/specs/Grammar`: its texts are exactly those that are read here, each with its value
-- (`decimal_facts/specs/Theorems: Complete, Sound, SyntaxExactly`).
use Rattle.std.specs.Prelude.{Bool, true, false, not, ◌||◌, List, [], ◌∷◌, ℕ, ◌+◌, ◌*◌, ◌^◌, ltb, leb, eqb, length, take, drop, Err, None, Ok, Option, Result, Some}
use Rattle.buffer.specs.First.{◌⇒◌, first}
use Rattle.buffer.specs.Byte.{leading, starts_with, numeral}
use Rattle.decimal.specs.Exact.{normal_of}
use Rattle.decimal.specs.declared.Exact.{Exact}
use Rattle.decimal.specs.declared.Number.{Number}
use Rattle.decimal.specs.declared.NumberError.{NumberError}
use Rattle.refusals.specs.Number.{refusal_number}
use Rattle.refusals.specs.declared.Refusal.{Refusal}

-- the exact value of a whole number
abbrev pub whole : Bool → ℕ → Exact
whole negative n = record { negative = negative; digits = n; up = 0; down = 0 }

-- "one or two digits", and no more. `below` says that a `-` stood before them
unfoldable pub power_of : List ℕ → Exact → Bool → Option Exact
power_of s x below =
    let n = leading s in
    let p = numeral (take n s) in
    first
    (ltb n 1 ⇒ None
    ∷ leb 3 n ⇒ None
    ∷ ltb n (length s) ⇒ None
    ∷ below ⇒ Some (record { negative = x.negative; digits = x.digits; up = 0; down = x.down + p })
    ∷ [])
    (Some (record { negative = x.negative; digits = x.digits; up = p; down = x.down }))

-- "optionally `e` or `E`, an optional `-`"
unfoldable pub exponent_of : List ℕ → Exact → Option Exact
exponent_of s x =
    let t = drop 1 s in
    first
    (eqb (length s) 0 ⇒ Some x
    ∷ not (starts_with 101 s || starts_with 69 s) ⇒ None
    ∷ starts_with 45 t ⇒ power_of (drop 1 t) x true
    ∷ [])
    (power_of t x false)

-- after the point: "digits". "at most six digits stand before the exponent": n of them, which x has, stand before the point
unfoldable pub fraction_of : List ℕ → Exact → ℕ → Option Exact
fraction_of s x n =
    let k = leading s in
    first
    (ltb k 1 ⇒ None
    ∷ leb 7 (n + k) ⇒ None
    ∷ [])
    (exponent_of (drop k s) (record { negative = x.negative; digits = x.digits * 10 ^ k + numeral (take k s); up = 0; down = k }))

-- "digits, optionally `.` and digits"
unfoldable pub unsigned_of : List ℕ → Bool → Option Exact
unsigned_of s negative =
    let n = leading s in
    let x = whole negative (numeral (take n s)) in
    let t = drop n s in
    first
    (ltb n 1 ⇒ None
    ∷ leb 7 n ⇒ None
    ∷ starts_with 46 t ⇒ fraction_of (drop 1 t) x n
    ∷ [])
    (exponent_of t x)

-- "an optional `-`": the exact value of a text of the form
unfoldable pub scan_of : List ℕ → Option Exact
scan_of s = first (starts_with 45 s ⇒ unsigned_of (drop 1 s) true ∷ []) (unsigned_of s false)

-- what a reader answers: the canonical number of the exact value, SYNTAX where the text is not of the form, else RANGE
unfoldable pub parsed_of : Option Exact → Result Number NumberError
parsed_of None = Err NumberError.Syntax
parsed_of (Some x) = normal_of x

-- the refusal of what is no number
abbrev pub refusal_of : NumberError → Refusal
refusal_of NumberError.Syntax = Refusal.Syntax
refusal_of NumberError.Range = Refusal.Range

-- document 01's number for each answer: 0 where it is a number
abbrev pub parsed_number : Result Number NumberError → ℕ
parsed_number (Ok n) = 0
parsed_number (Err e) = refusal_number (refusal_of e)

unfoldable pub number_of : List ℕ → Result Number NumberError
number_of s = parsed_of (scan_of s)
