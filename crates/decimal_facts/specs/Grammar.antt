-- Document 01, "Decimal numbers": the form as a grammar, and the value of a text of the form.
use Rattle.std.specs.Prelude.{◌≡◌, Bool, true, cond, List, [], ◌∷◌, ◌++◌, ◌⊎◌, ℕ, ◌+◌, ◌≤◌, length}
use Rattle.buffer.specs.Byte.{is_digit, every, numeral}
use Rattle.decimal.specs.declared.Exact.{Exact}

-- the parts of a text: digits before the point and after it, the mark of the exponent, whether a `-` follows it, and its digits. An empty
-- fraction means no point, an empty power no exponent
pub record Parts : Type 0 where
  pub negative : Bool
  pub whole : List ℕ
  pub fraction : List ℕ
  pub mark : ℕ
  pub below : Bool
  pub power : List ℕ

-- "an optional `-`"
unfoldable pub dash : Bool → List ℕ
dash b = cond b (45 ∷ []) []

-- "optionally `.` and digits"
unfoldable pub point : List ℕ → List ℕ
point [] = []
point (x ∷ s) = 46 ∷ x ∷ s

-- "optionally `e` or `E`, an optional `-` and one or two digits"
unfoldable pub exponent : ℕ → Bool → List ℕ → List ℕ
exponent mark below [] = []
exponent mark below (x ∷ s) = mark ∷ dash below ++ x ∷ s

-- "an optional `-`, digits, optionally `.` and digits, optionally `e` or `E`, an optional `-` and one or two digits"
unfoldable pub spelled_of : Parts → List ℕ
spelled_of p = dash p.negative ++ p.whole ++ point p.fraction ++ exponent p.mark p.below p.power

-- "Each digit group has at least one; at most six digits stand before the exponent, leading zeros included." The mark is `e` or `E`
pub record Good (p : Parts) : Type 0 where
  pub whole_digits : every is_digit p.whole ≡ true
  pub fraction_digits : every is_digit p.fraction ≡ true
  pub power_digits : every is_digit p.power ≡ true
  pub some : 1 ≤ length p.whole
  pub six : length p.whole + length p.fraction ≤ 6
  pub two : length p.power ≤ 2
  pub marked : (p.mark ≡ 101) ⊎ (p.mark ≡ 69)

-- the value: all the digits as one number, times 10 ^ up, over 10 ^ down
unfoldable pub meaning : Parts → Exact
meaning p =
    record {
      negative = p.negative;
      digits = numeral (p.whole ++ p.fraction);
      up = cond p.below 0 (numeral p.power);
      down = length p.fraction + cond p.below (numeral p.power) 0;
    }
