-- Document 01, "Decimal numbers": canonical numbers, and which values have one.
use Rattle.std.specs.Prelude.{◌≡◌, ◌⊎◌, ℕ, ◌+◌, ◌*◌, ◌^◌, ◌<◌, ◌≤◌, List, [], Err, Ok, Result}
use Rattle.decimal.specs.Exact.{units, zero_number}
use Rattle.decimal_text.specs.Written.{written_of}
use Rattle.decimal.specs.declared.Number.{Number}
use Rattle.decimal.specs.declared.Exact.{Exact}
use Rattle.decimal.specs.declared.NumberError.{NumberError}

-- six digits, the first not zero, and that one "at a place from 10^-9", which is 0, "to 10^9", which is 18
pub record Full (n : Number) : Type 0 where
  pub low : 100000 ≤ n.mantissa
  pub high : n.mantissa < 1000000
  pub place : n.place ≤ 18

-- "It is zero or" that
abbrev pub Canonical : Number → Type 0
Canonical n = (n ≡ zero_number) ⊎ Full n

-- n is the canonical number of x's value: its size units n / 10 ^ 14 is digits * 10 ^ up / 10 ^ down, and its sign is x's
pub record Exactly (x : Exact) (n : Number) : Type 0 where
  pub canonical : Canonical n
  pub size : units n * 10 ^ x.down ≡ x.digits * 10 ^ x.up * 10 ^ 14
  pub sign : 0 < x.digits → n.negative ≡ x.negative

-- x's size is below 10^-9
abbrev pub TooSmall : Exact → Type 0
TooSmall x = x.digits * 10 ^ (x.up + 9) < 10 ^ x.down

-- x's size is at least 10^10
abbrev pub TooLarge : Exact → Type 0
TooLarge x = 10 ^ (x.down + 10) ≤ x.digits * 10 ^ x.up

-- the value is not zero, and its first nonzero digit stands below 10^-9 or above 10^9
abbrev pub OutOfRange : Exact → Type 0
OutOfRange x = (0 < x.digits) × (TooSmall x ⊎ TooLarge x)

-- d is at most six digits, and zeros
abbrev pub SixDigits : ℕ → Type 0
SixDigits d = (m : ℕ) × (k : ℕ) × (m < 10 ^ 6) × (d ≡ m * 10 ^ k)

-- what is answered for x, and what is then known of x
pub data ParsesAs (x : Exact) : Result Number NumberError → Type 0 where
  nothing : x.digits ≡ 0 → ParsesAs x (Ok zero_number)
  number : (n : Number) → 0 < x.digits → Exactly x n → ParsesAs x (Ok n)
  outside : 0 < x.digits → SixDigits x.digits → TooSmall x ⊎ TooLarge x → ParsesAs x (Err NumberError.Range)
  uneven : 0 < x.digits → (SixDigits x.digits → ⊥) → ParsesAs x (Err NumberError.Syntax)

-- what a text is sent as, once read
abbrev pub sent_of : Result Number NumberError → List ℕ
sent_of (Ok n) = written_of n
sent_of (Err NumberError.Syntax) = []
sent_of (Err NumberError.Range) = []
