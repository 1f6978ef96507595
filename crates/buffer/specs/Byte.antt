-- Bytes and lists of bytes.
use Rattle.std.specs.Prelude.{◌≡◌, Bool, true, false, cond, ◌&&◌, List, [], ◌∷◌, ℕ, ◌+◌, ◌-◌, ◌*◌, ◌/◌, ◌%◌, leb, eqb, get_or}

-- the byte at place i, and 0 past the end
abbrev pub at : List ℕ → ℕ → ℕ
at s i = get_or s i 0

-- from low to high, both included
unfoldable pub within : ℕ → ℕ → ℕ → Bool
within low high n = leb low n && leb n high

-- `0` to `9`
abbrev pub is_digit : ℕ → Bool
is_digit b = within 48 57 b

-- how many digits stand at the front
unfoldable pub leading : List ℕ → ℕ
leading [] = 0
leading (x ∷ s) = cond (is_digit x) (leading s + 1) 0

-- whether the text starts with the character b (no text has the character 0)
unfoldable pub starts_with : ℕ → List ℕ → Bool
starts_with b s = eqb (at s 0) b

-- whether p holds of each element
unfoldable pub every : {A : Type 0} → (A → Bool) → List A → Bool
every p [] = true
every p (x ∷ xs) = p x && every p xs

-- each byte is 32 to 126
abbrev pub Printed : List ℕ → Type 0
Printed s = every (within 32 126) s ≡ true

-- two texts are the same
unfoldable pub same_text : List ℕ → List ℕ → Bool
same_text [] [] = true
same_text [] (y ∷ t) = false
same_text (x ∷ s) [] = false
same_text (x ∷ s) (y ∷ t) = same_text s t && eqb x y

-- how many elements stand before the first b, or the end
unfoldable pub until_of : ℕ → List ℕ → ℕ
until_of b [] = 0
until_of b (x ∷ s) = cond (eqb x b) 0 (until_of b s + 1)

-- the number that a list of digits spells, after v
unfoldable pub numeral_from : ℕ → List ℕ → ℕ
numeral_from v [] = v
numeral_from v (x ∷ xs) = numeral_from (v * 10 + (x - 48)) xs

-- the number that a list of digits spells
abbrev pub numeral : List ℕ → ℕ
numeral s = numeral_from 0 s

-- the number that two bytes stand for, and four, the high byte first
abbrev pub pair_of : ℕ → ℕ → ℕ
pair_of high low = high * 256 + low

abbrev pub word_of : ℕ → ℕ → ℕ → ℕ → ℕ
word_of a b c d = a * 16777216 + b * 65536 + c * 256 + d

-- the same for the bytes from place i on
abbrev pub pair_at : List ℕ → ℕ → ℕ
pair_at s i = pair_of (at s i) (at s (i + 1))

abbrev pub word_at : List ℕ → ℕ → ℕ
word_at s i = word_of (at s i) (at s (i + 1)) (at s (i + 2)) (at s (i + 3))

-- the last digit of n as a character
abbrev pub digit : ℕ → ℕ
digit n = n % 10 + 48

-- n as two digits, and as three
abbrev pub digits2 : ℕ → List ℕ
digits2 n = digit (n / 10) ∷ digit n ∷ []

abbrev pub digits3 : ℕ → List ℕ
digits3 n = digit (n / 100) ∷ digits2 n
