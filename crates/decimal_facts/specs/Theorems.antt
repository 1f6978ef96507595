-- What is proved here, each statement as a type; proofs/ has the proofs.
use Rattle.std.specs.Prelude.{◌≡◌, List, ℕ, ◌<◌, ◌*◌, ◌^◌, ◌+◌, ◌≤◌, ◌↔◌, ◌⊎◌, true, cond, Bool, length, Err, Ok, Some}
use Rattle.decimal.specs.Form.{scan_of, number_of}
use Rattle.decimal_facts.specs.Grammar.{Parts, Good, spelled_of, meaning}
use Rattle.decimal.specs.declared.Exact.{Exact}
use Rattle.decimal.specs.declared.Number.{Number}
use Rattle.decimal_facts.specs.Canonical.{Exactly, OutOfRange, TooSmall, TooLarge, SixDigits, Canonical, sent_of}
use Rattle.decimal.specs.Exact.{zero_number, normal_of, units}
use Rattle.decimal.specs.Number.{same_value, hundredths_of}
use Rattle.decimal_text.specs.Written.{written_of, two_decimals}
use Rattle.buffer.specs.Quoted.{bytes}
use Rattle.decimal.specs.declared.NumberError.{NumberError}

-- Each text of the form is read, as its value.
abbrev pub Complete : Type 0
Complete = (p : Parts) → Good p → scan_of (spelled_of p) ≡ Some (meaning p)

-- And what is read is a text of the form, with that value.
abbrev pub Sound : Type 0
Sound = (s : List ℕ) (x : Exact) → scan_of s ≡ Some x → (p : Parts) × Good p × (spelled_of p ≡ s) × (meaning p ≡ x)

-- SYNTAX is answered exactly where the text is not of the form
abbrev pub SyntaxExactly : Type 0
SyntaxExactly = (s : List ℕ) → (number_of s ≡ Err NumberError.Syntax) ↔ ((p : Parts) → Good p → spelled_of p ≡ s → ⊥)

-- a number is answered exactly where it is the canonical number of the text's value
abbrev pub ValueExactly : Type 0
ValueExactly = (p : Parts) (n : Number) → Good p → (number_of (spelled_of p) ≡ Ok n) ↔ Exactly (meaning p) n

-- "`-0` is zero.": zero is answered exactly where the digits before the exponent spell 0, whatever sign, point and exponent
abbrev pub ZeroExactly : Type 0
ZeroExactly = (p : Parts) → Good p → (number_of (spelled_of p) ≡ Ok zero_number) ↔ ((meaning p).digits ≡ 0)

-- and of no other text
abbrev pub RangeExactly : Type 0
RangeExactly = (s : List ℕ) → (number_of s ≡ Err NumberError.Range) ↔ ((p : Parts) × Good p × (spelled_of p ≡ s) × OutOfRange (meaning p))

-- "The value is exact.": a number is answered exactly where it is the canonical number of the value
abbrev pub ExactValue : Type 0
ExactValue = (x : Exact) (n : Number) → (normal_of x ≡ Ok n) ↔ Exactly x n

-- "It is zero or has its first nonzero digit at a place from 10^-9 to 10^9; else RANGE."
abbrev pub OutsideRange : Type 0
OutsideRange = (x : Exact) → (normal_of x ≡ Err NumberError.Range) ↔ ((0 < x.digits) × SixDigits x.digits × (TooSmall x ⊎ TooLarge x))

-- "`-0` is zero.": zero is answered exactly where the digits are 0, whatever the sign and the power of ten
abbrev pub IsZero : Type 0
IsZero = (x : Exact) → (normal_of x ≡ Ok zero_number) ↔ (x.digits ≡ 0)

-- two canonical numbers with the same value are one
abbrev pub Same : Type 0
Same = (a b : Number) → Canonical a → Canonical b → same_value a b ≡ true → a ≡ b

-- "whole hundredths": a number has a count of them exactly where that many hundredths are its size, and the count is one that its type holds
abbrev pub HundredthsExactly : Type 0
HundredthsExactly = (n : Number) (h : ℕ) → (hundredths_of n ≡ Some h) ↔ ((units n ≡ h * 10 ^ 12) × (h < 2 ^ 32))

-- what is written reads back as the same number
abbrev pub WrittenReads : Type 0
WrittenReads = (n : Number) → Canonical n → number_of (written_of n) ≡ Ok n

-- the written form has at most ten characters, and one more if the number is negative
abbrev pub WrittenLength : Type 0
WrittenLength = (n : Number) → length (written_of n) ≤ 10 + cond n.negative 1 0

-- "with two decimals": what is sent reads back as that many hundredths, and as negative where it is so and not zero
abbrev pub HundredthsRead : Type 0
HundredthsRead = (negative : Bool) (h : ℕ) → h < 100000
    → (n : Number) × (number_of (two_decimals negative h) ≡ Ok n) × (hundredths_of n ≡ Some h) × (0 < h → n.negative ≡ negative)

-- "973.4 is `9.734e2`, 1 is `1e0`"
abbrev pub Examples : Type 0
Examples = (sent_of (number_of (bytes "973.4")) ≡ bytes "9.734e2")
    × (sent_of (number_of (bytes "1")) ≡ bytes "1e0")
