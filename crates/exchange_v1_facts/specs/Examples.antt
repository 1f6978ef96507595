-- What worked cases are asked: measured pressures, and a request for the pressure.
use Rattle.std.specs.Prelude.{false, List, ℕ}
use Rattle.buffer.specs.Quoted.{bytes}
use Rattle.decimal.specs.declared.Number.{Number}

-- six digits, and the first one's place: 9 is the exponent 0
abbrev pub number : ℕ → ℕ → Number
number mantissa place = record { negative = false; mantissa = mantissa; place = place }

-- `M` to address 1: the sum of its bytes is 222, which is 30 mod 64, and 30 + 64 is `^`
abbrev pub asked : List ℕ
asked = bytes "001M^\r"
