-- Document 01, "V1 on the same settings": the data that `M` sends.
use Rattle.std.specs.Prelude.{List, [], ◌∷◌, ◌++◌, ℕ, ◌+◌, ◌/◌, leb}
use Rattle.buffer.specs.First.{◌⇒◌, first}
use Rattle.buffer.specs.Byte.{digit, digits2, digits3}
use Rattle.buffer.specs.Quoted.{bytes}
use Rattle.decimal.specs.declared.Number.{Number}
use Rattle.readings.specs.declared.Pressure.{Pressure}
use Rattle.readings.specs.declared.Pressure.TheVariants.{Measured, UnderRange, OverRange, Faulty}

-- "four mantissa digits and exponent plus 20"
unfoldable pub six_of : ℕ → ℕ → List ℕ
six_of mantissa exponent = (digit (mantissa / 1000) ∷ digits3 mantissa) ++ digits2 exponent

-- "rounded half up to four digits": the number has six, of which two go; a carry into a fifth digit raises the exponent. Place 9 is the
-- exponent 0, which is sent as 20.
unfoldable pub rounded_text : Number → List ℕ
rounded_text n =
    let q = (n.mantissa + 50) / 100 in
    first
    (leb 10000 q ⇒ six_of (q / 10) (n.place + 11 + 1)
    ∷ [])
    (six_of q (n.place + 11))

-- "`000000` under, `999999` over"; of a faulty sensor "`M` with the data `1`"
unfoldable pub measure_text : Pressure → List ℕ
measure_text (Measured n) = rounded_text n
measure_text UnderRange = six_of 0 0
measure_text OverRange = six_of 9999 99
measure_text Faulty = bytes "1"
