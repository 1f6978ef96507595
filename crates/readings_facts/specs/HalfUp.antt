-- Document 01, "V1 on the same settings": "rounded half up to four digits".
use Rattle.std.specs.Prelude.{◌≡◌, List, ◌⊎◌, ℕ, ◌+◌, ◌*◌, ◌<◌, ◌≤◌}
use Rattle.readings.specs.Measure.{six_of}

-- q hundreds are nearest to m, and the upper of two that are as near: m is at least q * 100 - 50, and below q * 100 + 50
pub record Nearest (m q : ℕ) : Type 0 where
  pub low : q * 100 ≤ m + 50
  pub high : m < q * 100 + 50

-- the text of a number's four digits and exponent: q itself; or, where the carry makes it 10000, 1000 and the exponent plus 1
abbrev pub Digits : ℕ → ℕ → List ℕ → Type 0
Digits q e t = ((q ≤ 9999) × (t ≡ six_of q e)) ⊎ ((q ≡ 10000) × (t ≡ six_of 1000 (e + 1)))
