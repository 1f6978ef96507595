-- What inner functions promise; no public contract cites this file.
use Rattle.std.specs.Prelude.{◌≡◌, ◌⊎◌, ℕ, ◌*◌, ◌^◌, ◌≤◌}

-- r is m * 10 ^ d, or both are beyond a u32
abbrev pub Scaled : ℕ → ℕ → ℕ → Type 0
Scaled m d r = (r ≡ m * 10 ^ d) ⊎ ((4294967296 ≤ r) × (4294967296 ≤ m * 10 ^ d))
