-- When two decimals have the same value.
use Rattle.std.specs.Prelude.{◌≡◌, ◌*◌, ◌^◌, None, Option, Some}
use Rattle.decimal.specs.declared.Exact.{Exact}

-- two values are the same: digits * 10 ^ up / 10 ^ down, each multiplied by the other's 10 ^ down
pub record SameValue (x y : Exact) : Type 0 where
  pub sign : y.negative ≡ x.negative
  pub size : y.digits * 10 ^ y.up * 10 ^ x.down ≡ x.digits * 10 ^ x.up * 10 ^ y.down

-- a text is read, as this value
abbrev pub ReadAs : Exact → Option Exact → Type 0
ReadAs x (Some y) = SameValue x y
ReadAs x None = ⊥
