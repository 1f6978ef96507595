-- Document 01, "Decimal numbers": the value is exact; RANGE; `-0` is zero; one value has one number; whole hundredths.
use mathlib.Core.Path.{◌≡◌}
use mathlib.Core.Logic.{◌↔◌}
use Prim.Native.Nat.{◌+◌, ◌^◌, ◌<◌}
use native.Mathlib.Omega.{arith}
use borrow.Author.Tests.{eqb-true}
use Rattle.std.specs.Prelude.{Err}
use Rattle.decimal.specs.Exact.{units, zero_number, normal_of}
use Rattle.decimal.specs.Number.{plus, minus, same_value}
use Rattle.decimal.specs.declared.Exact.{Exact}
use Rattle.decimal_facts.specs.Canonical.{SixDigits, ParsesAs}
use Rattle.decimal_facts.proofs.Lemmas.Rows.{rows, signs, canonical_same, answered_exactly, exactly_answered, range_outside, outside_range, syntax_six, six_syntax, zero_exactly, exactly_none, hundredths_of_lem, counted}
use Rattle.decimal_facts.specs.Theorems.{ExactValue, OutsideRange, IsZero, Same, HundredthsExactly}
use Rattle.decimal.specs.declared.NumberError.{NumberError}

-- the whole of `normal_of`: zero; or the canonical number of the value; or RANGE; or, where the value needs over six digits, SYNTAX
pub answers : (x : Exact) → ParsesAs x (normal_of x)
answers x = rows x

-- "The value is exact.": a number is answered exactly where it is the canonical number of the value
pub exact : ExactValue
exact x n = (answered_exactly x n (normal_of x) (answers x), exactly_answered x n (normal_of x) (answers x))

-- "It is zero or has its first nonzero digit at a place from 10^-9 to 10^9; else RANGE."
pub range : OutsideRange
range x = (range_outside x (normal_of x) (answers x), λ w. outside_range x (normal_of x) w.0 w.1 (answers x) w.2)

-- and SYNTAX exactly where six digits are not enough
pub syntax : (x : Exact) → (normal_of x ≡ Err NumberError.Syntax) ↔ ((0 < x.digits) × (SixDigits x.digits → ⊥))
syntax x = (syntax_six x (normal_of x) (answers x), λ w. six_syntax x (normal_of x) w.0 (answers x) w.1)

-- so never where the digits are at most six
pub no_syntax : (x : Exact) → x.digits < 10 ^ 6 → normal_of x ≡ Err NumberError.Syntax → ⊥
no_syntax x h e = ((syntax x).0 e).1 (x.digits, 0, h, omega arith)

-- "`-0` is zero.": zero is answered exactly where the digits are 0, whatever the sign and the power of ten
pub is_zero : IsZero
is_zero x = (λ e. exactly_none x ((exact x zero_number).0 e), λ e. (exact x zero_number).1 (zero_exactly x e))

-- two canonical numbers with the same value are one
pub same : Same
unfolding same_value plus minus
same a b f g e =
    let w = signs a.negative b.negative (units a) (units b) (eqb-true (plus a + minus b) (plus b + minus a) e) in
    canonical_same a b f g w.0 w.1

-- "whole hundredths": a number has a count of them exactly where that many hundredths are its size, and the count is one that its type holds
pub hundredths_exactly : HundredthsExactly
hundredths_exactly n h = (λ e. rw e at (counted n), λ w. hundredths_of_lem n h w.0 w.1)
