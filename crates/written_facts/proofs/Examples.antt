-- The worked cases, computed.
use mathlib.Core.Path.{◌≡◌, refl}
use Prim.Native.Nat.{ℕ}
use native.Mathlib.Omega.{arith}
use Rattle.decimal.specs.Exact.{units}
use Rattle.decimal.specs.Number.{plus, minus, same_value}
use Rattle.written_facts.specs.Theorems.{AllWritten, OtherNumber, OtherForm, ByValue}
use Rattle.request_writer.proofs.Open.{request_writer_open}

pub all_written : AllWritten
unfolding request_writer_open
all_written = refl

-- requests that are not the same: another number, another form of ST
pub other_number : OtherNumber
unfolding same_value plus minus units
other_number e = absurd (let z : ◌≡◌ {A = ℕ} 0 1 = cc in omega arith)

pub other_form : OtherForm
other_form e = e

-- and the same by value: 5 and 5.0
pub same_number : ByValue
unfolding same_value plus minus units
same_number = refl
