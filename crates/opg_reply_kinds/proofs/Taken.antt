-- A value is taken out of a reply of the expected kind, and of no other.
use mathlib.Core.Path.{◌≡◌, refl}
use mathlib.Core.Bool.{false}
use Prim.Native.Nat.{◌+◌}
use native.Mathlib.Omega.{arith}
use borrow.Author.Tests.{eq-eqb, ne_eqb}
use lib.Dec.{eqb}
use Rattle.std.proofs.Common.{Result, Ok}
use Rattle.buffer.specs.First.{pick}
use Rattle.buffer.specs.Byte.{at}
use Rattle.buffer.proofs.Rules.{each}
use Rattle.opg_replies.specs.Reply.{read_shown}
use Rattle.opg_replies.specs.declared.Reply.{Reply}
use Rattle.opg_replies.specs.declared.Reply.TheVariants.{Pressure, Unit, Done, Error}
use Rattle.opg_reply_kinds.specs.Kind.{kind_of, no_value, no_value_number, expected, expected_shown}
use Rattle.opg_reply_kinds.specs.Theorems.{TakenExactly, TakenValue, AsListed}
use Rattle.opg_reply_kinds.specs.declared.NoValue.{NoValue}

-- a reply that was read has number 20
read_20 : (r : Reply) → at (read_shown (Ok r)) 0 ≡ 20
unfolding read_shown
read_20 (Pressure p) = refl
read_20 (Unit u) = refl
read_20 Done = refl
read_20 (Error e) = refl

no_value_is : (r : Reply) → eqb (no_value_number (no_value r)) 20 ≡ false
unfolding no_value no_value_number read_shown pick
no_value_is (Pressure p) = refl
no_value_is (Unit u) = refl
no_value_is Done = refl
no_value_is (Error e) = ne_eqb (1000 + e) 20 (λ same. omega arith)

pub taken_exactly : TakenExactly
unfolding expected expected_shown
taken_exactly k r =
    let P : Result Reply NoValue → Type 0 = λ (x : Result Reply NoValue). eqb (at (expected_shown x) 0) 20 ≡ eqb (kind_of r) k in
    each P (eqb (kind_of r) k) (Ok r) _ (λ e. rw (read_20 r, e)) (λ e. rw e (no_value_is r))

pub taken_value : TakenValue
unfolding expected expected_shown pick
taken_value k r e = rw (eq-eqb (kind_of r) k e)

pub as_listed : AsListed
unfolding expected expected_shown no_value no_value_number read_shown pick
as_listed (Pressure p) = refl
as_listed (Unit u) = refl
as_listed Done = refl
as_listed (Error e) = refl
