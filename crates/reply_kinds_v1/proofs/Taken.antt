-- "A reply of another kind never yields a value", for every kind and every reply.
use mathlib.Core.Path.{◌≡◌, refl}
use mathlib.Core.Bool.{false}
use Prim.Native.Nat.{ℕ}
use borrow.Author.Tests.{eq-eqb}
use lib.Dec.{eqb}
use Rattle.std.specs.Prelude.{Ok, Result}
use Rattle.buffer.specs.First.{pick}
use Rattle.buffer.specs.Byte.{at}
use Rattle.buffer.proofs.Rules.{each}
use Rattle.replies_v1.specs.declared.ReplyV1.{ReplyV1}
use Rattle.replies_v1.specs.declared.ReplyV1.TheVariants.{Reads, UnderRange, OverRange, Factor, Unit, Done, Error}
use Rattle.replies_v1.specs.ReplyV1.{read_shown_v1}
use Rattle.reply_kinds_v1.specs.Kind.{kind_of, no_value, no_pressure, expected}
use Rattle.reply_kinds_v1.specs.Theorems.{TakenExactly, TakenValue, AsListed}
use Rattle.refusals.specs.Number.{refusal_number}
use Rattle.refusals.specs.declared.Refusal.{Refusal}

-- a reply that was read has number 0
read_0 : (r : ReplyV1) → at (read_shown_v1 (Ok r)) 0 ≡ 0
unfolding read_shown_v1
read_0 (Reads mantissa exponent) = refl
read_0 UnderRange = refl
read_0 OverRange = refl
read_0 (Factor n) = refl
read_0 (Unit u) = refl
read_0 Done = refl
read_0 (Error e) = refl

no_value_is : (r : ReplyV1) → eqb (refusal_number (no_value r)) 0 ≡ false
unfolding no_value
no_value_is r = each (λ (k : Refusal). eqb (refusal_number k) 0 ≡ false) _ _ _ (λ _. refl) (λ _. refl)

no_pressure_is : (r : ReplyV1) → eqb (refusal_number (no_pressure r)) 0 ≡ false
unfolding no_pressure
no_pressure_is r =
    let P : Refusal → Type 0 = λ (k : Refusal). eqb (refusal_number k) 0 ≡ false in
    each P _ _ _ (λ _. refl) (λ _. each P _ _ _ (λ _. refl) (λ _. no_value_is r))

-- a value is taken out exactly of a reply of the expected kind
pub taken_exactly : TakenExactly
unfolding expected read_shown_v1
taken_exactly k r =
    let P : Result ReplyV1 Refusal → Type 0 = λ (x : Result ReplyV1 Refusal). eqb (at (read_shown_v1 x) 0) 0 ≡ eqb (kind_of r) k in
    each P (eqb (kind_of r) k) (Ok r) _ (λ e. rw (read_0 r, e)) (λ e.
    rw e (each (λ (x : Result ReplyV1 Refusal). eqb (at (read_shown_v1 x) 0) 0 ≡ false) (eqb k 1) _ _ (λ _. no_pressure_is r) (λ _. no_value_is r)))

-- and it is the reply's own
pub taken_value : TakenValue
unfolding expected pick
taken_value k r e = rw (eq-eqb (kind_of r) k e)

pub as_listed : AsListed
unfolding expected no_value no_pressure read_shown_v1 pick
as_listed (Reads mantissa exponent) = refl
as_listed UnderRange = refl
as_listed OverRange = refl
as_listed (Factor n) = refl
as_listed (Unit u) = refl
as_listed Done = refl
as_listed (Error e) = refl
