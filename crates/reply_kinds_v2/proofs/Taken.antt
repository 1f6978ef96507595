-- "A reply of another kind never yields a value", for every kind and every reply.
use mathlib.Core.Path.{◌≡◌, refl}
use mathlib.Core.Bool.{false}
use Prim.Native.Nat.{ℕ}
use borrow.Author.Tests.{eq-eqb}
use lib.Dec.{eqb}
use Rattle.std.specs.Prelude.{Ok, Result}
use Rattle.buffer.specs.First.{pick}
use Rattle.buffer.specs.Byte.{at}
use Rattle.buffer.proofs.Rules.{each}
use Rattle.replies_v2_values.specs.declared.ReplyV2.{ReplyV2}
use Rattle.replies_v2_values.specs.declared.ReplyV2.TheVariants.{Measured, UnderRange, OverRange, Degrees, FilamentNumber, StatusNumber, Holds, Done, Error}
use Rattle.replies_v2.specs.ReplyV2.{read_shown_v2}
use Rattle.reply_kinds_v2.specs.Kind.{kind_of, no_value, no_pressure, expected}
use Rattle.reply_kinds_v2.specs.Theorems.{TakenExactly, TakenValue, AsListed}
use Rattle.refusals.specs.Number.{refusal_number}
use Rattle.refusals.specs.declared.Refusal.{Refusal}

-- a reply that was read has number 0
read_0 : (r : ReplyV2) → at (read_shown_v2 (Ok r)) 0 ≡ 0
unfolding read_shown_v2
read_0 (Measured n) = refl
read_0 UnderRange = refl
read_0 OverRange = refl
read_0 (Degrees negative h) = refl
read_0 (FilamentNumber d) = refl
read_0 (StatusNumber d) = refl
read_0 (Holds x) = refl
read_0 Done = refl
read_0 (Error e) = refl

no_value_is : (r : ReplyV2) → eqb (refusal_number (no_value r)) 0 ≡ false
unfolding no_value
no_value_is r = each (λ (k : Refusal). eqb (refusal_number k) 0 ≡ false) _ _ _ (λ _. refl) (λ _. refl)

no_pressure_is : (r : ReplyV2) → eqb (refusal_number (no_pressure r)) 0 ≡ false
unfolding no_pressure
no_pressure_is r =
    let P : Refusal → Type 0 = λ (k : Refusal). eqb (refusal_number k) 0 ≡ false in
    each P _ _ _ (λ _. refl) (λ _. each P _ _ _ (λ _. refl) (λ _. no_value_is r))

-- a value is taken out exactly of a reply of the expected kind
pub taken_exactly : TakenExactly
unfolding expected read_shown_v2
taken_exactly k r =
    let P : Result ReplyV2 Refusal → Type 0 = λ (x : Result ReplyV2 Refusal). eqb (at (read_shown_v2 x) 0) 0 ≡ eqb (kind_of r) k in
    each P (eqb (kind_of r) k) (Ok r) _ (λ e. rw (read_0 r, e)) (λ e.
    rw e (each (λ (x : Result ReplyV2 Refusal). eqb (at (read_shown_v2 x) 0) 0 ≡ false) (eqb k 1) _ _ (λ _. no_pressure_is r) (λ _. no_value_is r)))

-- and it is the reply's own
pub taken_value : TakenValue
unfolding expected pick
taken_value k r e = rw (eq-eqb (kind_of r) k e)

pub as_listed : AsListed
unfolding expected no_value no_pressure read_shown_v2 pick
as_listed (Measured n) = refl
as_listed UnderRange = refl
as_listed OverRange = refl
as_listed (Degrees negative h) = refl
as_listed (FilamentNumber d) = refl
as_listed (StatusNumber d) = refl
as_listed (Holds x) = refl
as_listed Done = refl
as_listed (Error e) = refl
