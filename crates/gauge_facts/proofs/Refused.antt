-- What a request leaves as it was, and what its number depends on.
use mathlib.Core.Path.{◌≡◌, refl}
use mathlib.Core.Bool.{true, false, and-false}
use mathlib.Core.List.{List, []}
use Prim.Native.Nat.{ℕ}
use native.Mathlib.Omega.{arith}
use borrow.Author.Tests.{ne_eqb}
use lib.Dec.{eqb}
use Rattle.std.specs.Prelude.{Err, Ok, Result}
use Rattle.buffer.specs.First.{pick}
use Rattle.buffer.specs.Byte.{within}
use Rattle.buffer.proofs.Laws.{within_true}
use Rattle.gauge_rules.specs.State.{State}
use Rattle.gauge_table.specs.Asked.{is_v1, asked_v2, breaks_rule, asks_faulty, locked_write, measures_faulty}
use Rattle.gauge_table.specs.Table.{number_of}
use Rattle.gauge_table.specs.Reply.{reply_of}
use Rattle.gauge_table.specs.After.{afterwards, next_of}
use Rattle.gauge_facts.specs.Theorems.{RefusedKeeps, ReadingsStay, SilentStays, V2KeepsUnlock, V1MovesUnlock, NumberMost, SameNumber}
use Rattle.gauge_facts.proofs.Lemmas.Rows.{under}
use Rattle.refusals.specs.declared.Refusal.{Refusal}
use Rattle.requests.specs.declared.RequestV2.{RequestV2}

-- 1 to 5 are not 0
silent_refuses : (k : ℕ) → within 1 5 k ≡ true → eqb k 0 ≡ false
silent_refuses k e = let h = within_true 1 5 k e in ne_eqb k 0 (λ z. omega (arith, h.0))

-- "A refused request changes no setting."
pub refused_keeps : RefusedKeeps
unfolding next_of afterwards
refused_keeps g room s e = rw e

-- "No request changes a reading or FS"
pub readings_stay : ReadingsStay
unfolding next_of afterwards
readings_stay g room s = refl

-- a silent request, 1 to 5, changes nothing at all, and has no reply
pub silent_stays : SilentStays
unfolding next_of afterwards
silent_stays g room s e = rw (e, silent_refuses (number_of g room s) e, and-false (is_v1 s))

pub silent_sends : (g : State) (room : ℕ) (s : List ℕ) → within 1 5 (number_of g room s) ≡ true → reply_of g s (number_of g room s) ≡ []
unfolding reply_of pick
silent_sends g room s e = rw e

-- "V2 requests do not touch it"
pub v2_keeps_unlock : V2KeepsUnlock
unfolding next_of afterwards
v2_keeps_unlock g room s l = rw l

-- "The next V1 request past check 5 ends the unlock, unless it is again an accepted `c1`"
pub v1_moves_unlock : V1MovesUnlock
unfolding next_of afterwards
v1_moves_unlock g room s l e = rw (l, e)

-- the numbers of the table are 0 to 13
pub number_most : NumberMost
unfolding number_of
number_most g room s =
    under _ _ _ refl (under _ _ _ refl (under _ _ _ refl (under _ _ _ refl (under _ _ _ refl (
    under _ _ _ refl (under _ _ _ refl (under _ _ _ refl (under _ _ _ refl (under _ _ _ refl (
    under _ _ _ refl (under _ _ _ refl (under _ _ _ refl (under _ _ _ refl (under _ _ _ refl refl))))))))))))))

-- CC's rule looks at CM alone, a fault at the readings alone
same_rule : (g h : State) → g.settings.control ≡ h.settings.control → (a : Result RequestV2 Refusal) → breaks_rule g a ≡ breaks_rule h a
unfolding breaks_rule
same_rule g h e (Ok r) = rw e
same_rule g h e (Err k) = refl

same_fault : (g h : State) → g.readings ≡ h.readings → (a : Result RequestV2 Refusal) → asks_faulty g a ≡ asks_faulty h a
unfolding asks_faulty
same_fault g h e (Ok r) = rw e
same_fault g h e (Err k) = refl

-- of what a gauge holds, its number depends on DA, CM, the readings and the unlock alone
pub same_number : SameNumber
unfolding number_of locked_write measures_faulty
same_number g h limits address control readings unlocked room s =
    rw (same_rule g h control (asked_v2 g.limits s), same_fault g h readings (asked_v2 g.limits s), address, readings, unlocked, limits)
