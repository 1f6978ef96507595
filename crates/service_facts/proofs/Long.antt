-- "past 109 bytes: SHAPE": a request of more bytes has no reply and changes nothing.
use mathlib.Core.Path.{◌≡◌, refl}
use mathlib.Core.Bool.{Bool, true, false}
use mathlib.Core.List.{List}
use Prim.Native.Nat.{ℕ, ◌<◌}
use native.Mathlib.Omega.{arith}
use lib.Dec.{ltb}
use lib.ListN.{length}
use Rattle.buffer.specs.First.{pick}
use Rattle.buffer.specs.Byte.{within}
use Rattle.buffer.proofs.Laws.{within_above}
use Rattle.buffer.proofs.Rules.{each}
use Rattle.frames.specs.Frame.{length_fits, misshapen}
use Rattle.gauge_rules.specs.State.{State}
use Rattle.gauge_table.specs.Table.{answer_room, number_of}
use Rattle.gauge_table.proofs.DecidedV2.{by}
use Rattle.gauge_table.specs.After.{answer_of}
use Rattle.gauge_facts.proofs.Refused.{silent_stays, silent_sends}
use Rattle.service_facts.specs.Theorems.{LongShape, LongSilent, LongStays}

unfit : (s : List ℕ) → 109 < length s → length_fits s ≡ false
unfolding length_fits
unfit s h =
    each (λ (t : Bool). t ≡ false) _ _ _ (λ _. within_above 10 109 (length s) h)
    (λ _. each (λ (t : Bool). t ≡ false) _ _ _ (λ _. within_above 6 12 (length s) (omega arith)) (λ _. refl))

pub long_shape : LongShape
unfolding misshapen pick
long_shape s h = rw (unfit s h)

long_number : (s : List ℕ) → 109 < length s → (g : State) (room : ℕ) → within 1 5 (number_of g room s) ≡ true
unfolding number_of pick within
long_number s h g room = by (ltb room answer_room) (λ e. rw e) (λ e. rw (e, long_shape s h))

-- in every state, whatever memory is lent
pub long_silent : LongSilent
unfolding answer_of
long_silent s h g room = silent_sends g room s (long_number s h g room)

pub long_stays : LongStays
long_stays s h g room = silent_stays g room s (long_number s h g room)
