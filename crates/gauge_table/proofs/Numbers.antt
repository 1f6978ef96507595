-- The table's number, by what the bytes are as a frame.
use mathlib.Core.Path.{◌≡◌, refl}
use mathlib.Core.Bool.{true, false}
use mathlib.Core.List.{List}
use Prim.Native.Nat.{ℕ}
use lib.Dec.{ltb}
use Rattle.std.specs.Prelude.{Err, Ok, Result}
use Rattle.buffer.specs.First.{pick}
use Rattle.buffer.specs.Byte.{at, within}
use Rattle.buffer.proofs.Rules.{each}
use Rattle.frames.specs.Frame.{data_from, misshapen, wrong_sum, wrong_address, head_v2, frame_of}
use Rattle.frames.specs.declared.Frame.{Frame}
use Rattle.frames.specs.declared.Frame.TheVariants.{V1, Length, V2}
use Rattle.gauge_rules.specs.State.{State}
use Rattle.gauge_table.specs.Table.{answer_room, number_of}
use Rattle.gauge_table.specs.Theorems.{Number5, Number6, NumberV2, NumberV1}
use Rattle.gauge_table.proofs.DecidedV2.{decided_v2_lem}
use Rattle.gauge_table.proofs.DecidedV1.{decided_v1_lem}
use Rattle.refusals.specs.declared.Refusal.{Refusal}
use Rattle.refusals.specs.Number.{refusal_number}
use native.Mathlib.Omega.{arith}
use Prim.Native.Nat.{◌≤◌}

-- a refusal's number is not 0
pub some_number : (k : Refusal) → 1 ≤ refusal_number k
some_number Refusal.Room = omega arith
some_number Refusal.Shape = omega arith
some_number Refusal.Checksum = omega arith
some_number Refusal.Address = omega arith
some_number Refusal.Other = omega arith
some_number Refusal.Length = omega arith
some_number Refusal.Code = omega arith
some_number Refusal.NoDef = omega arith
some_number Refusal.Access = omega arith
some_number Refusal.Syntax = omega arith
some_number Refusal.Range = omega arith
some_number Refusal.Logic = omega arith
some_number Refusal.Fault = omega arith
some_number Refusal.Mismatch = omega arith
some_number Refusal.Bench = omega arith

-- the number of bytes that are refused in silence
abbrev pub Numbered : List ℕ → Result Frame Refusal → Type 0
Numbered s (Err k) = (within 1 5 (refusal_number k) ≡ true) × ((g : State) (room : ℕ) → ltb room answer_room ≡ false → number_of g room s ≡ refusal_number k)
Numbered s (Ok (V1 h)) = Unit {0}
Numbered s (Ok (Length h)) = Unit {0}
Numbered s (Ok (V2 h)) = Unit {0}

module _ (s : List ℕ) where
  number_2 : misshapen s ≡ true → Numbered s (Err Refusal.Shape)
  unfolding number_of within pick
  number_2 e = (refl, λ g room r. rw (r, e))

  number_3 : misshapen s ≡ false → wrong_sum s ≡ true → Numbered s (Err Refusal.Checksum)
  unfolding number_of within pick
  number_3 a e = (refl, λ g room r. rw (r, a, e))

  number_4 : misshapen s ≡ false → wrong_sum s ≡ false → wrong_address s ≡ true → Numbered s (Err Refusal.Address)
  unfolding number_of within pick
  number_4 a b e = (refl, λ g room r. rw (r, a, b, e))

  pub numbered : Numbered s (frame_of s)
  unfolding frame_of
  numbered =
      each (Numbered s) _ _ _ number_2 (λ a.
      each (Numbered s) _ _ _ (number_3 a) (λ b.
      each (Numbered s) _ _ _ (number_4 a b) (λ _. each (Numbered s) _ _ _ (λ _. tt) (λ _. each (Numbered s) _ _ _ (λ _. tt) (λ _. tt)))))

pub number_5 : Number5
unfolding number_of pick
number_5 s g room r f o = rw (r, f.shape, f.sum, f.address, o)

pub number_6 : Number6
unfolding number_of pick
number_6 s g room r f o l w = rw (r, f.shape, f.sum, f.address, o, l, w)

pub number_v1 : NumberV1
unfolding number_of pick
number_v1 s g room r f o l = rw (r, f.shape, f.sum, f.address, o, l) (decided_v1_lem g (at s 3) (data_from 4 s))

pub number_v2 : NumberV2
unfolding number_of head_v2 pick
number_v2 s g room r f o l w = rw (r, f.shape, f.sum, f.address, o, l, w) (decided_v2_lem g (head_v2 s) (data_from 8 s))
