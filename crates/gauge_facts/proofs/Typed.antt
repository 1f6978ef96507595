-- "No accepted call without its effect": number 0 means that the bytes ask a typed request, and a reply is empty exactly for 1 to 5.
use mathlib.Core.Path.{◌≡◌, refl}
use mathlib.Core.Bool.{true, false}
use mathlib.Core.List.{List, []}
use Prim.Native.Nat.{ℕ}
use native.Mathlib.Omega.{arith}
use borrow.Author.Tests.{eq-eqb, eqb-true}
use lib.Dec.{eqb, ltb}
use Rattle.std.specs.Prelude.{Err, Ok, Result}
use Rattle.buffer.specs.First.{pick}
use Rattle.buffer.specs.Byte.{at, within}
use Rattle.buffer.proofs.Rules.{each}
use Rattle.frames.specs.Checksum.{closed}
use Rattle.frames.specs.Frame.{is_letter, wrong_length, head_v1}
use Rattle.frames.specs.declared.HeadV1.{HeadV1}
use Rattle.frames.specs.declared.HeadV2.{HeadV2}
use Rattle.frame_writer.specs.Written.{frame_v1, frame_v2}
use Rattle.frames_facts.proofs.Shape.{Framed}
use Rattle.requests.specs.declared.RequestV2.{RequestV2}
use Rattle.requests.specs.declared.RequestV1.{RequestV1}
use Rattle.gauge_rules.specs.State.{State}
use Rattle.gauge_rules_v1.specs.RulesV1.{text_v1, repeats}
use Rattle.gauge_table.specs.Asked.{is_v1, asked_v2, asked_v1}
use Rattle.gauge_table.specs.Table.{answer_room, other_address, number_of}
use Rattle.gauge_table.proofs.DecidedV2.{by}
use Rattle.gauge_table.specs.Decided.{decided_v2, decided_v1}
use Rattle.gauge_table.proofs.Numbers.{some_number, number_v1, number_v2}
use Rattle.gauge_table.specs.Reply.{accepted_v2, accepted_v1, reply_of}
use Rattle.gauge_facts.specs.Theorems.{AsksV1, AsksV2, SilentExactly}
use Rattle.gauge_facts.proofs.Refused.{silent_sends}
use Rattle.gauge_facts.proofs.Lemmas.Rows.{past_row}
use Rattle.refusals.specs.declared.Refusal.{Refusal}

-- what an accepted request has passed: 1 to 5, and for V2 6
pub record Passed (g : State) (room : ℕ) (s : List ℕ) : Type 0 where
  pub room_fits : ltb room answer_room ≡ false
  pub framed : Framed s
  pub own : other_address g s ≡ false
  pub counted : is_v1 s ≡ false → wrong_length s ≡ false

module _ (g : State) (room : ℕ) (s : List ℕ) (z : number_of g room s ≡ 0) where
  pub passed : Passed g room s
  unfolding number_of
  passed =
      let a = past_row _ 1 _ refl (eq-eqb (number_of g room s) 0 z) in
      let b = past_row _ 2 _ refl a.1 in
      let c = past_row _ 3 _ refl b.1 in
      let d = past_row _ 4 _ refl c.1 in
      let e = past_row _ 5 _ refl d.1 in
      let f = past_row _ 6 _ refl e.1 in
      record { room_fits = a.0; framed = record { shape = b.0; sum = c.0; address = d.0 }; own = e.0; counted = λ l. rw l at f.0 }

  -- then it has the number of what the bytes ask
  pub decided_as_v1 : is_v1 s ≡ true → decided_v1 g (asked_v1 s) ≡ 0
  decided_as_v1 l = let p = passed in rw (number_v1 s g room p.room_fits p.framed p.own l) at z

  pub decided_as_v2 : is_v1 s ≡ false → decided_v2 g (asked_v2 g.limits s) ≡ 0
  decided_as_v2 l = let p = passed in rw (number_v2 s g room p.room_fits p.framed p.own l (p.counted l)) at z

-- number 0 means that the bytes ask a typed request
pub asks_v1_lem : AsksV1
unfolding decided_v1
asks_v1_lem g room s z l = go (asked_v1 s) (decided_as_v1 g room s z l)
  where
    go : (a : Result RequestV1 Refusal) → decided_v1 g a ≡ 0 → (r : RequestV1) × (a ≡ Ok r)
    go (Ok r) e = (r, refl)
    go (Err k) e = absurd (omega (arith, some_number k))

pub asks_v2 : AsksV2
unfolding decided_v2
asks_v2 g room s z l = go (asked_v2 g.limits s) (decided_as_v2 g room s z l)
  where
    go : (a : Result RequestV2 Refusal) → decided_v2 g a ≡ 0 → (r : RequestV2) × (a ≡ Ok r)
    go (Ok r) e = (r, refl)
    go (Err k) e = absurd (omega (arith, some_number k))

-- ---- replies

frame_v2_some : (h : HeadV2) (d : List ℕ) → frame_v2 h d ≡ [] → ⊥
unfolding frame_v2 closed
frame_v2_some h d e = let z : ◌≡◌ {A = ℕ} 0 1 = cc in omega arith

frame_v1_some : (h : HeadV1) (d : List ℕ) → frame_v1 h d ≡ [] → ⊥
unfolding frame_v1 closed
frame_v1_some h d e = let z : ◌≡◌ {A = ℕ} 0 1 = cc in omega arith

-- bytes with a letter at byte 3 are some bytes
letter_some : (s : List ℕ) → is_v1 s ≡ true → s ≡ [] → ⊥
unfolding is_letter within
letter_some s l e = let z : ◌≡◌ {A = ℕ} 0 1 = cc (rw e at l) in omega arith

module _ (g : State) (s : List ℕ) where
  accepted_v1_some : is_v1 s ≡ true → (r : RequestV1) → accepted_v1 g s (head_v1 s) (Ok r) ≡ [] → ⊥
  unfolding accepted_v1
  accepted_v1_some l r =
      each (λ (t : List ℕ). t ≡ [] → ⊥) (repeats r) s (frame_v1 (head_v1 s) (text_v1 g r)) (λ _. letter_some s l) (λ _. frame_v1_some _ _)

  accepted_v2_some : (h : HeadV2) (r : RequestV2) → accepted_v2 g h (Ok r) ≡ [] → ⊥
  unfolding accepted_v2
  accepted_v2_some h r = frame_v2_some _ _

  -- a number other than 1 to 5, and what is asked where it is 0
  reply_some : (k : ℕ) → (eqb k 0 ≡ true → is_v1 s ≡ true → (r : RequestV1) × (asked_v1 s ≡ Ok r)) → (eqb k 0 ≡ true → is_v1 s ≡ false → (r : RequestV2) × (asked_v2 g.limits s ≡ Ok r))
      → within 1 5 k ≡ false → reply_of g s k ≡ [] → ⊥
  unfolding reply_of pick
  reply_some k v1 v2 e h =
      by (is_v1 s)
      (λ l. by (eqb k 0)
      (λ z. let w = v1 z l in accepted_v1_some l w.0 (rw (e, l, z, w.1) at h))
      (λ z. frame_v1_some _ _ (rw (e, l, z) at h)))
      (λ l. by (eqb k 0)
      (λ z. let w = v2 z l in accepted_v2_some _ w.0 (rw (e, l, z, w.1) at h))
      (λ z. frame_v2_some _ _ (rw (e, l, z) at h)))

-- the reply is empty exactly for 1 to 5
pub silent_exactly : SilentExactly
silent_exactly g room s = (λ h. by (within 1 5 (number_of g room s)) (λ e. e) (λ e. absurd (loud e h)), silent_sends g room s)
  where
    loud : within 1 5 (number_of g room s) ≡ false → reply_of g s (number_of g room s) ≡ [] → ⊥
    loud = reply_some g s (number_of g room s) (λ z. asks_v1_lem g room s (eqb-true _ 0 z)) (λ z. asks_v2 g room s (eqb-true _ 0 z))
