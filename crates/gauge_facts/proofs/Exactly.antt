-- "A request is accepted exactly if lent room, frame, checksum, address, command, access, data and state satisfy document 01", on the bytes
-- themselves: they are the frame of a request that the paper allows.
use mathlib.Core.Path.{◌≡◌, refl, sym, ap}
use mathlib.Core.Bool.{true, false}
use mathlib.Core.List.{List, [], ◌∷◌}
use Prim.Native.Nat.{ℕ}
use native.Mathlib.Omega.{arith}
use borrow.Author.Tests.{eqb-true, eq-eqb, ltb-false, le-ltb, not-false}
use Rattle.std.specs.Prelude.{Ok}
use Rattle.buffer.specs.First.{pick}
use Rattle.buffer.specs.Byte.{at, within}
use Rattle.buffer.proofs.Laws.{within_in}
use Rattle.frames.specs.Frame.{data_from, address_of, head_v1, head_v2, frame_of}
use Rattle.frames.specs.declared.HeadV1.{HeadV1}
use Rattle.frames.specs.declared.HeadV2.{HeadV2}
use Rattle.frames.specs.declared.Frame.TheVariants.{V1, V2}
use Rattle.frames_facts.proofs.Shape.{Tells, tells}
use Rattle.frame_writer.specs.Sendable.{SendableV2}
use Rattle.frames_facts.proofs.Exactly.{frame_exactly_v1, frame_exactly_v2}
use Rattle.requests.specs.Command.{command_text}
use Rattle.requests.specs.AskV2.{ask_v2, ask_list}
use Rattle.requests.specs.declared.RequestV2.{RequestV2}
use Rattle.requests.specs.declared.RequestV1.{RequestV1}
use Rattle.request_texts.specs.RequestText.{access_of, command_in, head_for, letter_v1, head_for_v1}
use Rattle.forms_facts.specs.Sound.{Proper}
use Rattle.gauge_rules.specs.State.{State}
use Rattle.gauge_rules.specs.RulesV2.{grant_v2}
use Rattle.gauge_rules_v1.specs.RulesV1.{grant_v1}
use Rattle.gauge_table.specs.Asked.{is_v1, asked_v2, asked_v1}
use Rattle.gauge_table.specs.Reply.{accepted_v2, reply_of}
use Rattle.gauge_table.specs.Table.{answer_room, other_address, number_of}
use Rattle.gauge_table.specs.Decided.{decided_v2, decided_v1}
use Rattle.gauge_table.proofs.Numbers.{number_v1, number_v2}
use Rattle.gauge_facts.specs.Sound.{SoundState}
use Rattle.gauge_facts.specs.Request.{asked_list, Satisfies, SatisfiesV1}
use Rattle.gauge_facts.specs.Theorems.{OldAddress, AcceptedAs, AcceptedV2Exactly, AcceptedAsV1, AcceptedV1Exactly}
use Rattle.gauge_facts.proofs.Typed.{Passed, passed, decided_as_v1, decided_as_v2, asks_v1_lem, asks_v2}
use Rattle.gauge_facts.proofs.Lemmas.Asking.{asked_exactly, granted_exactly}
use Rattle.gauge_facts.proofs.Lemmas.Carried.{command_two, carried}
use Rattle.gauge_facts.proofs.Lemmas.AskingV1.{asked_v1_exactly, carried_v1, granted_v1_exactly}

-- ---- V2

module _ (g : State) (room : ℕ) (s : List ℕ) where
  -- ---- what is accepted satisfies the paper

  -- past the table's rows the bytes are a (Ok (V2 frame))
  is_frame_lem : is_v1 s ≡ false → Passed g room s → frame_of s ≡ Ok (V2 (head_v2 s))
  unfolding frame_of pick
  is_frame_lem l p = rw (p.framed.shape, p.framed.sum, p.framed.address, l, p.counted l)

  own_address : Passed g room s → address_of s ≡ g.settings.address
  own_address p = eqb-true _ _ (not-false _ p.own)

  -- the head is the request's
  head_is : (r : RequestV2) → address_of s ≡ g.settings.address → at s 3 ≡ access_of r → at s 4 ∷ at s 5 ∷ [] ≡ command_text (command_in r)
      → head_v2 s ≡ head_for g.settings.address r
  unfolding head_v2 head_for
  head_is r a c e =
      let p : at s 4 ≡ at (command_text (command_in r)) 0 = ap (λ (t : List ℕ). at t 0) e in
      let q : at s 5 ≡ at (command_text (command_in r)) 1 = ap (λ (t : List ℕ). at t 1) e in
      rw (a, c, p, q)

  grants : (r : RequestV2) → number_of g room s ≡ 0 → is_v1 s ≡ false → asked_v2 g.limits s ≡ Ok r → grant_v2 g r ≡ 0
  unfolding decided_v2
  grants r z l e = rw e at (decided_as_v2 g room s z l)

  to : Proper g.limits → (r : RequestV2) (list : List ℕ) → is_v1 s ≡ false → number_of g room s ≡ 0 → asked_v2 g.limits s ≡ Ok r → asked_list g.limits s ≡ list → (d : List ℕ) × Satisfies g room s r list d
  unfolding head_v2
  to ok r list l z e f =
      let p = passed g room s z in
      let w = (asked_exactly g.limits ok (head_v2 s) (data_from 8 s) r list).0 (e, f) in
      let h = head_is r (own_address p) w.0 w.1 in
      let t = (frame_exactly_v2 s (head_v2 s) (data_from 8 s)).0 (is_frame_lem l p, refl) in
      (data_from 8 s, record { room_fits = ltb-false room answer_room p.room_fits; frame = rw h at t.1; formed = w.2; allowed = (granted_exactly g r).0 (grants r z l e) })

  -- ---- and what satisfies it is accepted

  module _ (r : RequestV2) (list d : List ℕ) (f : SoundState g) (h : Satisfies g room s r list d) where
    sendable : SendableV2 (head_for g.settings.address r) d
    sendable =
        let a = f.settings.address in
        carried g.limits f.proper g.settings.address r list d (within_in 1 999 g.settings.address (omega (arith, a.0)) (omega (arith, a.1))) h.formed

    read : (frame_of s ≡ Ok (V2 (head_for g.settings.address r))) × (data_from 8 s ≡ d)
    read = (frame_exactly_v2 s (head_for g.settings.address r) d).1 (sendable, h.frame)

    told : Tells s (Ok (V2 (head_for g.settings.address r)))
    told = rw read.0 at (tells s)

    asked : (ask_v2 g.limits (head_for g.settings.address r) d ≡ Ok r) × (ask_list g.limits (head_for g.settings.address r) d ≡ list)
    unfolding head_for
    asked = (asked_exactly g.limits f.proper (head_for g.settings.address r) d r list).1 (refl, two, h.formed)
      where
        two : at (command_text (command_in r)) 0 ∷ at (command_text (command_in r)) 1 ∷ [] ≡ command_text (command_in r)
        two = command_two (command_in r)

    own : other_address g s ≡ false
    unfolding head_v2 head_for
    own =
        let e : g.settings.address ≡ address_of s = ap (λ (k : HeadV2). k.address) told.3 in
        rw (eq-eqb (address_of s) g.settings.address (sym e))

    from : (is_v1 s ≡ false) × (number_of g room s ≡ 0) × (asked_v2 g.limits s ≡ Ok r) × (asked_list g.limits s ≡ list)
    unfolding decided_v2
    from =
        let e : asked_v2 g.limits s ≡ Ok r = rw (← told.3, read.1) asked.0 in
        let l : asked_list g.limits s ≡ list = rw (← told.3, read.1) asked.1 in
        let n = number_v2 s g room (le-ltb room answer_room h.room_fits) told.0 own told.1 told.2 in
        (told.1, rw (n, e) ((granted_exactly g r).1 h.allowed), e, l)

-- V2 bytes are accepted as the request r, with these sources, exactly if they satisfy the paper for it
pub accepted_as : AcceptedAs
accepted_as g room s r list f = (λ w. to g room s f.proper r list w.0 w.1 w.2 w.3, λ w. from g room s r list w.0 f w.1)

-- V2 bytes are accepted exactly if they satisfy the paper for some request
pub accepted_v2_exactly : AcceptedV2Exactly
accepted_v2_exactly g room s f = (there, λ w. let v = from g room s w.0 w.1 w.2 f w.3 in (v.0, v.1))
  where
    there : (is_v1 s ≡ false) × (number_of g room s ≡ 0) → (r : RequestV2) × (list : List ℕ) × (d : List ℕ) × Satisfies g room s r list d
    there w =
        let q = asks_v2 g room s w.1 w.0 in
        let t = to g room s f.proper q.0 (asked_list g.limits s) w.0 w.1 q.1 refl in
        (q.0, asked_list g.limits s, t.0, t.1)

-- an accepted request is answered from the gauge's address
pub old_address : OldAddress
unfolding head_v2 reply_of accepted_v2 within pick
old_address g room s r z l e = rw (z, l, e, own_address g room s (passed g room s z))

-- ---- V1

module _ (g : State) (room : ℕ) (s : List ℕ) where
  is_frame_v1 : is_v1 s ≡ true → Passed g room s → frame_of s ≡ Ok (V1 (head_v1 s))
  unfolding frame_of pick
  is_frame_v1 l p = rw (p.framed.shape, p.framed.sum, p.framed.address, l)

  head_is_v1 : (r : RequestV1) → address_of s ≡ g.settings.address → at s 3 ≡ letter_v1 r → head_v1 s ≡ head_for_v1 g.settings.address r
  unfolding head_v1
  head_is_v1 r a c = rw (a, c)

  grants_v1 : (r : RequestV1) → number_of g room s ≡ 0 → is_v1 s ≡ true → asked_v1 s ≡ Ok r → grant_v1 g r ≡ 0
  unfolding decided_v1
  grants_v1 r z l e = rw e at (decided_as_v1 g room s z l)

  to_v1 : (r : RequestV1) → is_v1 s ≡ true → number_of g room s ≡ 0 → asked_v1 s ≡ Ok r → (d : List ℕ) × SatisfiesV1 g room s r d
  to_v1 r l z e =
      let p = passed g room s z in
      let w = (asked_v1_exactly (at s 3) (data_from 4 s) r).0 e in
      let h = head_is_v1 r (own_address g room s p) w.0 in
      let t = (frame_exactly_v1 s (head_v1 s) (data_from 4 s)).0 (is_frame_v1 l p, refl) in
      (data_from 4 s, record { room_fits = ltb-false room answer_room p.room_fits; frame = rw h at t.1; formed = w.1; allowed = (granted_v1_exactly g r).0 (grants_v1 r z l e) })

  module _ (r : RequestV1) (d : List ℕ) (f : SoundState g) (h : SatisfiesV1 g room s r d) where
    read-v1 : (frame_of s ≡ Ok (V1 (head_for_v1 g.settings.address r))) × (data_from 4 s ≡ d)
    read-v1 =
        let a = f.settings.address in
        let c = carried_v1 g.settings.address r d (within_in 1 999 g.settings.address (omega (arith, a.0)) (omega (arith, a.1))) h.formed in
        (frame_exactly_v1 s (head_for_v1 g.settings.address r) d).1 (c, h.frame)

    told-v1 : Tells s (Ok (V1 (head_for_v1 g.settings.address r)))
    told-v1 = rw read-v1.0 at (tells s)

    own_v1 : other_address g s ≡ false
    unfolding head_v1
    own_v1 =
        let e : g.settings.address ≡ address_of s = ap (λ (k : HeadV1). k.address) told-v1.2 in
        rw (eq-eqb (address_of s) g.settings.address (sym e))

    letter-v1 : letter_v1 r ≡ at s 3
    unfolding head_v1
    letter-v1 = ap (λ (k : HeadV1). k.letter) told-v1.2

    from-v1 : (is_v1 s ≡ true) × (number_of g room s ≡ 0) × (asked_v1 s ≡ Ok r)
    unfolding decided_v1
    from-v1 =
        let e : asked_v1 s ≡ Ok r = rw read-v1.1 ((asked_v1_exactly (at s 3) d r).1 (sym letter-v1, h.formed)) in
        let n = number_v1 s g room (le-ltb room answer_room h.room_fits) told-v1.0 own_v1 told-v1.1 in
        (told-v1.1, rw (n, e) ((granted_v1_exactly g r).1 h.allowed), e)

-- V1 bytes are accepted as the request r exactly if they satisfy the paper for it
pub accepted_as_v1 : AcceptedAsV1
accepted_as_v1 g room s r f = (λ w. to_v1 g room s r w.0 w.1 w.2, λ w. from-v1 g room s r w.0 f w.1)

-- V1 bytes are accepted exactly if they satisfy the paper for some request
pub accepted_v1_exactly : AcceptedV1Exactly
accepted_v1_exactly g room s f = (there, λ w. let v = from-v1 g room s w.0 w.1 f w.2 in (v.0, v.1))
  where
    there : (is_v1 s ≡ true) × (number_of g room s ≡ 0) → (r : RequestV1) × (d : List ℕ) × SatisfiesV1 g room s r d
    there w =
        let q = asks_v1_lem g room s w.1 w.0 in
        let t = to_v1 g room s q.0 w.0 w.1 q.1 in
        (q.0, t.0, t.1)
