-- The request reader beside the gauge: what the reader refuses the gauge refuses with the same number.
use mathlib.Core.Path.{◌≡◌, refl, sym, ap, ◌∙◌}
use mathlib.Core.Bool.{Bool, true, false, not, true≢false}
use mathlib.Core.List.{List}
use mathlib.Core.Logic.{inl, inr}
use Prim.Native.Nat.{ℕ}
use native.Mathlib.Omega.{arith}
use borrow.Author.Tests.{eqb-true}
use lib.Dec.{eqb, ltb}
use Rattle.std.specs.Prelude.{Err, Ok, Result}
use Rattle.buffer.specs.First.{pick}
use Rattle.buffer.proofs.Rules.{stop}
use Rattle.frames.specs.Frame.{data_from, head_v1, frame_of}
use Rattle.frames.specs.declared.HeadV1.{HeadV1}
use Rattle.frames.specs.declared.HeadV2.{HeadV2}
use Rattle.frames.specs.declared.Frame.{Frame}
use Rattle.frames.specs.declared.Frame.TheVariants as frame
use Rattle.frames_facts.proofs.Shape.{Tells, tells}
use Rattle.settings.specs.Limits.{is_factor}
use Rattle.requests.specs.AskV1.{ask_v1}
use Rattle.requests.specs.AskV2.{ask_v2}
use Rattle.requests.specs.declared.RequestV2.{RequestV2}
use Rattle.requests.specs.declared.RequestV1.{RequestV1}
use Rattle.requests.specs.declared.RequestV1.TheVariants.{Measure, ReadFactor, Unlock, SetFactor, ReadUnit, SetUnit}
use Rattle.request_reader.specs.Decoded.{from_v2, judged_v1, from_v1, from_frame, request_of, request_number}
use Rattle.request_reader.specs.declared.Request.TheVariants.{V1}
use Rattle.gauge_rules.specs.State.{State}
use Rattle.gauge_rules.specs.RulesV2.{grant_v2}
use Rattle.gauge_rules_v1.specs.RulesV1.{factor_number, grant_v1}
use Rattle.gauge_table.specs.Asked.{asked_v2, asked_v1, breaks_rule, asks_faulty}
use Rattle.gauge_table.specs.Table.{answer_room, other_address, number_of}
use Rattle.gauge_table.specs.Decided.{decided_v2, decided_v1}
use Rattle.gauge_table.proofs.DecidedV2.{by}
use Rattle.gauge_table.proofs.Numbers.{Numbered, numbered, number_6, number_v1, number_v2}
use Rattle.answers_facts.specs.Asked.{ask_number_v2, ask_number_v1, Refuses}
use Rattle.answers_facts.proofs.Rows.{not_0}
use Rattle.answers_facts.specs.Theorems.{DecidedV2, DecidedV1, RefusedAlike, AcceptedRead}
use Rattle.refusals.specs.declared.Refusal.{Refusal}

-- the number of no request comes before the gauge's own: 12 of CC and CM, and 13
pub decided_v2_lem : DecidedV2
unfolding decided_v2 grant_v2 ask_number_v2 breaks_rule asks_faulty pick
decided_v2_lem g (Ok r) = refl
decided_v2_lem g (Err k) = stop _ _ _ _ (ap not (not_0 k)) refl

-- and a V1 letter or data that ask for nothing are refused whatever the gauge's state
pub decided_v1_lem : DecidedV1
unfolding decided_v1 ask_number_v1
decided_v1_lem g (Ok r) e = absurd (true≢false e)
decided_v1_lem g (Err k) e = refl

module _ (g : State) where
  factor : (a : ℕ) (r : RequestV1) (w u : Bool) → g.unlocked ≡ u → eqb (request_number (pick (not w) (Err Refusal.Range) (Ok (V1 a r)))) 0 ≡ false
      → Refuses g (request_number (pick (not w) (Err Refusal.Range) (Ok (V1 a r)))) (pick (not u) 12 (pick (not w) 11 0))
  unfolding pick
  factor a r true u h e = absurd (true≢false e)
  factor a r false true h e = inl refl
  factor a r false false h e = inr (refl, refl, h)

  of_v1 : (a : ℕ) (x : Result RequestV1 Refusal) → eqb (request_number (from_v1 a x)) 0 ≡ false → Refuses g (request_number (from_v1 a x)) (decided_v1 g x)
  unfolding from_v1 judged_v1 decided_v1 grant_v1 factor_number
  of_v1 a (Err k) e = inl refl
  of_v1 a (Ok Measure) e = absurd (true≢false e)
  of_v1 a (Ok ReadFactor) e = absurd (true≢false e)
  of_v1 a (Ok Unlock) e = absurd (true≢false e)
  of_v1 a (Ok (SetFactor n)) e = factor a (SetFactor n) (is_factor n) g.unlocked refl e
  of_v1 a (Ok ReadUnit) e = absurd (true≢false e)
  of_v1 a (Ok (SetUnit u)) e = absurd (true≢false e)

  of_v2 : (a : ℕ) (x : Result RequestV2 Refusal) → eqb (request_number (from_v2 a x)) 0 ≡ false → Refuses g (request_number (from_v2 a x)) (decided_v2 g x)
  unfolding from_v2 decided_v2
  of_v2 a (Ok r) e = absurd (true≢false e)
  of_v2 a (Err k) e = inl refl

-- bytes sent to a gauge of their address, with room for its answer
module _ (g : State) (room : ℕ) (s : List ℕ) (r : ltb room answer_room ≡ false) (o : other_address g s ≡ false) where
  by_frame : (f : Result Frame Refusal) → Tells s f → Numbered s f → eqb (request_number (from_frame g.limits s f)) 0 ≡ false → Refuses g (request_number (from_frame g.limits s f)) (number_of g room s)
  unfolding from_frame head_v1
  by_frame (Err k) t n e = inl (n.1 g room r)
  by_frame (Ok (frame.Length h)) t n e = inl (number_6 s g room r t.0 o t.1 t.2)
  by_frame (Ok (frame.V1 h)) t n e =
      let q : ask_v1 h.letter (data_from 4 s) ≡ asked_v1 s = ap (λ (k : HeadV1). ask_v1 k.letter (data_from 4 s)) t.2 in
      rw (number_v1 s g room r t.0 o t.1, ← q) (of_v1 g h.address (ask_v1 h.letter (data_from 4 s)) e)
  by_frame (Ok (frame.V2 h)) t n e =
      let q : ask_v2 g.limits h (data_from 8 s) ≡ asked_v2 g.limits s = ap (λ (k : HeadV2). ask_v2 g.limits k (data_from 8 s)) t.3 in
      rw (number_v2 s g room r t.0 o t.1 t.2, ← q) (of_v2 g h.address (ask_v2 g.limits h (data_from 8 s)) e)

-- what the reader refuses the gauge refuses, with the same number
pub refused_alike : RefusedAlike
unfolding request_of
refused_alike g room s r o = by_frame g room s r o (frame_of s) (tells s) (numbered s)

-- what the gauge accepts is a typed request
pub accepted_read : AcceptedRead
accepted_read g room s r o z = by (eqb (request_number (request_of g.limits s)) 0) (eqb-true _ 0) (λ e. go (refused_alike g room s r o e))
  where
    go : Refuses g (request_number (request_of g.limits s)) (number_of g room s) → request_number (request_of g.limits s) ≡ 0
    go (inl n) = sym n ∙ z
    go (inr w) = absurd (let h = w.1 in omega arith)
