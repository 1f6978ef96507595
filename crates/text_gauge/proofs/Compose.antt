-- The parts of an answer, put together.
use mathlib.Core.Path.{◌≡◌, sym, ap, ◌∙◌}
use mathlib.Core.Bool.{Bool, true, false, not}
use mathlib.Core.List.{List, []}
use Prim.Native.Nat.{ℕ, ◌≤◌}
use borrow.Author.Tests.{ne_eqb}
use lib.Dec.{eqb, ltb}
use lib.ListN.{length}
use Rattle.std.specs.Prelude.{Err, None, Ok, Option, Result}
use Rattle.buffer.specs.First.{pick}
use Rattle.buffer.specs.Byte.{at, within}
use Rattle.buffer.specs.Answer.{Sent}
use Rattle.buffer.specs.declared.Written.{Written}
use Rattle.buffer.proofs.Laws.{refuses}
use Rattle.buffer.proofs.Rules.{not_eqb, not_neqb}
use Rattle.frames.specs.Frame.{is_letter, data_from, address_of, wrong_length, head_v1, head_v2, frame_of}
use Rattle.frames.specs.declared.HeadV1.{HeadV1}
use Rattle.frames.specs.declared.HeadV2.{HeadV2}
use Rattle.frames.specs.declared.Frame.{Frame}
use Rattle.frame_writer.specs.Written.{frame_v1, frame_v2}
use Rattle.frame_writer.specs.Sendable.{SendableV1, SendableV2}
use Rattle.frames_facts.proofs.Shape.{Framed, Tells, tells}
use Rattle.frames_facts.proofs.Exactly.{head_read_v1, head_read_v2}
use Rattle.sources.specs.Source.{list_of}
use Rattle.sources.specs.declared.Sources.{Sources}
use Rattle.settings.specs.Settings.{Held, held, changed_by}
use Rattle.settings.specs.declared.Settings.{Settings}
use Rattle.requests.specs.AskV2.{ask_v2, ask_list}
use Rattle.requests.specs.AskV1.{ask_v1}
use Rattle.requests.specs.declared.RequestV2.{RequestV2}
use Rattle.requests.specs.declared.RequestV1.{RequestV1}
use Rattle.gauge_rules.specs.State.{State, state_of, settled, unlocked_as}
use Rattle.gauge_rules.specs.RulesV2.{answer_code, grant_v2, text_v2, enter_v2}
use Rattle.gauge_rules_v1.specs.RulesV1.{grant_v1, text_v1, repeats, unlocks, settings_v1}
use Rattle.gauge_rules.specs.declared.Gauge.{Gauge}
use Rattle.gauge_table.specs.Table.{answer_room, other_address, number_of}
use Rattle.gauge_table.specs.Reply.{error_v2, error_v1, answer_head, accepted_v2, accepted_v1}
use Rattle.gauge_table.specs.After.{entered_v2, entered_v1, asks_unlock}
use Rattle.gauge_table.proofs.Numbers.{Numbered, numbered, number_6, number_v1, number_v2}
use Rattle.text_gauge.specs.Answer.{Decides, decided_state}
use Rattle.text_gauge.specs.Inner.{Fits, answer_v2, next_v2, answer_v1, next_v1, DecidesV2, DecidesV1}
use Rattle.text_gauge.specs.declared.Decided.{Decided}
use Rattle.text_gauge.proofs.Bridge.{quiet, table_v2, table_length, table_v1}
use Rattle.settings.specs.declared.Setting.{Setting}
use Rattle.refusals.specs.declared.Refusal.{Refusal}
use Rattle.refusals.specs.Number.{refusal_number}
use Rattle.sources.specs.declared.WithSources.{WithSources}
use native.Mathlib.Omega.{arith}
use Rattle.gauge_table.proofs.Numbers.{some_number}
use Rattle.gauge_table.specs.Decided.{decided_v2}
use Rattle.gauge_table.specs.Decided.{decided_v1}

-- nothing changes but the unlock
abbrev Made : Bool → Written → Decided → Type 0
Made u w r = (r.change.value ≡ None) × (r.unlocked ≡ u) × (r.written ≡ w)

stays : (g : State) (u : Bool) (w : Written) (r : Decided) → Made u w r → decided_state g r ≡ unlocked_as g u
unfolding changed_by
stays g u w r f = rw (f.0, f.1)

-- what is decided with a refusal's number is not accepted
not_0 : (k : Refusal) (n : ℕ) → refusal_number k ≡ n → eqb n 0 ≡ false
not_0 k n e = ne_eqb n 0 (λ z. omega (arith, some_number k))

-- ---- V2: a typed request

pub refused_v2 : (gauge : Gauge) (h : HeadV2) (ask : Result RequestV2 Refusal) (list m m' : List ℕ) (w : Written) (r : Decided) (k : Refusal) → refusal_number k ≡ decided_v2 (state_of gauge) ask → Made gauge.unlocked w r
    → Sent m (record { number = refusal_number k; reply = error_v2 (refusal_number k) h }) m' w → DecidesV2 (state_of gauge) h ask list m m' r
unfolding answer_v2 next_v2 pick
refused_v2 gauge h ask list m m' w r k e f s =
    let z = not_0 k _ e in
    record { sent = rw (f.2, z, ← e) s; state = rw z (stays (state_of gauge) _ w r f) }

pub accepts_v2 : (gauge : Gauge) (h : HeadV2) (ask : Result RequestV2 Refusal) (list m m' : List ℕ) (w : Written) (q : RequestV2) (c : WithSources (Option Setting)) → ask ≡ Ok q → 0 ≡ decided_v2 (state_of gauge) ask
    → Sent m (record { number = 0; reply = frame_v2 (answer_head h (answer_code q)) (text_v2 (state_of gauge) q) }) m' w → ((s : Held) → changed_by s c.value (list_of c.sources) ≡ enter_v2 (state_of gauge).limits s q list)
    → DecidesV2 (state_of gauge) h ask list m m' (record { written = w; change = c; unlocked = gauge.unlocked })
unfolding answer_v2 next_v2 accepted_v2 entered_v2 pick
accepts_v2 gauge h ask list m m' w q c e z f k =
    let z0 = rw e at (sym z) in
    rw e (record { sent = rw z0 f; state = rw (z0, k) })

-- ---- V1: a typed request

pub refused_v1 : (gauge : Gauge) (s : List ℕ) (h : HeadV1) (ask : Result RequestV1 Refusal) (m m' : List ℕ) (w : Written) (r : Decided) (k : Refusal) → refusal_number k ≡ decided_v1 (state_of gauge) ask → Made false w r
    → Sent m (record { number = refusal_number k; reply = error_v1 (refusal_number k) h }) m' w → DecidesV1 (state_of gauge) s h ask m m' r
unfolding answer_v1 next_v1 pick
refused_v1 gauge s h ask m m' w r k e f t =
    let z = not_0 k _ e in
    record { sent = rw (f.2, z, ← e) t; state = rw z (stays (state_of gauge) _ w r f) }

pub accepts_v1 : (gauge : Gauge) (s : List ℕ) (h : HeadV1) (ask : Result RequestV1 Refusal) (m m' : List ℕ) (w : Written) (q : RequestV1) (c : WithSources (Option Setting)) (u : Bool) → ask ≡ Ok q → 0 ≡ decided_v1 (state_of gauge) ask
    → Sent m (record { number = 0; reply = pick (repeats q) s (frame_v1 h (text_v1 (state_of gauge) q)) }) m' w → ((l : List ℕ) → changed_by (held gauge.settings) c.value l ≡ settings_v1 (state_of gauge) q) → u ≡ unlocks q
    → DecidesV1 (state_of gauge) s h ask m m' (record { written = w; change = c; unlocked = u })
unfolding answer_v1 next_v1 accepted_v1 entered_v1 asks_unlock decided_v1 settings_v1 pick
accepts_v1 gauge s h ask m m' w q c u e z f k v =
    let z0 : grant_v1 (state_of gauge) q ≡ 0 = rw e at (sym z) in
    rw e (record { sent = rw z0 f; state = rw (z0, rw z0 at (k (list_of c.sources)), v) })

-- ---- any bytes

pub tells_at : (s : List ℕ) (f : Result Frame Refusal) → f ≡ frame_of s → Tells s f
tells_at s f e = rw e (tells s)

pub numbered_at : (s : List ℕ) (f : Result Frame Refusal) → f ≡ frame_of s → Numbered s f
numbered_at s f e = rw e (numbered s)

pub no_room : (g : State) (room : ℕ) (s : List ℕ) → ltb room answer_room ≡ true → number_of g room s ≡ 1
unfolding number_of pick
no_room g room s e = rw e

module _ (gauge : Gauge) (s m : List ℕ) where
  pub silent_answers : (k : ℕ) (r : Decided) → number_of (state_of gauge) (length m) s ≡ k → within 1 5 k ≡ true → Made gauge.unlocked (record { number = k; len = 0 }) r → Decides (state_of gauge) s m m r
  silent_answers k r n w f =
      let q = quiet (state_of gauge) (length m) s k n w in
      record { sent = rw f.2 (refuses m k q.0); state = stays (state_of gauge) _ _ r f ∙ sym q.1 }

  module _ (m' : List ℕ) (r : Decided) (room : ltb (length m) answer_room ≡ false) (fr : Framed s) (o : other_address (state_of gauge) s ≡ false) where
    pub v1-answers : (head : HeadV1) (bytes : List ℕ) (ask : Result RequestV1 Refusal) → is_letter (at s 3) ≡ true → head ≡ head_v1 s → bytes ≡ data_from 4 s → ask ≡ ask_v1 head.letter bytes
        → DecidesV1 (state_of gauge) s head ask m m' r → Decides (state_of gauge) s m m' r
    unfolding head_v1
    v1-answers head bytes ask l e b a h =
        let t = table_v1 (state_of gauge) s l (length m) (number_v1 s (state_of gauge) (length m) room fr o l) in
        let h' = rw (a, b, e) at h in
        record { sent = rw t.0 h'.sent; state = h'.state ∙ sym t.1 }

    pub v2-answers : (head : HeadV2) (bytes : List ℕ) (ask : Result RequestV2 Refusal) (list : List ℕ) → is_letter (at s 3) ≡ false → wrong_length s ≡ false → head ≡ head_v2 s → bytes ≡ data_from 8 s → ask ≡ ask_v2 (state_of gauge).limits head bytes
        → list ≡ ask_list (state_of gauge).limits head bytes → DecidesV2 (state_of gauge) head ask list m m' r → Decides (state_of gauge) s m m' r
    v2-answers head bytes ask list l w e b a i h =
        let t = table_v2 (state_of gauge) s l (length m) (number_v2 s (state_of gauge) (length m) room fr o l w) in
        let h' = rw (a, i, b, e) at h in
        record { sent = rw t.0 h'.sent; state = h'.state ∙ sym t.1 }

    pub length-answers : (head : HeadV2) (w : Written) → is_letter (at s 3) ≡ false → wrong_length s ≡ true → head ≡ head_v2 s → Made gauge.unlocked w r
        → Sent m (record { number = 6; reply = error_v2 6 head }) m' w → Decides (state_of gauge) s m m' r
    length-answers head w l x e f h =
        let t = table_length (state_of gauge) s l (length m) (number_6 s (state_of gauge) (length m) room fr o l x) in
        record { sent = rw (t.0, f.2) (rw e at h); state = stays (state_of gauge) _ w r f ∙ sym t.1 }

-- what was decided, applied to the gauge
pub applied : (gauge entered after : Gauge) (s : Settings) (r : Decided) → held s ≡ changed_by (held gauge.settings) r.change.value (list_of r.change.sources) → state_of entered ≡ settled (state_of gauge) (held s)
    → state_of after ≡ unlocked_as (state_of entered) r.unlocked → state_of after ≡ decided_state (state_of gauge) r
applied gauge entered after s r k a b = b ∙ ap (λ (x : State). unlocked_as x r.unlocked) (a ∙ ap (settled (state_of gauge)) k)

-- ---- addresses and heads

module _ (s : List ℕ) (a : ℕ) where
  pub other_v1 : (head : HeadV1) → head ≡ head_v1 s → (head.address ≡ a → ⊥) → not (eqb (address_of s) a) ≡ true
  unfolding head_v1
  other_v1 head e f = not_neqb (address_of s) a (λ z. f (ap (λ (h : HeadV1). h.address) e ∙ z))

  pub own_v1 : (head : HeadV1) → head ≡ head_v1 s → head.address ≡ a → not (eqb (address_of s) a) ≡ false
  unfolding head_v1
  own_v1 head e z = not_eqb (address_of s) a (sym (ap (λ (h : HeadV1). h.address) e) ∙ z)

  pub other_v2 : (head : HeadV2) → head ≡ head_v2 s → (head.address ≡ a → ⊥) → not (eqb (address_of s) a) ≡ true
  unfolding head_v2
  other_v2 head e f = not_neqb (address_of s) a (λ z. f (ap (λ (h : HeadV2). h.address) e ∙ z))

  pub own_v2 : (head : HeadV2) → head ≡ head_v2 s → head.address ≡ a → not (eqb (address_of s) a) ≡ false
  unfolding head_v2
  own_v2 head e z = not_eqb (address_of s) a (sym (ap (λ (h : HeadV2). h.address) e) ∙ z)

-- a head that was read from a frame, and room for any reply
module _ (s m : List ℕ) (f : Framed s) (r : 64 ≤ length m) where
  pub fits_v1 : (head : HeadV1) → head ≡ head_v1 s → is_letter (at s 3) ≡ true → Fits (SendableV1 head []) m
  fits_v1 head e l = record { room = r; sendable = rw e (head_read_v1 s f l) }

  pub fits_v2 : (head : HeadV2) → head ≡ head_v2 s → is_letter (at s 3) ≡ false → Fits (SendableV2 head []) m
  fits_v2 head e l = record { room = r; sendable = rw e (head_read_v2 s f l) }
