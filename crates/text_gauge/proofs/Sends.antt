-- Replies that fit are written whole.
use mathlib.Core.Path.{refl}
use mathlib.Core.List.{List, []}
use Prim.Native.Nat.{ℕ, ◌≤◌}
use native.Mathlib.Omega.{arith}
use lib.ListN.{length}
use Rattle.buffer.specs.Answer.{Answer, Sent}
use Rattle.buffer.specs.declared.Written.{Written}
use Rattle.buffer.proofs.Rules.{each}
use Rattle.frames.specs.declared.HeadV1.{HeadV1}
use Rattle.frames.specs.declared.HeadV2.{HeadV2}
use Rattle.frame_writer.specs.Written.{frame_v1, frame_v2, written_v1, written_v2}
use Rattle.frame_writer.proofs.Laws as laws
use Rattle.frame_writer.specs.Sendable.{SendableV1, SendableV2}
use Rattle.frames_facts.proofs.Accepted.{sendable_exactly_v1, sendable_exactly_v2}
use Rattle.decimal.specs.declared.Number.{Number}
use Rattle.readings.specs.Measure.{six_of, rounded_text, measure_text}
use Rattle.readings.specs.declared.Pressure.{Pressure}
use Rattle.readings.specs.declared.Pressure.TheVariants.{Measured, UnderRange, OverRange, Faulty}
use Rattle.requests.specs.declared.RequestV1.{RequestV1}
use Rattle.requests.specs.declared.RequestV1.TheVariants.{Measure, ReadFactor, Unlock, SetFactor, ReadUnit, SetUnit}
use Rattle.error_texts.specs.Texts.{error_of, error_bytes}
use Rattle.frame_writer.specs.Error.{error_head_v2, error_head_v1, error_data_v1}
use Rattle.printed_facts.proofs.Fits.{error_le}
use Rattle.gauge_table.specs.Reply.{error_v2, error_v1}
use Rattle.gauge_table.proofs.Sendable.{error_sendable_v2, error_sendable_v1}
use Rattle.text_gauge.specs.Inner.{Fits, with_number}
use Rattle.gauge_rules.specs.State.{State}
use Rattle.gauge_rules_v1.specs.RulesV1.{text_v1}

-- a V2 frame with at most 24 data
pub sent_v2_lem : (m m' : List ℕ) (h : HeadV2) (bytes : List ℕ) (w : Written) → 64 ≤ length m → SendableV2 h bytes → length bytes ≤ 24 → Sent m (written_v2 (length m) h bytes) m' w
    → Sent m (record { number = 0; reply = frame_v2 h bytes }) m' w
sent_v2_lem m m' h bytes w r ok n s =
    let c = (sendable_exactly_v2 h bytes).0 ok in
    laws.sent_v2_lem m m' bytes w h (omega arith) c.0 c.1 s

-- a V1 frame
pub sent_v1 : (m m' : List ℕ) (h : HeadV1) (bytes : List ℕ) (w : Written) → 64 ≤ length m → SendableV1 h bytes → Sent m (written_v1 (length m) h bytes) m' w
    → Sent m (record { number = 0; reply = frame_v1 h bytes }) m' w
sent_v1 m m' h bytes w r ok s =
    let c = (sendable_exactly_v1 h bytes).0 ok in
    laws.sent_v1 m m' bytes w h (omega (arith, ok.few)) c.0 c.1 s

-- ---- error frames

-- an answer with another number, by the answer itself
numbered : (m m' : List ℕ) (k : ℕ) (a : Answer) (reply : List ℕ) (w : Written) → Sent m (with_number k a) m' w
    → (Sent m a m' (record { number = a.number; len = w.len }) → Sent m (record { number = 0; reply = reply }) m' (record { number = a.number; len = w.len })) → Sent m (record { number = k; reply = reply }) m' w
numbered m m' k a reply w s f =
    let x = f (record { number = refl; len = s.len; memory = s.memory }) in
    record { number = s.number; len = x.len; memory = x.memory }

pub error_sent_v2 : (m m' : List ℕ) (h : HeadV2) (k : ℕ) (w : Written) → Fits (SendableV2 h []) m
    → Sent m (with_number k (written_v2 (length m) (error_head_v2 h) (error_bytes (error_of k)))) m' w → Sent m (record { number = k; reply = error_v2 k h }) m' w
error_sent_v2 m m' h k w p s =
    let e = error_of k in
    numbered m m' k _ _ w s (sent_v2_lem m m' (error_head_v2 h) (error_bytes e) _ p.room (error_sendable_v2 h e p.sendable) (omega (arith, error_le e)))

pub error_sent_v1 : (m m' : List ℕ) (h : HeadV1) (k : ℕ) (w : Written) → Fits (SendableV1 h []) m
    → Sent m (with_number k (written_v1 (length m) (error_head_v1 k h) (error_data_v1 k))) m' w → Sent m (record { number = k; reply = error_v1 k h }) m' w
error_sent_v1 m m' h k w p s = numbered m m' k _ _ w s (sent_v1 m m' (error_head_v1 k h) (error_data_v1 k) _ p.room (error_sendable_v1 k h p.sendable))

-- ---- lengths of data

abbrev Six : List ℕ → Type 0
Six l = length l ≤ 6

rounded_le : (n : Number) → length (rounded_text n) ≤ 6
unfolding rounded_text six_of
rounded_le n = each Six _ _ _ (λ _. omega arith) (λ _. omega arith)

measure_le : (p : Pressure) → length (measure_text p) ≤ 6
unfolding measure_text six_of
measure_le (Measured n) = rounded_le n
measure_le UnderRange = omega arith
measure_le OverRange = omega arith
measure_le Faulty = omega arith

pub text_v1_le : (g : State) (r : RequestV1) → length (text_v1 g r) ≤ 6
unfolding text_v1
text_v1_le g Measure = measure_le g.readings.p0
text_v1_le g ReadFactor = omega arith
text_v1_le g Unlock = omega arith
text_v1_le g (SetFactor n) = omega arith
text_v1_le g ReadUnit = omega arith
text_v1_le g (SetUnit u) = omega arith
