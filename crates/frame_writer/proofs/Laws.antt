-- Laws of frames that are written.
use mathlib.Core.Path.{◌≡◌, refl, sym, ap, ◌∙◌}
use mathlib.Core.Bool.{Bool, true, false, not}
use mathlib.Core.List.{List, [], ◌∷◌, ◌++◌}
use Prim.Native.Nat.{ℕ, ◌+◌, ◌<◌, ◌≤◌}
use native.Mathlib.Nat.{zero-add}
use native.Mathlib.Omega.{arith}
use lib.ListN.{length, take, length-append}
use Rattle.buffer.specs.Byte.{within, digits2, digits3}
use Rattle.buffer.specs.Answer.{Answer, silent, over, Stored, Sent}
use Rattle.buffer.specs.declared.Written.{Written}
use Rattle.buffer.proofs.Laws.{then, front}
use Rattle.buffer.proofs.Rules.{rules}
use Rattle.refusals.specs.Number.{refusal_number}
use Rattle.refusals.specs.declared.Refusal.{Refusal}
use Rattle.frames.specs.Checksum.{end_of, closed}
use Rattle.frames.specs.declared.HeadV1.{HeadV1}
use Rattle.frames.specs.declared.HeadV2.{HeadV2}
use Rattle.frame_writer.specs.Written.{carries_v1, carries_v2, frame_written, frame_v1, frame_v2, written_v1, written_v2}

pub length_closed : (head bytes : List ℕ) → length (closed (head ++ bytes)) ≡ length head + length bytes + 2
unfolding closed end_of
length_closed head bytes = simp length-append (omega arith)

-- a body stored at the front, and then its checksum and CR: the closed body is stored
pub closes : {m m₁ m₂ b : List ℕ} (p : ℕ) → Stored m 0 b m₁ → p ≡ length b → length b ≤ length m → Stored m₁ p (end_of (take p m₁)) m₂ → Stored m 0 (closed b) m₂
unfolding closed
closes p f n h g = then p f (n ∙ sym (zero-add _)) (rw (front p f n h) at g)

-- a refusal's answer
pub refuses_by : (m : List ℕ) (k : Refusal) {a : Answer} (w : Written) → a ≡ silent (refusal_number k) → w.number ≡ refusal_number k → w.len ≡ 0 → Sent m a m w
unfolding over
refuses_by m k w e n l = rw e (record { number = n; len = l; memory = refl })

-- what a frame's writer answers, by its tests
module _ (room : ℕ) (carried : Bool) (address : ℕ) (frame : List ℕ) where
  pub no_room : room < length frame → frame_written room carried address frame ≡ silent 1
  unfolding frame_written
  no_room h = sym (search rules)

  pub no_frame : length frame ≤ room → not carried ≡ true → frame_written room carried address frame ≡ silent 2
  unfolding frame_written
  no_frame h k = sym (search rules)

  pub outside : length frame ≤ room → not carried ≡ false → not (within 1 999 address) ≡ true → frame_written room carried address frame ≡ silent 4
  unfolding frame_written
  outside h k o = sym (search rules)

  pub written : length frame ≤ room → not carried ≡ false → not (within 1 999 address) ≡ false
      → frame_written room carried address frame ≡ record { number = 0; reply = frame }
  unfolding frame_written
  written h k o = sym (search rules)

-- ---- frames that fit are written whole

pub length_v2 : (h : HeadV2) (bytes : List ℕ) → length (frame_v2 h bytes) ≡ 10 + length bytes
unfolding frame_v2
length_v2 h bytes =
    let e = length_closed (digits3 h.address ++ (h.access ∷ h.first ∷ h.second ∷ []) ++ digits2 (length bytes)) bytes in
    omega (arith, e)

pub length_v1 : (h : HeadV1) (bytes : List ℕ) → length (frame_v1 h bytes) ≡ 6 + length bytes
unfolding frame_v1
length_v1 h bytes =
    let e = length_closed (digits3 h.address ++ (h.letter ∷ [])) bytes in
    omega (arith, e)

module _ (m m' bytes : List ℕ) (w : Written) where
  pub sent_v2_lem : (h : HeadV2) → 10 + length bytes ≤ length m → carries_v2 h bytes ≡ true → within 1 999 h.address ≡ true → Sent m (written_v2 (length m) h bytes) m' w
      → Sent m (record { number = 0; reply = frame_v2 h bytes }) m' w
  sent_v2_lem h r c a s = rw (written (length m) (carries_v2 h bytes) h.address (frame_v2 h bytes) (omega (arith, length_v2 h bytes)) (ap not c) (ap not a)) at s

  pub sent_v1 : (h : HeadV1) → 6 + length bytes ≤ length m → carries_v1 h bytes ≡ true → within 1 999 h.address ≡ true → Sent m (written_v1 (length m) h bytes) m' w
      → Sent m (record { number = 0; reply = frame_v1 h bytes }) m' w
  sent_v1 h r c a s = rw (written (length m) (carries_v1 h bytes) h.address (frame_v1 h bytes) (omega (arith, length_v1 h bytes)) (ap not c) (ap not a)) at s
