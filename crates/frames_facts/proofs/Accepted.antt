-- A frame's writer accepts exactly what can be sent and fits, and what it wrote is read as what was written.
use mathlib.Core.Path.{◌≡◌, refl}
use mathlib.Core.Bool.{Bool, true, and-eq-true_iff}
use mathlib.Core.List.{List}
use mathlib.Core.Logic.{◌↔◌}
use Prim.Native.Nat.{ℕ, ◌≤◌}
use native.Mathlib.Omega.{arith}
use borrow.Author.Tests.{le-ltb, ltb-false, le-leb, leb-true, not-false}
use lib.ListN.{length}
use Rattle.buffer.specs.First.{pick}
use Rattle.buffer.specs.Byte.{within, is_digit, every}
use Rattle.buffer.specs.Answer.{Answer}
use Rattle.buffer.proofs.Rules.{each}
use Rattle.frames.specs.Frame.{is_letter}
use Rattle.frame_writer.specs.Written.{data_fit, carries_v2, carries_v1, frame_written, frame_v2, frame_v1}
use Rattle.frames_facts.proofs.ReadBack.{read_back_v2, read_back_v1}
use Rattle.frames_facts.specs.Theorems.{SendableExactlyV2, SendableExactlyV1, AcceptedExactlyV2, AcceptedExactlyV1, WrittenReadV2, WrittenReadV1}

-- ---- what can be sent is what a frame can carry, with an address that it can hold

fit : (most : ℕ) (d : List ℕ) → (data_fit most d ≡ true) ↔ ((length d ≤ most) × (every (within 32 126) d ≡ true))
unfolding data_fit
fit most d = (λ e. let h = (and-eq-true_iff _ _).0 e in (leb-true (length d) most h.0, h.1), λ h. rw (le-leb (length d) most h.0) h.1)

pub sendable_exactly_v2 : SendableExactlyV2
unfolding carries_v2
sendable_exactly_v2 h d = (
  λ ok. (rw (ok.access_in, ok.first_in, ok.second_in) ((fit 99 d).1 (ok.few, ok.bytes_in)), ok.address_in),
  λ e.
      let a = (and-eq-true_iff _ (data_fit 99 d)).0 e.0 in
      let b = (and-eq-true_iff _ (within 32 126 h.second)).0 a.0 in
      let c = (and-eq-true_iff (is_digit h.access) (within 32 126 h.first)).0 b.0 in
      let f = (fit 99 d).0 a.1 in
      record { address_in = e.1; access_in = c.0; first_in = c.1; second_in = b.1; bytes_in = f.1; few = f.0 },
)

pub sendable_exactly_v1 : SendableExactlyV1
unfolding carries_v1
sendable_exactly_v1 h d = (
  λ ok. (rw ok.letter_in ((fit 6 d).1 (ok.few, ok.bytes_in)), ok.address_in),
  λ e.
      let a = (and-eq-true_iff (is_letter h.letter) (data_fit 6 d)).0 e.0 in
      let f = (fit 6 d).0 a.1 in
      record { address_in = e.1; letter_in = a.0; bytes_in = f.1; few = f.0 },
)

-- ---- what the writers accept

module _ (room : ℕ) (carried : Bool) (address : ℕ) (frame : List ℕ) where
  -- what a writer took
  abbrev Taken : Answer → Type 0
  Taken w = w.number ≡ 0 → (length frame ≤ room) × (carried ≡ true) × (within 1 999 address ≡ true) × (w.reply ≡ frame)

  taken : Taken (frame_written room carried address frame)
  unfolding frame_written
  taken =
      each Taken _ _ _ (λ _ z. absurd (omega arith)) (λ r.
      each Taken _ _ _ (λ _ z. absurd (omega arith)) (λ c.
      each Taken _ _ _ (λ _ z. absurd (omega arith)) (λ a _. (ltb-false room (length frame) r, not-false carried c, not-false _ a, refl))))

  takes : length frame ≤ room → carried ≡ true → within 1 999 address ≡ true → (frame_written room carried address frame).number ≡ 0
  unfolding frame_written pick
  takes r c a = rw (le-ltb room (length frame) r, c, a)

-- "exactly": accepted is what fits and can be sent
pub accepted_exactly_v2 : AcceptedExactlyV2
accepted_exactly_v2 room h d = (
  λ z. let t = taken room (carries_v2 h d) h.address (frame_v2 h d) z in (t.0, (sendable_exactly_v2 h d).1 (t.1, t.2)),
  λ e. let c = (sendable_exactly_v2 h d).0 e.1 in takes room (carries_v2 h d) h.address (frame_v2 h d) e.0 c.0 c.1,
)

pub accepted_exactly_v1 : AcceptedExactlyV1
accepted_exactly_v1 room h d = (
  λ z. let t = taken room (carries_v1 h d) h.address (frame_v1 h d) z in (t.0, (sendable_exactly_v1 h d).1 (t.1, t.2)),
  λ e. let c = (sendable_exactly_v1 h d).0 e.1 in takes room (carries_v1 h d) h.address (frame_v1 h d) e.0 c.0 c.1,
)

-- ---- whatever was accepted is read back

pub written_read_v2 : WrittenReadV2
written_read_v2 room h d z =
    let t = taken room (carries_v2 h d) h.address (frame_v2 h d) z in
    let b = read_back_v2 h d ((sendable_exactly_v2 h d).1 (t.1, t.2)) in
    rw t.3 (b.head, b.rest)

pub written_read_v1 : WrittenReadV1
written_read_v1 room h d z =
    let t = taken room (carries_v1 h d) h.address (frame_v1 h d) z in
    let b = read_back_v1 h d ((sendable_exactly_v1 h d).1 (t.1, t.2)) in
    rw t.3 (b.head, b.rest)
