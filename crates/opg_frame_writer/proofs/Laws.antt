-- Laws of frames that are written.
use mathlib.Core.Path.{◌≡◌, sym, ◌∙◌}
use mathlib.Core.List.{List}
use Prim.Native.Nat.{ℕ, ◌+◌, ◌<◌, ◌≤◌}
use native.Mathlib.Nat.{zero-add}
use native.Mathlib.Omega.{arith}
use lib.ListN.{length, take, length-append}
use Rattle.buffer.specs.Answer.{silent, Stored}
use Rattle.buffer.proofs.Laws.{then, front}
use Rattle.buffer.proofs.Rules.{rules}
use Rattle.opg_frames.specs.Frame.{crc_bytes}
use Rattle.opg_frame_writer.specs.Written.{sealed, frame, written}

pub length_frame : (id header cmd pid : ℕ) (bytes : List ℕ) → length (frame id header cmd pid bytes) ≡ length bytes + 12
unfolding frame sealed crc_bytes
length_frame id header cmd pid bytes = simp length-append (omega arith)

-- a body stored at the front, and then its CRC: the sealed body is stored
pub seals : {m m₁ m₂ b : List ℕ} (p : ℕ) → Stored m 0 b m₁ → p ≡ length b → length b ≤ length m → Stored m₁ p (crc_bytes (take p m₁)) m₂ → Stored m 0 (sealed b) m₂
unfolding sealed
seals p f n h g = then p f (n ∙ sym (zero-add _)) (rw (front p f n h) at g)

-- what a frame's writer answers, by its tests
module _ (room number : ℕ) (bytes whole : List ℕ) where
  pub no_room : room < 32 → written room number bytes whole ≡ silent 21
  unfolding written
  no_room h = sym (search rules)

  pub too_long : 32 ≤ room → room < length whole → written room number bytes whole ≡ silent 21
  unfolding written
  too_long h k = sym (search rules)

  pub too_many : 32 ≤ room → length whole ≤ room → 65530 < length bytes → written room number bytes whole ≡ silent 22
  unfolding written
  too_many h k l = sym (search rules)

  pub fits : length whole ≤ room → 32 ≤ room → length bytes ≤ 65530 → written room number bytes whole ≡ record { number = number; reply = whole }
  unfolding written
  fits k h l = sym (search rules)
