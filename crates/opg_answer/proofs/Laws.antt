-- Laws of the gauge's replies.
use mathlib.Core.Path.{◌≡◌, refl}
use mathlib.Core.Bool.{Bool, true, false}
use mathlib.Core.List.{List, [], ◌∷◌}
use Prim.Native.Nat.{ℕ, ◌≤◌}
use native.Mathlib.Omega.{arith}
use borrow.Author.Tests.{ltb-false}
use lib.Dec.{ltb}
use lib.ListN.{length, take}
use Rattle.buffer.specs.First.{pick}
use Rattle.opg_frames.specs.Frame.{cmd_of}
use Rattle.opg_frame_writer.proofs.Laws.{length_frame, fits}
use Rattle.opg_commands.specs.Request.{reply_count}
use Rattle.opg_commands.specs.declared.Request.{Request}
use Rattle.opg_commands.specs.declared.Request.TheVariants.{ReadPressure, ReadUnit, WriteUnit, DetectionOff, DetectionOn}
use Rattle.std.proofs.Common.{Ok, Err}
use Rattle.opg_frames.specs.Number.{error_byte, error_number}
use Rattle.opg_frames.specs.declared.Refusal.TheVariants.{Room}
use Rattle.opg_request_reader.specs.Asked.{Asked, silent}
use Rattle.opg_request_reader.specs.declared.Denied.TheVariants.{Silent, Error}
use Rattle.opg_gauge.specs.Judged.{judgement}
use Rattle.opg_gauge.specs.declared.Gauge.{Gauge}
use Rattle.opg_answer.specs.Reply.{reply_data, reply_to, answer_of}
use Rattle.opg_answer.specs.Inner.{reply_bytes, sent_error, sent_reply, replied}

-- as many of the bytes as a reply has data are its data
pub data_is : (g : Gauge) (r : Request) → take (reply_count r) (reply_bytes g r) ≡ reply_data g r
unfolding reply_count reply_bytes reply_data
data_is g (ReadPressure u) = refl
data_is g ReadUnit = refl
data_is g (WriteUnit u) = refl
data_is g DetectionOff = refl
data_is g (DetectionOn n gas) = refl

pub data_count : (g : Gauge) (r : Request) → length (reply_data g r) ≡ reply_count r
unfolding reply_count reply_data
data_count g (ReadPressure u) = refl
data_count g ReadUnit = refl
data_count g (WriteUnit u) = refl
data_count g DetectionOff = refl
data_count g (DetectionOn n gas) = refl

pub count_le : (g : Gauge) (r : Request) → reply_count r ≤ 4
unfolding reply_count
count_le g (ReadPressure u) = omega arith
count_le g ReadUnit = omega arith
count_le g (WriteUnit u) = omega arith
count_le g DetectionOff = omega arith
count_le g (DetectionOn n gas) = omega arith

pub bytes_four : (g : Gauge) (r : Request) → length (reply_bytes g r) ≡ 4
unfolding reply_bytes reply_data
bytes_four g (ReadPressure u) = refl
bytes_four g ReadUnit = refl
bytes_four g (WriteUnit u) = refl
bytes_four g DetectionOff = refl
bytes_four g (DetectionOn n gas) = refl

-- with 32 bytes lent every reply fits
pub replied_is : (room : ℕ) (g : Gauge) (cmd : ℕ) (a : Asked) → 32 ≤ room → replied room g cmd a ≡ reply_to g cmd a
unfolding replied reply_to sent_error sent_reply
replied_is room g cmd (Err (Silent k)) h = refl
replied_is room g cmd (Err (Error e)) h = fits room (error_number e) (error_byte e ∷ []) _ (rw length_frame (omega arith)) h (omega arith)
replied_is room g cmd (Ok r) h =
    let n : length (reply_data g r) ≤ 4 = rw (data_count g r) (count_le g r) in
    fits room 20 (reply_data g r) _ (rw length_frame (omega arith)) h (omega arith)

-- and with less there is none
little : (room : ℕ) (g : Gauge) (s : List ℕ) → ltb room 32 ≡ true → judgement room g s ≡ silent Room
unfolding judgement pick
little room g s e = rw e

pub answer_is : (room : ℕ) (g : Gauge) (s : List ℕ) → replied room g (cmd_of s) (judgement room g s) ≡ answer_of room g s
unfolding answer_of replied reply_to
answer_is room g s = go (ltb room 32) refl
  where
    go : (b : Bool) → ltb room 32 ≡ b → replied room g (cmd_of s) (judgement room g s) ≡ reply_to g (cmd_of s) (judgement room g s)
    go true e = rw (little room g s e)
    go false e = replied_is room g (cmd_of s) (judgement room g s) (ltb-false room 32 e)
