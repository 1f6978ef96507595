-- Every reply lies within the memory lent: below 32 bytes there is none, and no reply is longer.
use mathlib.Core.List.{List}
use Prim.Native.Nat.{ℕ, ◌≤◌}
use native.Mathlib.Omega.{arith}
use borrow.Author.Tests.{ltb-false}
use lib.ListN.{length}
use Rattle.buffer.proofs.Rules.{each}
use Rattle.opg_frames.specs.Frame.{cmd_of}
use Rattle.opg_frame_writer.proofs.Laws.{length_frame}
use Rattle.opg_commands.specs.declared.Request.{Request}
use Rattle.opg_commands.specs.declared.Request.TheVariants.{ReadPressure, ReadUnit, WriteUnit, DetectionOff, DetectionOn}
use Rattle.std.proofs.Common.{Ok, Err}
use Rattle.opg_frames.specs.declared.Refusal.{Refusal}
use Rattle.opg_frames.specs.declared.Refusal.TheVariants.{Room}
use Rattle.opg_frames.specs.declared.ErrorByte.{ErrorByte}
use Rattle.opg_request_reader.specs.Asked.{Asked, silent, error}
use Rattle.opg_request_reader.specs.declared.Denied.TheVariants.{Silent, Error}
use Rattle.opg_gauge.specs.Judged.{judgement}
use Rattle.opg_gauge.specs.declared.Gauge.{Gauge}
use Rattle.opg_answer.specs.Reply.{reply_data, reply_to, answer_of}
use Rattle.opg_facts.specs.Theorems.{WithinLent}

module _ (g : Gauge) (cmd room : ℕ) where
  Fits : Asked → Type 0
  Fits a = length (reply_to g cmd a).reply ≤ room

  silent_fits : (k : Refusal) → Fits (silent k)
  unfolding Fits reply_to
  silent_fits k = omega arith

  error_fits : 32 ≤ room → (e : ErrorByte) → Fits (error e)
  unfolding Fits reply_to
  error_fits h e = rw length_frame (omega arith)

  accepted_fits : 32 ≤ room → (r : Request) → Fits (Ok r)
  unfolding Fits reply_to reply_data
  accepted_fits h (ReadPressure u) = rw length_frame (omega arith)
  accepted_fits h ReadUnit = rw length_frame (omega arith)
  accepted_fits h (WriteUnit u) = rw length_frame (omega arith)
  accepted_fits h DetectionOff = rw length_frame (omega arith)
  accepted_fits h (DetectionOn n gas) = rw length_frame (omega arith)

  asked_fits : 32 ≤ room → (a : Asked) → Fits a
  asked_fits h (Err (Silent k)) = silent_fits k
  asked_fits h (Err (Error e)) = error_fits h e
  asked_fits h (Ok r) = accepted_fits h r

  judged_fits : (s : List ℕ) → Fits (judgement room g s)
  unfolding judgement
  judged_fits s = each Fits _ _ _ (λ _. silent_fits Room) (λ e. asked_fits (ltb-false room 32 e) _)

-- in any state, for any bytes and any memory lent
pub within_lent : WithinLent
unfolding answer_of Fits
within_lent room g s = judged_fits g (cmd_of s) room s
