-- What the functions inside this crate promise each other.
use Rattle.std.specs.Prelude.{List, [], ◌∷◌, ℕ, Ok, Err}
use Rattle.buffer.specs.Answer.{Answer, silent}
use Rattle.opg_frame_writer.specs.Written.{written, reply_frame}
use Rattle.opg_commands.specs.Request.{request_pid, reply_cmd}
use Rattle.opg_commands.specs.declared.Request.{Request}
use Rattle.opg_commands.specs.declared.Request.TheVariants.{ReadPressure, ReadUnit, WriteUnit, DetectionOff, DetectionOn}
use Rattle.opg_frames.specs.Number.{refusal_number, error_byte, error_number}
use Rattle.opg_frames.specs.declared.ErrorByte.{ErrorByte}
use Rattle.opg_request_reader.specs.Asked.{Asked}
use Rattle.opg_request_reader.specs.declared.Denied.TheVariants.{Silent, Error}
use Rattle.opg_answer.specs.Reply.{reply_data, error_cmd}
use Rattle.opg_gauge.specs.declared.Gauge.{Gauge}

-- a reply's data, filled up with zeros
unfoldable pub reply_bytes : Gauge → Request → List ℕ
reply_bytes g (ReadPressure u) = reply_data g (ReadPressure u)
reply_bytes g ReadUnit = g.settings.unit ∷ 0 ∷ 0 ∷ 0 ∷ []
reply_bytes g (WriteUnit u) = 0 ∷ 0 ∷ 0 ∷ 0 ∷ []
reply_bytes g DetectionOff = 0 ∷ 0 ∷ 0 ∷ 0 ∷ []
reply_bytes g (DetectionOn n gas) = 0 ∷ 0 ∷ 0 ∷ 0 ∷ []

-- the frames' writer also refuses what does not fit
unfoldable pub sent_error : ℕ → ℕ → ErrorByte → Answer
sent_error room cmd e = written room (error_number e) (error_byte e ∷ []) (reply_frame (error_cmd cmd) 0xffff (error_byte e ∷ []))

unfoldable pub sent_reply : ℕ → Gauge → Request → Answer
sent_reply room g r = written room 20 (reply_data g r) (reply_frame (reply_cmd r) (request_pid r) (reply_data g r))

unfoldable pub replied : ℕ → Gauge → ℕ → Asked → Answer
replied room g cmd (Err (Silent k)) = silent (refusal_number k)
replied room g cmd (Err (Error e)) = sent_error room cmd e
replied room g cmd (Ok r) = sent_reply room g r
