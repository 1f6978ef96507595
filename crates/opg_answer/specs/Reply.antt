-- Document 01, "OPG frames": the gauge's answer to any bytes, with any memory lent.
use Rattle.std.specs.Prelude.{List, [], ◌∷◌, ℕ, eqb, Ok, Err}
use Rattle.buffer.specs.First.{pick}
use Rattle.buffer.specs.Answer.{Answer, silent}
use Rattle.opg_frames.specs.Frame.{cmd_of}
use Rattle.opg_frames.specs.Number.{refusal_number, error_byte, error_number}
use Rattle.opg_frame_writer.specs.Written.{reply_frame}
use Rattle.opg_units.specs.Units.{bits_in}
use Rattle.opg_commands.specs.Request.{quad, request_pid, reply_cmd}
use Rattle.opg_commands.specs.declared.Request.{Request}
use Rattle.opg_commands.specs.declared.Request.TheVariants.{ReadPressure, ReadUnit, WriteUnit, DetectionOff, DetectionOn}
use Rattle.opg_request_reader.specs.Asked.{Asked}
use Rattle.opg_request_reader.specs.declared.Denied.TheVariants.{Silent, Error}
use Rattle.opg_gauge.specs.Judged.{judgement, after}
use Rattle.opg_gauge.specs.declared.Gauge.{Gauge}
use Rattle.opg_gauge.specs.declared.Pressure.{Pressure}
use Rattle.opg_gauge.specs.declared.Pressure.TheVariants.{Bits, Unavailable}

-- the stored bits; nothing asks for those of an unavailable pressure
unfoldable pub bits_of : Pressure → ℕ
bits_of (Bits w) = w
bits_of Unavailable = 0

-- "0 the master unit"
unfoldable pub unit_of : Gauge → ℕ → ℕ
unit_of g u = pick (eqb u 0) g.settings.unit u

-- "reply the f32, high byte first"; the unit; "no data after a write"
unfoldable pub reply_data : Gauge → Request → List ℕ
reply_data g (ReadPressure u) = quad (bits_in (unit_of g u) (bits_of g.pressure))
reply_data g ReadUnit = g.settings.unit ∷ []
reply_data g (WriteUnit u) = []
reply_data g DetectionOff = []
reply_data g (DetectionOn n gas) = []

-- "CMD 4 where the request's CMD byte is 3 and 2 otherwise"
unfoldable pub error_cmd : ℕ → ℕ
error_cmd cmd = pick (eqb cmd 3) 4 2

-- the answer to a request with this CMD byte: 22 and 23 "are silent"; "An error reply has PID 0xFFFF, IDX 0, one byte e"; "Accepted is 20;
-- the reply has CMD plus 1, the same PID, IDX 0"
unfoldable pub reply_to : Gauge → ℕ → Asked → Answer
reply_to g cmd (Err (Silent k)) = silent (refusal_number k)
reply_to g cmd (Err (Error e)) = record { number = error_number e; reply = reply_frame (error_cmd cmd) 0xffff (error_byte e ∷ []) }
reply_to g cmd (Ok r) = record { number = 20; reply = reply_frame (reply_cmd r) (request_pid r) (reply_data g r) }

unfoldable pub answer_of : ℕ → Gauge → List ℕ → Answer
answer_of room g s = reply_to g (cmd_of s) (judgement room g s)

unfoldable pub after_of : ℕ → Gauge → List ℕ → Gauge
after_of room g s = after g (judgement room g s)
