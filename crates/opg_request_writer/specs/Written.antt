-- Document 01, "The master's side": the answer of the OPG writer.
use Rattle.std.specs.Prelude.{List, [], ◌∷◌, ℕ, ltb}
use Rattle.buffer.specs.First.{◌⇒◌, first}
use Rattle.buffer.specs.Answer.{Answer, silent}
use Rattle.opg_frame_writer.specs.Written.{request_frame}
use Rattle.opg_commands.specs.Request.{request_pid, request_cmd, request_data, outside_of}
use Rattle.opg_commands.specs.declared.Request.{Request}

-- the bytes of a request
unfoldable pub request_bytes_of : Request → List ℕ
request_bytes_of r = request_frame (request_cmd r) (request_pid r) (request_data r)

-- "The OPG writer refuses with 21 below 32 bytes, then 1002 for a value outside; nothing written." Accepted is 20, as with the gauge
unfoldable pub request_written : ℕ → Request → Answer
request_written room r =
    first
    (ltb room 32 ⇒ silent 21
    ∷ outside_of r ⇒ silent 1002
    ∷ [])
    (record { number = 20; reply = request_bytes_of r })
