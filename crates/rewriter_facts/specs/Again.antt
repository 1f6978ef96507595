-- The frame that a text request is written again with.
use Rattle.std.specs.Prelude.{List, [], ◌∷◌, ℕ, ltb, Err, Ok, Result}
use Rattle.buffer.specs.First.{◌⇒◌, first}
use Rattle.buffer.specs.Answer.{Answer, silent}
use Rattle.frame_writer.specs.Written.{frame_v1, frame_v2}
use Rattle.request_texts.specs.RequestText.{head_for, data_v2, head_for_v1, data_v1}
use Rattle.request_writer.specs.Written.{writer_room}
use Rattle.request_reader.specs.declared.Request.{Request}
use Rattle.request_reader.specs.declared.Request.TheVariants.{V1, V2}
use Rattle.refusals.specs.Number.{refusal_number}
use Rattle.refusals.specs.declared.Refusal.{Refusal}

-- the frame of a request and of the list beside it; "less than 109 bytes lent" is the writer's one refusal, and a reader's is handed on
unfoldable pub frame_again : ℕ → Result Request Refusal → List ℕ → Answer
frame_again room (Ok (V1 address r)) list = first (ltb room writer_room ⇒ silent 1 ∷ []) (record { number = 0; reply = frame_v1 (head_for_v1 address r) (data_v1 r) })
frame_again room (Ok (V2 address r)) list = first (ltb room writer_room ⇒ silent 1 ∷ []) (record { number = 0; reply = frame_v2 (head_for address r) (data_v2 r list) })
frame_again room (Err k) list = silent (refusal_number k)
