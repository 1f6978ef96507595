-- Requests read and written again, by the definitions of the readers and the writers.
use Rattle.std.specs.Prelude.{List, ℕ, length, Err, Ok, Result}
use Rattle.buffer.specs.Answer.{Answer, silent, Sent}
use Rattle.buffer.specs.declared.Written.{Written}
use Rattle.settings.specs.Limits.{ProfileLimits}
use Rattle.sources.specs.declared.Sources.{Sources}
use Rattle.sources.specs.declared.WithSources.{WithSources}
use Rattle.request_reader.specs.Decoded.{Decodes}
use Rattle.request_reader.specs.declared.Request.{Request}
use Rattle.request_reader.specs.declared.Request.TheVariants.{V1, V2}
use Rattle.request_writer.specs.Written.{request_written_v1, request_written_v2}
use Rattle.opg_request_reader.specs.Asked.{Asked, denied_number}
use Rattle.opg_request_writer.specs.Written.{request_written}
use Rattle.refusals.specs.Number.{refusal_number}
use Rattle.refusals.specs.declared.Refusal.{Refusal}

-- a text request that was read, written again into so much memory; a refusal is handed on
unfoldable pub text_again : ProfileLimits → ℕ → Result Request Refusal → Sources → Answer
text_again limits room (Ok (V1 address r)) q = request_written_v1 room address r
text_again limits room (Ok (V2 address r)) q = request_written_v2 limits room address r q
text_again limits room (Err k) q = silent (refusal_number k)

-- the bytes s, read as a text request and written again
pub record Rewritten (limits : ProfileLimits) (s before after : List ℕ) (w : Written) : Type 0 where
  pub decoded : WithSources (Result Request Refusal)
  pub decodes : Decodes limits s decoded
  pub sent : Sent before (text_again limits (length before) decoded.value decoded.sources) after w

-- an OPG request that was read, written again
unfoldable pub opg_again : ℕ → Asked → Answer
opg_again room (Ok r) = request_written room r
opg_again room (Err d) = silent (denied_number d)
