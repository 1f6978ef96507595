-- Document 01, "The master's side": "The text writer refuses with 1 (less than 109 bytes lent), 4 (address outside 1 to 999), then 9, 10, 11 or
-- 12 by the rules above .., nothing written." Accepted is 0.
use Rattle.std.specs.Prelude.{not, List, [], ◌∷◌, ℕ, ltb, Err, Ok, Result}
use Rattle.buffer.specs.First.{◌⇒◌, first}
use Rattle.buffer.specs.Answer.{Answer, silent}
use Rattle.frame_writer.specs.Written.{frame_v1, frame_v2, is_address}
use Rattle.sources.specs.Source.{list_of}
use Rattle.sources.specs.declared.Sources.{Sources}
use Rattle.settings.specs.Limits.{ProfileLimits}
use Rattle.requests.specs.declared.RequestV2.{RequestV2}
use Rattle.requests.specs.declared.RequestV1.{RequestV1}
use Rattle.request_texts.specs.RequestText.{head_for, data_v2, head_for_v1, data_v1}
use Rattle.request_writer.specs.Typed.{formed_v2, formed_v1}
use Rattle.refusals.specs.Number.{refusal_number}
use Rattle.refusals.specs.declared.Refusal.{Refusal}

-- "less than 109 bytes lent", for V1 too
abbrev pub writer_room : ℕ
writer_room = 109

-- the frame of a request, or the refusal
unfoldable pub sent_v2 : ℕ → Result RequestV2 Refusal → List ℕ → Answer
sent_v2 address (Ok r) list = record { number = 0; reply = frame_v2 (head_for address r) (data_v2 r list) }
sent_v2 address (Err k) list = silent (refusal_number k)

unfoldable pub request_written_v2 : ProfileLimits → ℕ → ℕ → RequestV2 → Sources → Answer
request_written_v2 limits room address r q =
    first
    (ltb room writer_room ⇒ silent 1
    ∷ not (is_address address) ⇒ silent 4
    ∷ [])
    (sent_v2 address (formed_v2 limits r q) (list_of q))

unfoldable pub sent_v1 : ℕ → Result RequestV1 Refusal → Answer
sent_v1 address (Ok r) = record { number = 0; reply = frame_v1 (head_for_v1 address r) (data_v1 r) }
sent_v1 address (Err k) = silent (refusal_number k)

unfoldable pub request_written_v1 : ℕ → ℕ → RequestV1 → Answer
request_written_v1 room address r =
    first
    (ltb room writer_room ⇒ silent 1
    ∷ not (is_address address) ⇒ silent 4
    ∷ [])
    (sent_v1 address (formed_v1 r))
