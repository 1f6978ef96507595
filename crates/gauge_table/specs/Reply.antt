-- Document 01, "Answer numbers of the text gauge": the reply's bytes.
use Rattle.std.specs.Prelude.{◌&&◌, List, [], ◌∷◌, ℕ, eqb, Err, Ok, Result}
use Rattle.buffer.specs.First.{◌⇒◌, first}
use Rattle.buffer.specs.Byte.{within}
use Rattle.frames.specs.Frame.{head_v1, head_v2}
use Rattle.frames.specs.declared.HeadV1.{HeadV1}
use Rattle.frames.specs.declared.HeadV2.{HeadV2}
use Rattle.frame_writer.specs.Written.{frame_v1, frame_v2}
use Rattle.error_texts.specs.Texts.{error_of, error_bytes}
use Rattle.frame_writer.specs.Error.{error_head_v2, error_head_v1, error_data_v1}
use Rattle.gauge_rules.specs.State.{State}
use Rattle.gauge_rules.specs.RulesV2.{answer_code, text_v2}
use Rattle.gauge_rules_v1.specs.RulesV1.{text_v1, repeats}
use Rattle.gauge_table.specs.Asked.{is_v1, asked_v2, asked_v1}
use Rattle.refusals.specs.declared.Refusal.{Refusal}
use Rattle.requests.specs.declared.RequestV2.{RequestV2}
use Rattle.requests.specs.declared.RequestV1.{RequestV1}

-- "any refused V2 request by 7", the table's text; V1's errors
abbrev pub error_v2 : ℕ → HeadV2 → List ℕ
error_v2 k h = frame_v2 (error_head_v2 h) (error_bytes (error_of k))

abbrev pub error_v1 : ℕ → HeadV1 → List ℕ
error_v1 k h = frame_v1 (error_head_v1 k h) (error_data_v1 k)

-- "read 0 is answered by 1, write 2 by 3, factory default 4 by 5": address and command as in the request
abbrev pub answer_head : HeadV2 → ℕ → HeadV2
answer_head h code = record { address = h.address; access = code; first = h.first; second = h.second }

-- the reply to an accepted request; a write of DA is answered from the old address, which is the request's
unfoldable pub accepted_v2 : State → HeadV2 → Result RequestV2 Refusal → List ℕ
accepted_v2 g h (Ok r) = frame_v2 (answer_head h (answer_code r)) (text_v2 g r)
accepted_v2 g h (Err k) = []

-- "Set replies repeat the request."
unfoldable pub accepted_v1 : State → List ℕ → HeadV1 → Result RequestV1 Refusal → List ℕ
accepted_v1 g s h (Ok r) = first (repeats r ⇒ s ∷ []) (frame_v1 h (text_v1 g r))
accepted_v1 g s h (Err k) = []

-- 1 to 5 are silent
unfoldable pub reply_of : State → List ℕ → ℕ → List ℕ
reply_of g s k =
    first
    (within 1 5 k ⇒ []
    ∷ (is_v1 s && eqb k 0) ⇒ accepted_v1 g s (head_v1 s) (asked_v1 s)
    ∷ is_v1 s ⇒ error_v1 k (head_v1 s)
    ∷ eqb k 0 ⇒ accepted_v2 g (head_v2 s) (asked_v2 g.limits s)
    ∷ [])
    (error_v2 k (head_v2 s))
