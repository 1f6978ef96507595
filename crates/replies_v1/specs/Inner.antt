-- A frame as a V1 reply, once its first byte after the address is known to be a letter.
use Rattle.std.specs.Prelude.{not, List, [], ◌∷◌, ℕ, eqb, Err, Ok, Result}
use Rattle.buffer.specs.First.{◌⇒◌, first}
use Rattle.frames.specs.Frame.{data_from}
use Rattle.frames.specs.declared.HeadV1.{HeadV1}
use Rattle.frames.specs.declared.Frame.{Frame}
use Rattle.frames.specs.declared.Frame.TheVariants.{V1, Length, V2}
use Rattle.error_texts.specs.declared.ErrorText.TheVariants.{Logic, NoDef, Range}
use Rattle.requests.specs.declared.RequestV1.{RequestV1}
use Rattle.request_texts.specs.RequestText.{letter_v1}
use Rattle.replies_v1.specs.ReplyV1.{error_at, value_v1}
use Rattle.replies_v1.specs.declared.ReplyV1.{ReplyV1}
use Rattle.replies_v1.specs.declared.ReplyV1.TheVariants.{Error}
use Rattle.refusals.specs.declared.Refusal.{Refusal}

-- a V1 frame with this head
unfoldable pub body_v1 : ℕ → RequestV1 → HeadV1 → List ℕ → Result ReplyV1 Refusal
body_v1 address r h s =
    first
    (not (eqb h.address address) ⇒ Err Refusal.Other
    ∷ error_at 3 NoDef s ⇒ Ok (Error NoDef)
    ∷ not (eqb h.letter (letter_v1 r)) ⇒ Err Refusal.Mismatch
    ∷ error_at 4 Logic s ⇒ Ok (Error Logic)
    ∷ error_at 4 Range s ⇒ Ok (Error Range)
    ∷ [])
    (value_v1 r (data_from 4 s))

-- what bytes with this frame are
unfoldable pub via_frame : ℕ → RequestV1 → List ℕ → Result Frame Refusal → Result ReplyV1 Refusal
via_frame address r s (Err k) = Err k
via_frame address r s (Ok (V1 h)) = body_v1 address r h s
via_frame address r s (Ok (Length h)) = Err Refusal.Shape
via_frame address r s (Ok (V2 h)) = Err Refusal.Shape
