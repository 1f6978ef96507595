-- Any bytes as a typed request, whatever the gauge's state: the address and the request, or the first refusal of document 01's table that needs
-- no state, 2 to 4 and 6 to 12. (5 needs the gauge's address; 12 is ST's F and T, and SM's list.)
use Rattle.std.specs.Prelude.{not, List, [], ◌∷◌, ℕ, Err, Ok, Result}
use Rattle.buffer.specs.First.{◌⇒◌, first}
use Rattle.frames.specs.Frame.{data_from, frame_of}
use Rattle.frames.specs.declared.Frame.{Frame}
use Rattle.frames.specs.declared.Frame.TheVariants as frame
use Rattle.sources.specs.Beside.{Beside}
use Rattle.sources.specs.declared.WithSources.{WithSources}
use Rattle.settings.specs.Limits.{ProfileLimits, is_factor}
use Rattle.requests.specs.AskV2.{ask_v2, ask_list}
use Rattle.requests.specs.AskV1.{ask_v1}
use Rattle.requests.specs.declared.RequestV2.{RequestV2}
use Rattle.requests.specs.declared.RequestV1.{RequestV1}
use Rattle.requests.specs.declared.RequestV1.TheVariants.{Measure, ReadFactor, Unlock, SetFactor, ReadUnit, SetUnit}
use Rattle.request_reader.specs.declared.Request.{Request}
use Rattle.request_reader.specs.declared.Request.TheVariants.{V1, V2}
use Rattle.refusals.specs.Number.{number_in}
use Rattle.refusals.specs.declared.Refusal.{Refusal}

unfoldable pub from_v2 : ℕ → Result RequestV2 Refusal → Result Request Refusal
from_v2 address (Ok r) = Ok (V2 address r)
from_v2 address (Err k) = Err k

-- "`c` with six digits .. writes 20 to 800": without a lock the number is judged at once
unfoldable pub judged_v1 : ℕ → RequestV1 → Result Request Refusal
judged_v1 address Measure = Ok (V1 address Measure)
judged_v1 address ReadFactor = Ok (V1 address ReadFactor)
judged_v1 address Unlock = Ok (V1 address Unlock)
judged_v1 address (SetFactor n) = first (not (is_factor n) ⇒ Err Refusal.Range ∷ []) (Ok (V1 address (SetFactor n)))
judged_v1 address ReadUnit = Ok (V1 address ReadUnit)
judged_v1 address (SetUnit u) = Ok (V1 address (SetUnit u))

unfoldable pub from_v1 : ℕ → Result RequestV1 Refusal → Result Request Refusal
from_v1 address (Ok r) = judged_v1 address r
from_v1 address (Err k) = Err k

-- what a frame asks of a gauge of these limits, by the gauge's own decoding (`ask_v2`, `ask_v1`)
unfoldable pub from_frame : ProfileLimits → List ℕ → Result Frame Refusal → Result Request Refusal
from_frame limits s (Err k) = Err k
from_frame limits s (Ok (frame.V1 h)) = from_v1 h.address (ask_v1 h.letter (data_from 4 s))
from_frame limits s (Ok (frame.Length h)) = Err Refusal.Length
from_frame limits s (Ok (frame.V2 h)) = from_v2 h.address (ask_v2 limits h (data_from 8 s))

unfoldable pub request_of : ProfileLimits → List ℕ → Result Request Refusal
request_of limits s = from_frame limits s (frame_of s)

-- the sources that a write of SM lists; none beside any other request
unfoldable pub list_from : ProfileLimits → List ℕ → Result Frame Refusal → List ℕ
list_from limits s (Err k) = []
list_from limits s (Ok (frame.V1 h)) = []
list_from limits s (Ok (frame.Length h)) = []
list_from limits s (Ok (frame.V2 h)) = ask_list limits h (data_from 8 s)

unfoldable pub request_list : ProfileLimits → List ℕ → List ℕ
request_list limits s = list_from limits s (frame_of s)

-- document 01's number for each answer: 0 where the bytes are a request
abbrev pub request_number : Result Request Refusal → ℕ
request_number r = number_in r

-- what the bytes ask, and beside it the sources of a write of SM
abbrev pub Decodes : ProfileLimits → List ℕ → WithSources (Result Request Refusal) → Type 0
Decodes limits s r = Beside (request_of limits s) (request_list limits s) r
