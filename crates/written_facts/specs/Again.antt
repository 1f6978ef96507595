-- Demand 2: "A typed request that the writer accepts, once written and read again, is the same request.": what is written, and what it is to be
-- read as.
use Rattle.std.specs.Prelude.{◌≡◌, List, ℕ, Ok}
use Rattle.buffer.specs.Answer.{Answer}
use Rattle.sources.specs.Source.{list_of}
use Rattle.sources.specs.declared.Sources.{Sources}
use Rattle.settings.specs.Limits.{ProfileLimits}
use Rattle.requests.specs.declared.RequestV2.{RequestV2}
use Rattle.requests.specs.declared.RequestV1.{RequestV1}
use Rattle.request_writer.specs.Written.{request_written_v2, request_written_v1}
use Rattle.request_reader.specs.Decoded.{request_of, request_list}
use Rattle.request_reader.specs.declared.Request.TheVariants.{V1, V2}
use Rattle.written_facts.specs.Same.{SameV2, SameList}

-- a typed request; with V2 the list beside it
pub data Typed : Type 0 where
  in_v1 : RequestV1 → Typed
  in_v2 : RequestV2 → Sources → Typed

-- what the writer of its protocol, told a profile's limits, answers, with `room` bytes lent
abbrev pub written : ProfileLimits → ℕ → ℕ → Typed → Answer
written limits room address (in_v1 r) = request_written_v1 room address r
written limits room address (in_v2 r q) = request_written_v2 limits room address r q

-- bytes that are read as the request r at this address, with this list
pub record BackV2 (limits : ProfileLimits) (address : ℕ) (r : RequestV2) (list s : List ℕ) : Type 0 where
  pub again : RequestV2
  pub read : request_of limits s ≡ Ok (V2 address again)
  pub same : SameV2 r again
  pub listed : SameList r (request_list limits s) list

-- the bytes s are read as this request to this address: V1 by equality; V2 with numbers by value, and the list for a write of SM
abbrev pub ReadAs : ProfileLimits → ℕ → Typed → List ℕ → Type 0
ReadAs limits address (in_v1 r) s = request_of limits s ≡ Ok (V1 address r)
ReadAs limits address (in_v2 r q) s = BackV2 limits address r (list_of q) s
