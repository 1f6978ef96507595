-- What is proved here, each statement as a type; proofs/ has the proofs.
use Rattle.std.specs.Prelude.{◌≡◌, List, ◌∷◌, Bool, true, cond, ℕ, ◌≤◌, ltb, Ok, Result}
use Rattle.frame_writer.specs.Written.{frame_v1, frame_v2}
use Rattle.requests.specs.declared.RequestV2.{RequestV2}
use Rattle.requests.specs.declared.RequestV1.{RequestV1}
use Rattle.request_texts.specs.RequestText.{head_for, data_v2, head_for_v1, data_v1}
use Rattle.request_writer.specs.Written.{writer_room, request_written_v2, request_written_v1}
use Rattle.request_reader.specs.Decoded.{request_list, Decodes}
use Rattle.request_reader.specs.declared.Request.TheVariants.{V1, V2}
use Rattle.request_reader.specs.declared.Request.{Request}
use Rattle.refusals.specs.declared.Refusal.{Refusal}
use Rattle.sources.specs.declared.WithSources.{WithSources}
use Rattle.buffer.specs.Byte.{every}
use Rattle.sources.specs.Source.{list_text}
use Rattle.settings.specs.Limits.{ProfileLimits}
use Rattle.forms_facts.specs.Sound.{Proper}
use Rattle.settings.specs.declared.Key.TheVariants.{SM}
use Rattle.forms.specs.Judged.{verdict_of}
use Rattle.request_writer.specs.Typed.{typed_stream}
use Rattle.settings.specs.declared.Transition.TheVariants.{Direct, Between}
use Rattle.settings.specs.declared.Setting.TheVariants.{Switch}
use Rattle.requests.specs.declared.RequestV2.TheVariants.{Set}
use Rattle.written_facts.specs.Again.{Typed, written, ReadAs}
use Rattle.written_facts.specs.Examples.{right, cases, number}
use Rattle.written_facts.specs.Same.{SameV2}

-- Demand 2: "A typed request that the writer accepts, once written and read again, is the same request." One statement for both protocols,
-- over a profile's limits: the writer and the reader are told the same profile
abbrev pub RequestAgain : Type 0
RequestAgain = (limits : ProfileLimits) → Proper limits → (room address : ℕ) (t : Typed) → (written limits room address t).number ≡ 0 → ReadAs limits address t (written limits room address t).reply

-- "Numbers are the same by value": requests with another number are not the same
abbrev pub OtherNumber : Type 0
OtherNumber = SameV2 (Set (Switch (Direct (number 5 14)))) (Set (Switch (Direct (number 6 14)))) → ⊥

-- nor are those with another form of ST
abbrev pub OtherForm : Type 0
OtherForm = SameV2 (Set (Switch (Direct (number 5 14)))) (Set (Switch (Between (number 5 14) (number 6 14)))) → ⊥

-- and 5 and 5.0 are
abbrev pub ByValue : Type 0
ByValue = SameV2 (Set (Switch (Direct (number 5 14)))) (Set (Switch (Direct (number 500000 9))))

-- the writer judges a list of codes of one digit, of any length, unknown sources and repeats among them, as the gauge and the readers judge
-- its text
abbrev pub JudgedAlike : Type 0
JudgedAlike = (limits : ProfileLimits) → Proper limits → (on : Bool) (list : List ℕ) → every (λ c. ltb c 10) list ≡ true → typed_stream limits on list ≡ verdict_of limits SM (cond on 52 48 ∷ list_text list)

-- a request that was read is a good request: the writer accepts it, whatever the bytes were, and writes the one frame that they fix
abbrev pub AcceptedV2 : Type 0
AcceptedV2 = (limits : ProfileLimits) (room : ℕ) → writer_room ≤ room → (s : List ℕ) (d : WithSources (Result Request Refusal)) → Decodes limits s d → (address : ℕ) (r : RequestV2) → d.value ≡ Ok (V2 address r)
    → request_written_v2 limits room address r d.sources ≡ record { number = 0; reply = frame_v2 (head_for address r) (data_v2 r (request_list limits s)) }

-- and for V1
abbrev pub AcceptedV1 : Type 0
AcceptedV1 = (limits : ProfileLimits) (room : ℕ) → writer_room ≤ room → (s : List ℕ) (d : WithSources (Result Request Refusal)) → Decodes limits s d → (address : ℕ) (r : RequestV1) → d.value ≡ Ok (V1 address r)
    → request_written_v1 room address r ≡ record { number = 0; reply = frame_v1 (head_for_v1 address r) (data_v1 r) }

-- the worked cases: the writer answers and writes what the paper says
abbrev pub AllWritten : Type 0
AllWritten = every right cases ≡ true
