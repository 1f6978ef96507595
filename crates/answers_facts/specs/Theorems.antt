-- What is proved here, each statement as a type; proofs/ has the proofs.
use Rattle.std.specs.Prelude.{◌≡◌, false, not, List, [], ◌∷◌, ℕ, eqb, ltb, Option, Result}
use Rattle.buffer.specs.First.{◌⇒◌, first, pick}
use Rattle.frames.specs.Frame.{frame_of, frame_number}
use Rattle.settings.specs.Limits.{ProfileLimits}
use Rattle.requests.specs.declared.RequestV1.{RequestV1}
use Rattle.requests.specs.declared.RequestV2.{RequestV2}
use Rattle.request_reader.specs.Decoded.{request_of, request_number}
use Rattle.replies_v1.specs.ReplyV1.{read_v1}
use Rattle.replies_v2.specs.ReplyV2.{read_v2}
use Rattle.gauge_rules.specs.State.{State}
use Rattle.gauge_table.specs.Asked.{breaks_rule, asks_faulty}
use Rattle.gauge_table.specs.Table.{answer_room, other_address, number_of}
use Rattle.gauge_table.specs.Decided.{decided_v2, decided_v1}
use Rattle.bench_words.specs.Words.{worded_of, worded_number}
use Rattle.opg_commands.specs.declared.Request.{Request}
use Rattle.opg_replies.specs.Reply.{read_of}
use Rattle.answers_facts.specs.Rows.{Told}
use Rattle.answers_facts.specs.Frames as frames
use Rattle.answers_facts.specs.Asked.{ask_number_v2, ask_number_v1, Refuses}
use Rattle.answers_facts.specs.Words.{is_taken, IsSource}
use Rattle.answers_facts.specs.ReadV2 as v2
use Rattle.answers_facts.specs.ReadV1 as v1
use Rattle.answers_facts.specs.ReadOpg as opg
use Rattle.refusals.specs.declared.Refusal.{Refusal}
use Rattle.readings.specs.declared.Bench.{Bench}

-- ---- "Answer numbers of the text gauge"

-- rows 2, 3, 4 and 6: the number of any bytes; it is 0 exactly if they are a frame
abbrev pub FrameNumber : Type 0
FrameNumber = (s : List ℕ) → Told frame_number frames.is_frame 0 (frame_of s) (frames.number_rows s)

-- the number of what asks no request comes before the gauge's own: 12 of CC and CM, and 13
abbrev pub DecidedV2 : Type 0
DecidedV2 = (g : State) (x : Result RequestV2 Refusal) → decided_v2 g x ≡ first (not (eqb (ask_number_v2 x) 0) ⇒ ask_number_v2 x ∷ breaks_rule g x ⇒ 12 ∷ asks_faulty g x ⇒ 13 ∷ []) 0

-- and a V1 letter or data that ask for nothing are refused whatever the gauge's state
abbrev pub DecidedV1 : Type 0
DecidedV1 = (g : State) (x : Result RequestV1 Refusal) → eqb (ask_number_v1 x) 0 ≡ false → decided_v1 g x ≡ ask_number_v1 x

-- the request reader, told the gauge's profile, beside a gauge of the bytes' address, with room for its answer: what the reader refuses the gauge
-- refuses, with the same number, save V1's lock
abbrev pub RefusedAlike : Type 0
RefusedAlike = (g : State) (room : ℕ) (s : List ℕ) → ltb room answer_room ≡ false → other_address g s ≡ false
    → eqb (request_number (request_of g.limits s)) 0 ≡ false → Refuses g (request_number (request_of g.limits s)) (number_of g room s)

-- and what the gauge accepts is a typed request
abbrev pub AcceptedRead : Type 0
AcceptedRead = (g : State) (room : ℕ) (s : List ℕ) → ltb room answer_room ≡ false → other_address g s ≡ false
    → number_of g room s ≡ 0 → request_number (request_of g.limits s) ≡ 0

-- ---- the bench, by two texts

-- "anything else is refused with 15 BENCH": 0 exactly if the bench takes the setting, and 15 otherwise
abbrev pub WordedNumber : Type 0
WordedNumber = (w : Option Bench) → Told worded_number is_taken 0 w (pick (is_taken w) 0 15)

-- "The sources here are exactly `0 1 2 6 7 T2 T6`", and FS: any other is refused
abbrev pub TakenSource : Type 0
TakenSource = (source value : List ℕ) → worded_number (worded_of source value) ≡ 0 → IsSource source

-- ---- "The master's side"

-- the number of any bytes, read as the reply to any V2 request that was sent to any address; it is 0 exactly if a reply was read
abbrev pub ReplyNumberV2 : Type 0
ReplyNumberV2 = (limits : ProfileLimits) (address : ℕ) (r : RequestV2) (s : List ℕ) → Told v2.read_number v2.is_read 0 (read_v2 limits address r s) (v2.number_rows limits address r s)

-- the same of V1
abbrev pub ReplyNumberV1 : Type 0
ReplyNumberV1 = (address : ℕ) (r : RequestV1) (s : List ℕ) → Told v1.read_number v1.is_read 0 (read_v1 address r s) (v1.number_rows address r s)

-- and of the OPG: 20 exactly if a reply was read
abbrev pub ReplyNumberOpg : Type 0
ReplyNumberOpg = (r : Request) (s : List ℕ) → Told opg.read_number opg.is_read 20 (read_of r s) (opg.number_rows r s)
