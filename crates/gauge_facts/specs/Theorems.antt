-- What is proved here, each statement as a type; proofs/ has the proofs. First the demands on one call, then document 01 in its order.
use Rattle.std.specs.Prelude.{◌≡◌, true, false, ◌&&◌, List, [], ◌∷◌, map, ◌↔◌, ℕ, ◌<◌, ◌≤◌, eqb, ltb, leb, length, Ok, Some}
use Rattle.std.proofs.Math.Option.{some}
use Rattle.buffer.specs.First.{◌⇒◌, first}
use Rattle.buffer.specs.Byte.{at, within}
use Rattle.frames.specs.Frame.{data_from, misshapen, wrong_sum, wrong_address, wrong_length}
use Rattle.frame_writer.specs.Written.{frame_v2}
use Rattle.decimal.specs.Number.{below_of}
use Rattle.decimal.specs.declared.Number.{Number}
use Rattle.sources.specs.Source.{capacity, among}
use Rattle.sources.specs.declared.Profile.{Profile}
use Rattle.settings.specs.Limits.{ProfileLimits, limits_of, longest_line}
use Rattle.forms_facts.specs.Codes.{GoodList}
use Rattle.forms_facts.specs.Sound.{Proper}
use Rattle.settings.specs.Settings.{Held}
use Rattle.settings.specs.declared.Transition.TheVariants.{Between}
use Rattle.readings.specs.Reading.{value_text}
use Rattle.readings.specs.Bench.{bench_of}
use Rattle.readings.specs.There.{names}
use Rattle.readings.specs.declared.Reading.{Reading}
use Rattle.readings.specs.declared.Bench.{Bench}
use Rattle.readings.specs.declared.Readings.{Readings}
use Rattle.readings_facts.specs.Sound.{SoundReadings}
use Rattle.requests.specs.Command.{command_of}
use Rattle.requests.specs.declared.RequestV2.{RequestV2}
use Rattle.requests.specs.declared.RequestV1.{RequestV1}
use Rattle.line.specs.Line.{shown_list, values_of, line_answer}
use Rattle.gauge_rules.specs.State.{State, fresh}
use Rattle.gauge_rules.specs.BenchIn.{bench_in}
use Rattle.gauge_rules.specs.RulesV2.{answer_code, text_v2}
use Rattle.gauge_table.specs.Asked.{is_v1, asked_v2, asked_v1, wrong_code, unknown_command, lacks, bad_form_v2, outside_v2, against_logic}
use Rattle.gauge_table.specs.Table.{answer_room, other_address, number_of}
use Rattle.gauge_table.specs.Reply.{reply_of}
use Rattle.gauge_table.specs.After.{asks_unlock, next_of, benched}
use Rattle.gauge_facts.specs.Accepted.{has_room, frame_fits, checksum_fits, address_fits, command_fits, access_fits, data_fits, state_fits}
use Rattle.gauge_facts.specs.Request.{asked_list, Satisfies, SatisfiesV1}
use Rattle.gauge_facts.specs.Columns.{cathode_held, sensor_faulty}
use Rattle.gauge_facts.specs.Sound.{SoundState}
use Rattle.gauge_facts.specs.Examples.{cases, given, paper, courses, run}

-- ---- one call

-- "A refused request changes no setting."
abbrev pub RefusedKeeps : Type 0
RefusedKeeps = (g : State) (room : ℕ) (s : List ℕ) → eqb (number_of g room s) 0 ≡ false → (next_of g room s).settings ≡ g.settings

-- "A silent one writes no byte": the reply is empty exactly for 1 to 5
abbrev pub SilentExactly : Type 0
SilentExactly = (g : State) (room : ℕ) (s : List ℕ) → (reply_of g s (number_of g room s) ≡ []) ↔ (within 1 5 (number_of g room s) ≡ true)

-- and such a request changes nothing at all
abbrev pub SilentStays : Type 0
SilentStays = (g : State) (room : ℕ) (s : List ℕ) → within 1 5 (number_of g room s) ≡ true → next_of g room s ≡ g

-- "A request is accepted exactly if lent room, frame, checksum, address, command, access, data and state satisfy document 01": the number is 0
-- exactly if the eight conditions hold
abbrev pub AcceptedExactly : Type 0
AcceptedExactly = (g : State) (room : ℕ) (s : List ℕ)
    → eqb (number_of g room s) 0 ≡ (has_room room && (frame_fits s && (checksum_fits s && (address_fits g s && (command_fits s && (access_fits s && (data_fits g s && state_fits g s)))))))

-- the same on the bytes: V2 bytes are accepted exactly if they satisfy the paper for some request
abbrev pub AcceptedV2Exactly : Type 0
AcceptedV2Exactly = (g : State) (room : ℕ) (s : List ℕ) → SoundState g
    → ((is_v1 s ≡ false) × (number_of g room s ≡ 0)) ↔ ((r : RequestV2) × (list : List ℕ) × (d : List ℕ) × Satisfies g room s r list d)

-- V1 bytes are accepted exactly if they satisfy the paper for some request
abbrev pub AcceptedV1Exactly : Type 0
AcceptedV1Exactly = (g : State) (room : ℕ) (s : List ℕ) → SoundState g
    → ((is_v1 s ≡ true) × (number_of g room s ≡ 0)) ↔ ((r : RequestV1) × (d : List ℕ) × SatisfiesV1 g room s r d)

-- and as which request: V2 bytes are accepted as the request r, with these sources, exactly if they satisfy the paper for it
abbrev pub AcceptedAs : Type 0
AcceptedAs = (g : State) (room : ℕ) (s : List ℕ) (r : RequestV2) (list : List ℕ) → SoundState g
    → ((is_v1 s ≡ false) × (number_of g room s ≡ 0) × (asked_v2 g.limits s ≡ Ok r) × (asked_list g.limits s ≡ list)) ↔ ((d : List ℕ) × Satisfies g room s r list d)

-- V1 bytes are accepted as the request r exactly if they satisfy the paper for it
abbrev pub AcceptedAsV1 : Type 0
AcceptedAsV1 = (g : State) (room : ℕ) (s : List ℕ) (r : RequestV1) → SoundState g
    → ((is_v1 s ≡ true) × (number_of g room s ≡ 0) × (asked_v1 s ≡ Ok r)) ↔ ((d : List ℕ) × SatisfiesV1 g room s r d)

-- no accepted call without its effect: number 0 means that the bytes ask a typed request
abbrev pub AsksV2 : Type 0
AsksV2 = (g : State) (room : ℕ) (s : List ℕ) → number_of g room s ≡ 0 → is_v1 s ≡ false → (r : RequestV2) × (asked_v2 g.limits s ≡ Ok r)

abbrev pub AsksV1 : Type 0
AsksV1 = (g : State) (room : ℕ) (s : List ℕ) → number_of g room s ≡ 0 → is_v1 s ≡ true → (r : RequestV1) × (asked_v1 s ≡ Ok r)

-- ---- "Answer numbers of the text gauge"

-- the numbers of the table are 0 to 13
abbrev pub NumberMost : Type 0
NumberMost = (g : State) (room : ℕ) (s : List ℕ) → leb (number_of g room s) 13 ≡ true

-- the table for V2, each row on the bytes' access code, command and data alone: CC's rule and the faulty sensor without what the decoder makes
-- of them
abbrev pub NumberOnBytes : Type 0
NumberOnBytes = (g : State) (room : ℕ) (s : List ℕ) → is_v1 s ≡ false
    → number_of g room s
    ≡ (let a = at s 3 in
    let t = at s 4 ∷ at s 5 ∷ [] in
    let n = command_of (at s 4) (at s 5) in
    let d = data_from 8 s in
    first
    (ltb room answer_room ⇒ 1
    ∷ misshapen s ⇒ 2
    ∷ wrong_sum s ⇒ 3
    ∷ wrong_address s ⇒ 4
    ∷ other_address g s ⇒ 5
    ∷ wrong_length s ⇒ 6
    ∷ wrong_code a ⇒ 7
    ∷ unknown_command n ⇒ 8
    ∷ lacks a n ⇒ 9
    ∷ bad_form_v2 g.limits a n d ⇒ 10
    ∷ outside_v2 g.limits a n d ⇒ 11
    ∷ against_logic g.limits a n d ⇒ 12
    ∷ cathode_held g a t ⇒ 12
    ∷ sensor_faulty g.readings a t ⇒ 13
    ∷ [])
    0)

-- of what a gauge of one profile holds, its number for any bytes depends on DA, CM, the readings and the unlock alone: "no refusal changes" where ST
-- starts with another value
abbrev pub SameNumber : Type 0
SameNumber = (g h : State) → g.limits ≡ h.limits → g.settings.address ≡ h.settings.address → g.settings.control ≡ h.settings.control → g.readings ≡ h.readings → g.unlocked ≡ h.unlocked
    → (room : ℕ) (s : List ℕ) → number_of g room s ≡ number_of h room s

-- "lent answer memory below 64 bytes" is ROOM: no reply is longer than that, whatever list its array holds
abbrev pub ReplyFits : Type 0
ReplyFits = (g : State) → length g.settings.list ≤ capacity → (room : ℕ) (s : List ℕ) → length (reply_of g s (number_of g room s)) ≤ 64

-- and it lies within the memory lent: below 64 bytes there is none
abbrev pub WithinLent : Type 0
WithinLent = (g : State) → SoundState g → (room : ℕ) (s : List ℕ) → length (reply_of g s (number_of g room s)) ≤ room

-- ---- "Settings and readings, V2"

-- "A DA write or restore is answered from the old address.": an accepted request is answered from the address that the gauge had before it
abbrev pub OldAddress : Type 0
OldAddress = (g : State) (room : ℕ) (s : List ℕ) (r : RequestV2) → number_of g room s ≡ 0 → is_v1 s ≡ false → asked_v2 g.limits s ≡ Ok r
    → reply_of g s (number_of g room s)
    ≡ frame_v2 (record { address = g.settings.address; access = answer_code r; first = at s 4; second = at s 5 }) (text_v2 g r)

-- "No request changes a reading or FS"
abbrev pub ReadingsStay : Type 0
ReadingsStay = (g : State) (room : ℕ) (s : List ℕ) → (next_of g room s).readings ≡ g.readings

-- every state that calls reach is sound: settings within the limits, ST's F strictly below T, readings as the bench can set them. A gauge
-- starts so
abbrev pub FreshSound : Type 0
FreshSound = (p : Profile) → SoundState (fresh (limits_of p))

-- any request leaves it so, whatever its bytes and the memory lent
abbrev pub NextSound : Type 0
NextSound = (g : State) (room : ℕ) (s : List ℕ) → SoundState g → SoundState (next_of g room s)

-- and so does any bench setting
abbrev pub BenchSound : Type 0
BenchSound = (g : State) (b : Bench) → SoundState g → SoundState (benched g (bench_in g.limits b))

-- the source that a bench setting names, if it names one, is one of the profile's
abbrev pub NamesOffered : ProfileLimits → Bench → Type 0
NamesOffered limits b = (code : ℕ) → names b ≡ some code → among limits.source_codes code ≡ true

-- "readings of sources a profile lacks can't be set by its bench (15)", and every other setting is judged as before
abbrev pub BenchExactly : Type 0
BenchExactly = (limits : ProfileLimits) (b : Bench) (x : Reading) → (bench_in limits b ≡ Some x) ↔ (NamesOffered limits b × (bench_of b ≡ Some x))

-- "chosen when the gauge is made and fixed after that": no request and no bench setting changes the profile
abbrev pub ProfileStays : Type 0
ProfileStays = ((g : State) (room : ℕ) (s : List ℕ) → (next_of g room s).limits ≡ g.limits) × ((g : State) (b : Bench) → (benched g (bench_in g.limits b)).limits ≡ g.limits)

-- and its limits tell which it is
abbrev pub LimitsTell : Type 0
LimitsTell = (p q : Profile) → limits_of p ≡ limits_of q → p ≡ q

-- "A transition's lower end stays below its upper end."
abbrev pub LowerBelow : Type 0
LowerBelow = (g : State) (low high : Number) → SoundState g → g.settings.transition ≡ Between low high → below_of low high ≡ true

-- the stream line: a good list is shown whole, and so are readings within the bench's limits. Source 0 is never negative, and no other value
-- is wider than its source's width
abbrev pub LineWhole : Type 0
LineWhole = (codes list : List ℕ) (r : Readings) → GoodList codes list → SoundReadings r → values_of (shown_list codes list) r ≡ map (λ (code : ℕ). value_text code r) (0 ∷ list)

-- no line is longer than the longest, in any state
abbrev pub LineFits : Type 0
LineFits = (limits : ProfileLimits) → Proper limits → (room : ℕ) (h : Held) (r : Readings) → length (line_answer limits room h r).reply ≤ longest_line limits.source_codes

-- "ROOM, checked first": 1 exactly where less is lent than the profile's longest line has, 71 bytes, or 30 on VSH and VSM, whether lines are
-- sent or not
abbrev pub LineRoomExactly : Type 0
LineRoomExactly = (limits : ProfileLimits) (room : ℕ) (h : Held) (r : Readings) → ((line_answer limits room h r).number ≡ 1) ↔ (room < longest_line limits.source_codes)

-- and it lies within the memory lent
abbrev pub LineWithinLent : Type 0
LineWithinLent = (limits : ProfileLimits) → Proper limits → (room : ℕ) (h : Held) (r : Readings) → length (line_answer limits room h r).reply ≤ room

-- ---- "V1 on the same settings"

-- "The next V1 request past check 5 ends the unlock, unless it is again an accepted `c1`"
abbrev pub V1MovesUnlock : Type 0
V1MovesUnlock = (g : State) (room : ℕ) (s : List ℕ) → is_v1 s ≡ true → within 1 5 (number_of g room s) ≡ false
    → (next_of g room s).unlocked ≡ (eqb (number_of g room s) 0 && asks_unlock (asked_v1 s))

-- "V2 requests do not touch it"
abbrev pub V2KeepsUnlock : Type 0
V2KeepsUnlock = (g : State) (room : ℕ) (s : List ℕ) → is_v1 s ≡ false → (next_of g room s).unlocked ≡ g.unlocked

-- ---- worked cases

-- each call gets the paper's number and reply; each sequence has the paper's answers, and the gauge then holds what the paper says
abbrev pub AllRight : Type 0
AllRight = (map given cases ≡ map paper cases) × (map run courses ≡ courses)
