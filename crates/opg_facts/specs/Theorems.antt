-- What is proved here, each statement as a type; proofs/ has the proofs.
use Rattle.std.specs.Prelude.{◌≡◌, true, false, ◌&&◌, List, ℕ, ◌<◌, ◌≤◌, eqb, length, Ok}
use Rattle.std.specs.Float.{binary32}
use Rattle.std.specs.Float.Ieee.{of_bits, to_bits}
use Rattle.buffer.specs.Byte.{within, every}
use Rattle.opg_units.specs.Units.{finite, measurable, bits_in}
use Rattle.opg_commands.specs.Limits.{unit_low, unit_high}
use Rattle.opg_commands.specs.Request.{outside_of}
use Rattle.opg_commands.specs.Settings.{factory}
use Rattle.opg_commands.specs.declared.Request.{Request}
use Rattle.opg_commands.specs.declared.Request.TheVariants.{ReadPressure, ReadUnit}
use Rattle.opg_request_reader.specs.Asked.{refusals, asked_of, asked_number}
use Rattle.opg_gauge.specs.Judged.{judgement}
use Rattle.opg_gauge.specs.declared.Gauge.{Gauge}
use Rattle.opg_gauge.specs.declared.Pressure.TheVariants.{Bits}
use Rattle.opg_answer.specs.Reply.{bits_of, unit_of, answer_of, after_of}
use Rattle.opg_request_writer.specs.Written.{request_bytes_of}
use Rattle.opg_replies.specs.Reply.{read_of}
use Rattle.opg_replies.specs.declared.Reply.TheVariants.{Pressure, Unit}
use Rattle.opg_facts.specs.Accepted.{is_accepted, none, has_room, frame_fits, address_fits, checksum_fits, header_fits, command_fits, access_fits, data_fits, state_fits, silent_number, sound}
use Rattle.opg_facts.specs.Held.{fits32, held_of, expected, is_fin}
use Rattle.opg_facts.specs.Examples.{right, cases, switched, well, told, fine, sendings}

-- ---- "The master's side"

-- "A typed request that the writer accepts, once written and read again, is the same request."
abbrev pub ReadBack : Type 0
ReadBack = (r : Request) → outside_of r ≡ false → fits32 r ≡ true → asked_of (request_bytes_of r) ≡ Ok r

-- "A reply that a reader accepts yields the value or error that its bytes mean there.": with 32 bytes lent, the reply to a written request is
-- read as what the gauge holds, or as error 0 where the pressure is unavailable
abbrev pub AnswerRead : Type 0
AnswerRead = (room : ℕ) (g : Gauge) (r : Request) → 32 ≤ room → outside_of r ≡ false → fits32 r ≡ true → bits_of g.pressure < 4294967296
    → read_of r (answer_of room g (request_bytes_of r)).reply ≡ expected g r

-- a pressure that the bench took is read as the f32 in the unit asked for, and a unit within its limits as itself: 28 does not arise
abbrev pub PressureHeld : Type 0
PressureHeld = (g : Gauge) (u w : ℕ) → g.pressure ≡ Bits w → measurable w ≡ true
    → held_of g (ReadPressure u) ≡ Ok (Pressure (of_bits binary32 (bits_in (unit_of g u) w)))

abbrev pub UnitHeld : Type 0
UnitHeld = (g : Gauge) → within unit_low unit_high g.settings.unit ≡ true → held_of g ReadUnit ≡ Ok (Unit g.settings.unit)

-- the f32 of finite bits has those bits: nothing of a reply's four bytes is lost
abbrev pub BitsKept : Type 0
BitsKept = (w : ℕ) → w < 4294967296 → finite w ≡ true → to_bits binary32 (of_bits binary32 w) ≡ w

-- ---- "OPG frames"

-- bytes are a request exactly if none of the refusals applies
abbrev pub AskedExactly : Type 0
AskedExactly = (s : List ℕ) → is_accepted (asked_of s) ≡ none (refusals s)

-- the answer's number is document 01's number of what the gauge judged: "with error byte e and number 1000 + e"; "Accepted is 20"
abbrev pub NumberIs : Type 0
NumberIs = (room : ℕ) (g : Gauge) (s : List ℕ) → (answer_of room g s).number ≡ asked_number (judgement room g s)

-- "A request is accepted exactly if lent room, frame, checksum, address, command, access, data and state satisfy document 01": the number is 20
-- exactly if these conditions hold, in document 01's order
abbrev pub AcceptedExactly : Type 0
AcceptedExactly = (room : ℕ) (g : Gauge) (s : List ℕ)
    → eqb (answer_of room g s).number 20
    ≡ (has_room room && (frame_fits s && (address_fits s && (checksum_fits s && (header_fits s && (command_fits s && (access_fits s && (data_fits s && state_fits g s))))))))

-- "A silent one writes no byte": the reply is empty exactly for 21, 22 and 23
abbrev pub SilentExactly : Type 0
SilentExactly = (room : ℕ) (g : Gauge) (s : List ℕ) → eqb (length (answer_of room g s).reply) 0 ≡ silent_number (answer_of room g s).number

-- "A refused request changes no setting.", nor anything else
abbrev pub RefusedKeeps : Type 0
RefusedKeeps = (room : ℕ) (g : Gauge) (s : List ℕ) → is_accepted (judgement room g s) ≡ false → after_of room g s ≡ g

-- no request changes the pressure
abbrev pub PressureStays : Type 0
PressureStays = (room : ℕ) (g : Gauge) (s : List ℕ) → (after_of room g s).pressure ≡ g.pressure

-- the factory's settings are within their limits, and stay there whatever is asked
abbrev pub FactorySound : Type 0
FactorySound = sound factory ≡ true

abbrev pub StaysSound : Type 0
StaysSound = (room : ℕ) (g : Gauge) (s : List ℕ) → sound g.settings ≡ true → sound (after_of room g s).settings ≡ true

-- every reply lies within the memory lent, in any state and for any bytes
abbrev pub WithinLent : Type 0
WithinLent = (room : ℕ) (g : Gauge) (s : List ℕ) → length (answer_of room g s).reply ≤ room

-- "The bench gives mbar, finite": the exponent's field tells exactly the bits of finite floats
abbrev pub FiniteExactly : Type 0
FiniteExactly = (w : ℕ) → finite w ≡ is_fin (of_bits binary32 w)

-- what the bench takes is sent as a finite f32, whatever the unit
abbrev pub SentFinite : Type 0
SentFinite = (unit w : ℕ) → measurable w ≡ true → finite (bits_in unit w) ≡ true

-- "With mode 0 the other five bytes are not examined and those two settings stay"
abbrev pub AllKept : Type 0
AllKept = (eqb switched.settings.mode 0 && (eqb switched.settings.spectra 100 && eqb switched.settings.gas 7)) ≡ true

-- ---- worked cases: what the gauge answers, what a master reads, what it sends

abbrev pub AllAnswered : Type 0
AllAnswered = every right cases ≡ true

abbrev pub AllRead : Type 0
AllRead = every well told ≡ true

abbrev pub AllSent : Type 0
AllSent = every fine sendings ≡ true
