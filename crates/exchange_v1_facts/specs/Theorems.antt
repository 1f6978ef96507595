-- What is proved here, each statement as a type; proofs/ has the proofs.
use Rattle.std.specs.Prelude.{◌≡◌, List, ◌⊎◌, ℕ, ◌+◌, ◌≤◌, Ok}
use Rattle.frames.specs.Frame.{data_from, frame_of}
use Rattle.frames.specs.declared.Frame.TheVariants.{V1}
use Rattle.frame_writer.specs.Written.{frame_v1}
use Rattle.error_texts.specs.declared.ErrorText.TheVariants.{Logic}
use Rattle.decimal.specs.declared.Number.{Number}
use Rattle.decimal_facts.specs.Canonical.{Full}
use Rattle.settings.specs.declared.PressureUnit.TheVariants.{Mbar, Torr}
use Rattle.readings_facts.specs.HalfUp.{Nearest}
use Rattle.requests.specs.AskV1.{ask_v1}
use Rattle.requests.specs.declared.RequestV1.{RequestV1}
use Rattle.requests.specs.declared.RequestV1.TheVariants.{Measure, ReadFactor, SetFactor, ReadUnit, SetUnit}
use Rattle.request_texts.specs.RequestText.{letter_v1, data_v1, head_for_v1}
use Rattle.replies_v1.specs.ReplyV1.{read_v1}
use Rattle.replies_v1.specs.declared.ReplyV1.TheVariants.{Reads, Factor, Unit, Done, Error}
use Rattle.sources.specs.declared.Profile.TheVariants.{Standard}
use Rattle.settings.specs.Limits.{limits_of}
use Rattle.gauge_rules.specs.State.{State, fresh}
use Rattle.gauge_table.specs.After.{answer_of}
use Rattle.gauge_facts.specs.Sound.{SoundState}
use Rattle.exchange_v1_facts.specs.HeldV1.{rounded_v1, expected_v1}
use Rattle.exchange_v1_facts.specs.Examples.{number, asked}

-- "four mantissa digits and exponent plus 20, rounded half up to four digits": the pressure is told as the nearest four digits, the upper of two
-- that are as near, with its exponent plus 20; 10000 is told as 1000 with the exponent one higher
abbrev pub NearestHeld : Type 0
NearestHeld = (n : Number) → Full n
    → (q : ℕ) × Nearest n.mantissa q × (((q ≤ 9999) × (rounded_v1 n ≡ Reads q (n.place + 11))) ⊎ ((q ≡ 10000) × (rounded_v1 n ≡ Reads 1000 (n.place + 12))))

-- a request that was sent to the gauge's own address as the bytes s, which the gauge reads as that request, answered with at least 64 bytes lent
-- and read again: the value, or the error, that the gauge holds
abbrev pub AnswerReadV1 : Type 0
AnswerReadV1 = (g : State) (room a : ℕ) (r : RequestV1) (s : List ℕ) → SoundState g → a ≡ g.settings.address → 64 ≤ room
    → s ≡ frame_v1 (head_for_v1 a r) (data_v1 r) → frame_of s ≡ Ok (V1 (head_for_v1 a r)) → ask_v1 (letter_v1 r) (data_from 4 s) ≡ Ok r
    → read_v1 a r (answer_of g room s).reply ≡ expected_v1 g r

-- ---- worked cases

-- half down and half up, without and with a carry; the least, 1e-9, and the largest, 9.99999e9
abbrev pub RoundedCases : Type 0
RoundedCases = (rounded_v1 (number 123449 9) ≡ Reads 1234 20)
    × (rounded_v1 (number 123450 9) ≡ Reads 1235 20)
    × (rounded_v1 (number 999949 9) ≡ Reads 9999 20)
    × (rounded_v1 (number 999950 9) ≡ Reads 1000 21)
    × (rounded_v1 (number 100000 0) ≡ Reads 1000 11)
    × (rounded_v1 (number 999999 18) ≡ Reads 1000 30)

-- a gauge at the start: 1 mbar, the factor 1.00, mbar, and locked
abbrev pub StartCases : Type 0
StartCases = (expected_v1 (fresh (limits_of Standard)) Measure ≡ Ok (Reads 1000 20))
    × (expected_v1 (fresh (limits_of Standard)) ReadFactor ≡ Ok (Factor 100))
    × (expected_v1 (fresh (limits_of Standard)) ReadUnit ≡ Ok (Unit Mbar))
    × (expected_v1 (fresh (limits_of Standard)) (SetFactor 100) ≡ Ok (Error Logic))
    × (expected_v1 (fresh (limits_of Standard)) (SetUnit Torr) ≡ Ok Done)

-- `M` to address 1, the whole way
abbrev pub WholeWay : Type 0
WholeWay = read_v1 1 Measure (answer_of (fresh (limits_of Standard)) 64 asked).reply ≡ Ok (Reads 1000 20)
