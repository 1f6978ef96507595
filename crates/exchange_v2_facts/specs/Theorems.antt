-- What is proved here, each statement as a type; proofs/ has the proofs.
use Rattle.std.specs.Prelude.{◌≡◌, false, List, [], ℕ, ◌≤◌, Ok}
use Rattle.frame_writer.specs.Written.{frame_v2}
use Rattle.error_texts.specs.declared.ErrorText.TheVariants.{Logic}
use Rattle.forms_facts.specs.Codes.{GoodList}
use Rattle.sources.specs.declared.Profile.TheVariants.{Standard}
use Rattle.settings.specs.Limits.{ProfileLimits, limits_of}
use Rattle.settings.specs.declared.Key.TheVariants.{C1}
use Rattle.settings.specs.declared.Setting.TheVariants.{Factor, Cathode}
use Rattle.requests.specs.declared.Command.TheVariants.{MV, Of}
use Rattle.requests.specs.declared.RequestV2.{RequestV2}
use Rattle.requests.specs.declared.RequestV2.TheVariants as request
use Rattle.request_texts.specs.RequestText.{head_for}
use Rattle.replies_v2_values.specs.declared.ReplyV2.TheVariants.{Measured, Holds, Error}
use Rattle.replies_v2.specs.ReplyV2.{read_v2, read_list}
use Rattle.gauge_rules.specs.State.{State, fresh}
use Rattle.gauge_table.specs.After.{answer_of}
use Rattle.gauge_facts.specs.Sound.{SoundState}
use Rattle.exchange_v2_facts.specs.HeldV2.{expected_v2, expected_list_v2, Alike, AskedBy}

-- the answer to bytes that ask for a request like r, sent to this gauge with 64 bytes lent, is read as what is expected of r: the value, or the
-- error, that the gauge holds. The reader is told the gauge's profile
abbrev pub ExchangeV2 : Type 0
ExchangeV2 = (g : State) (room a : ℕ) (s : List ℕ) (x r : RequestV2) → SoundState g → 64 ≤ room → a ≡ g.settings.address → AskedBy g.limits a x s → Alike x r
    → read_v2 g.limits a r (answer_of g room s).reply ≡ expected_v2 g r

-- and so are the sources beside it
abbrev pub ExchangeListV2 : Type 0
ExchangeListV2 = (g : State) (room a : ℕ) (s : List ℕ) (x r : RequestV2) → SoundState g → 64 ≤ room → a ≡ g.settings.address → AskedBy g.limits a x s → Alike x r
    → read_list g.limits a r (answer_of g room s).reply ≡ expected_list_v2 g r

-- no bytes make the reply reader hand over a list that SM could not have: an unknown source, a repeat or a `0`
abbrev pub ReadGood : Type 0
ReadGood = (limits : ProfileLimits) (address : ℕ) (r : RequestV2) (s : List ℕ) → GoodList limits.source_codes (read_list limits address r s)

-- ---- worked cases: a gauge at its start, asked for a pressure, a setting and what its rules refuse

-- "At the start each pressure is 1 mbar"
abbrev pub PressureExpected : Type 0
PressureExpected = expected_v2 (fresh (limits_of Standard)) (request.Read MV) ≡ Ok (Measured (record { negative = false; mantissa = 100000; place = 9 }))

-- C1 is 1.00
abbrev pub FactorExpected : Type 0
FactorExpected = expected_v2 (fresh (limits_of Standard)) (request.Read (Of C1)) ≡ Ok (Holds (Factor 100))

-- "CC written or restored while CM is 1 is LOGIC."
abbrev pub CathodeExpected : Type 0
CathodeExpected = expected_v2 (fresh (limits_of Standard)) (request.Set (Cathode 0)) ≡ Ok (Error Logic)

-- what the gauge answers to the bytes of a request for MV is read as 1 mbar
abbrev pub PressureRead : Type 0
PressureRead = read_v2 (limits_of Standard) 1 (request.Read MV) (answer_of (fresh (limits_of Standard)) 64 (frame_v2 (head_for 1 (request.Read MV)) [])).reply
    ≡ Ok (Measured (record { negative = false; mantissa = 100000; place = 9 }))
