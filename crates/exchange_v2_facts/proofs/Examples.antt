-- The worked cases, computed.
use mathlib.Core.Path.{refl, ◌∙◌}
use mathlib.Core.List.{[]}
use native.Mathlib.Omega.{arith}
use Rattle.buffer.specs.First.{pick}
use Rattle.buffer.specs.Byte.{within, every, same_text}
use Rattle.frame_writer.specs.Written.{frame_v2}
use Rattle.error_texts.specs.Texts.{error_of}
use Rattle.frames_facts.proofs.ReadBack.{read_back_v2}
use Rattle.sources.specs.declared.Profile.TheVariants.{Standard}
use Rattle.settings.specs.Limits.{limits_of}
use Rattle.readings.specs.Reading.{faulty_pressure}
use Rattle.requests.specs.Command.{command_of, find_command, command_text, is_access, lacks_access}
use Rattle.requests.specs.AskV2.{ask_known, ask_named, ask_v2}
use Rattle.requests.specs.declared.Command.TheVariants.{MV}
use Rattle.requests.specs.declared.RequestV2.TheVariants as request
use Rattle.request_texts.specs.RequestText.{access_of, command_in, head_for}
use Rattle.gauge_rules.specs.State.{fresh}
use Rattle.gauge_rules.specs.RulesV2.{changes_cathode, reads_faulty, grant_v2}
use Rattle.gauge_facts.proofs.Kept.{fresh_sound}
use Rattle.exchange_v2_facts.specs.HeldV2.{held_pressure, held_value, held_v2, expected_v2, AskedBy}
use Rattle.exchange_v2_facts.specs.Theorems.{PressureExpected, FactorExpected, CathodeExpected, PressureRead}
use Rattle.exchange_v2_facts.proofs.ExchangeV2.{alike_same, exchange_v2}

-- "each pressure is 1 mbar" at the start, C1 is 1.00, and CC written while CM is 1 is LOGIC
pub pressure_expected : PressureExpected
unfolding expected_v2 grant_v2 changes_cathode reads_faulty faulty_pressure held_v2 held_value held_pressure pick
pressure_expected = refl

pub factor_expected : FactorExpected
unfolding expected_v2 grant_v2 changes_cathode reads_faulty held_v2 held_value pick
factor_expected = refl

pub cathode_expected : CathodeExpected
unfolding expected_v2 grant_v2 changes_cathode error_of pick
cathode_expected = refl

-- the bytes of a request for MV ask for it
asks_pressure : AskedBy (limits_of Standard) 1 (request.Read MV) (frame_v2 (head_for 1 (request.Read MV)) [])
unfolding head_for access_of command_in command_text within every ask_v2 ask_named ask_known is_access lacks_access command_of find_command same_text pick
asks_pressure =
    let w = read_back_v2 (head_for 1 (request.Read MV)) [] (record { address_in = refl; access_in = refl; first_in = refl; second_in = refl; bytes_in = refl; few = omega arith }) in
    record { frame = w.head; asks = rw w.rest }

-- and what the gauge answers to them is read as 1 mbar
pub pressure_read_lem : PressureRead
pressure_read_lem = exchange_v2 (fresh (limits_of Standard)) 64 1 (frame_v2 (head_for 1 (request.Read MV)) []) (request.Read MV) (request.Read MV) (fresh_sound Standard) (omega arith) refl asks_pressure (alike_same (request.Read MV)) ∙ pressure_expected
