-- What the master reads of the gauge's answers: the worked cases, computed.
use mathlib.Core.Path.{refl}
use native.Mathlib.Omega.{arith}
use Rattle.buffer.specs.First.{pick}
use Rattle.buffer.specs.Byte.{within, every, numeral_from}
use Rattle.frames.specs.Checksum.{sum_of, checksum_of, end_of, closed}
use Rattle.frames.specs.Frame.{is_letter, length_fits, misshapen, wrong_sum, wrong_address, head_v1, frame_of}
use Rattle.frame_writer.specs.Written.{frame_v1}
use Rattle.readings.specs.Reading.{faulty_pressure}
use Rattle.requests.specs.AskV1.{bare_of, ask_v1}
use Rattle.requests.specs.declared.RequestV1.TheVariants.{Measure}
use Rattle.request_texts.specs.RequestText.{letter_v1, data_v1}
use Rattle.sources.specs.declared.Profile.TheVariants.{Standard}
use Rattle.settings.specs.Limits.{limits_of}
use Rattle.gauge_rules.specs.State.{fresh}
use Rattle.gauge_rules_v1.specs.RulesV1.{factor_number, grant_v1}
use Rattle.gauge_facts.proofs.Kept.{fresh_sound}
use Rattle.exchange_v1_facts.specs.HeldV1.{rounded_v1, pressure_held, held_v1, error_text_v1, expected_v1}
use Rattle.exchange_v1_facts.specs.Examples.{asked}
use Rattle.exchange_v1_facts.specs.Theorems.{RoundedCases, StartCases, WholeWay}
use Rattle.exchange_v1_facts.proofs.ExchangeV1.{answer_read_v1}

pub rounded_cases : RoundedCases
unfolding rounded_v1 pick
rounded_cases = (refl, refl, refl, refl, refl, refl)

pub start_cases : StartCases
unfolding expected_v1 grant_v1 factor_number faulty_pressure held_v1 pressure_held rounded_v1 error_text_v1 pick
start_cases = (refl, refl, refl, refl, refl)

pub whole_way : WholeWay
unfolding expected_v1 grant_v1 faulty_pressure held_v1 pressure_held rounded_v1 pick frame_v1 closed end_of checksum_of sum_of letter_v1 data_v1 frame_of misshapen length_fits is_letter within every wrong_sum wrong_address numeral_from head_v1 ask_v1 bare_of
whole_way = answer_read_v1 (fresh (limits_of Standard)) 64 1 Measure asked (fresh_sound Standard) refl (omega arith) refl refl refl
