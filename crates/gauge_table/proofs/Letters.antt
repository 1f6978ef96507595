-- V1's letters: the table's rows, computed.
use mathlib.Core.Path.{refl}
use Rattle.buffer.specs.First.{pick}
use Rattle.buffer.specs.Byte.{within, every, numeral_from}
use Rattle.readings.specs.Reading.{faulty_pressure}
use Rattle.requests.specs.AskV1.{six_digits}
use Rattle.gauge_table.specs.Asked.{unknown_letter, bad_form_v1, locked_write, outside_v1, measures_faulty}
use Rattle.gauge_table.specs.Theorems.{LetterNumbers}

pub letter_numbers : LetterNumbers
unfolding unknown_letter bad_form_v1 locked_write outside_v1 measures_faulty six_digits faulty_pressure within every numeral_from pick
letter_numbers = refl
