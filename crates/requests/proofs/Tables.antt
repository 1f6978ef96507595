-- The two tables, computed.
use mathlib.Core.Path.{refl}
use Rattle.buffer.specs.First.{pick}
use Rattle.buffer.specs.Byte.{within, every, numeral_from}
use Rattle.forms.specs.Forms.{digit_data}
use Rattle.requests.specs.Command.{can_write, can_restore, lacks_access}
use Rattle.requests.specs.AskV1.{six_digits, bare_of, digit_one, one_of, unit_at, ask_v1}
use Rattle.requests.specs.Theorems.{AccessTable, LetterTable}

pub access_table_lem : AccessTable
unfolding lacks_access can_write can_restore pick
access_table_lem = refl

pub letter_table_lem : LetterTable
unfolding ask_v1 six_digits bare_of digit_one one_of unit_at digit_data within every numeral_from pick
letter_table_lem = refl
