-- Document 01, "The master's side": the expected case of a decoded reply.
use Rattle.std.specs.Prelude.{List, [], ◌∷◌, ℕ, ◌+◌, eqb, Float, Result, Ok, Err}
use Rattle.buffer.specs.First.{◌⇒◌, first}
use Rattle.buffer.specs.Byte.{at}
use Rattle.opg_replies.specs.Reply.{read_shown}
use Rattle.opg_replies.specs.declared.Reply.{Reply}
use Rattle.opg_replies.specs.declared.Reply.TheVariants.{Pressure, Unit}
use Rattle.opg_reply_kinds.specs.declared.NoValue.{NoValue}
use Rattle.opg_reply_kinds.specs.declared.NoValue.TheVariants as without

-- the kind of a reply, as `read_shown` numbers it: 1 a pressure, 2 a unit, 3 a done, 4 an error; and an error's byte
abbrev pub kind_of : Reply → ℕ
kind_of r = at (read_shown (Ok r)) 1

abbrev pub error_byte : Reply → ℕ
error_byte r = at (read_shown (Ok r)) 2

-- why a reply of another kind has no value: it is an error, or it answers another request
unfoldable pub no_value : Reply → NoValue
no_value r = first (eqb (kind_of r) 4 ⇒ without.Error (error_byte r) ∷ []) without.OtherKind

-- "error byte e and number 1000 + e"; else 26
unfoldable pub no_value_number : NoValue → ℕ
no_value_number without.OtherKind = 26
no_value_number (without.Error e) = 1000 + e

-- "A reply of another kind never yields a value": what a reply is to a master who expects the kind k
unfoldable pub expected : ℕ → Reply → Result Reply NoValue
expected k r = first (eqb (kind_of r) k ⇒ Ok r ∷ []) (Err (no_value r))

-- document 01's number and values for it, as `read_shown` has them
unfoldable pub expected_shown : Result Reply NoValue → List ℕ
expected_shown (Ok r) = read_shown (Ok r)
expected_shown (Err e) = no_value_number e ∷ []

-- each answer as a reply that was read, so that its number and values are those of `expected_shown`
unfoldable pub as_measured : Result Float NoValue → Result Reply NoValue
as_measured (Ok p) = Ok (Pressure p)
as_measured (Err e) = Err e

unfoldable pub as_unit : Result ℕ NoValue → Result Reply NoValue
as_unit (Ok u) = Ok (Unit u)
as_unit (Err e) = Err e
