-- Document 01, "The master's side": the expected case of a decoded reply.
use Rattle.std.specs.Prelude.{[], ◌∷◌, ℕ, eqb, Err, Ok, Result}
use Rattle.buffer.specs.First.{◌⇒◌, first}
use Rattle.buffer.specs.Byte.{at}
use Rattle.settings.specs.declared.PressureUnit.{PressureUnit}
use Rattle.replies_v1.specs.ReplyV1.{read_shown_v1}
use Rattle.replies_v1.specs.declared.ReplyV1.{ReplyV1}
use Rattle.replies_v1.specs.declared.ReplyV1.TheVariants.{Reads, Factor, Unit}
use Rattle.refusals.specs.declared.Refusal.{Refusal}

-- the kind of a reply, as `read_shown_v1` numbers it: 1 a reading, 2 under range, 3 over range, 4 a factor, 5 a unit, 6 a done, 7 an error
abbrev pub kind_of : ReplyV1 → ℕ
kind_of r = at (read_shown_v1 (Ok r)) 1

-- why a reply of another kind has no value: 10 for an error, whose data are a text that is not of the request's form; else 14, for it
-- answers another request
unfoldable pub no_value : ReplyV1 → Refusal
no_value r = first (eqb (kind_of r) 7 ⇒ Refusal.Syntax ∷ []) Refusal.Mismatch

-- where a reading is expected, 11 for `000000` and `999999`: it lies outside the gauge's range
unfoldable pub no_pressure : ReplyV1 → Refusal
no_pressure r = first (eqb (kind_of r) 2 ⇒ Refusal.Range ∷ eqb (kind_of r) 3 ⇒ Refusal.Range ∷ []) (no_value r)

-- "A reply of another kind never yields a value": what a reply is to a master who expects the kind k
unfoldable pub expected : ℕ → ReplyV1 → Result ReplyV1 Refusal
expected k r =
    first
    (eqb (kind_of r) k ⇒ Ok r
    ∷ eqb k 1 ⇒ Err (no_pressure r)
    ∷ [])
    (Err (no_value r))

-- each answer as a reply that was read, so that its number and values are those of `read_shown_v1`
unfoldable pub as_measured : Result (ℕ × ℕ) Refusal → Result ReplyV1 Refusal
as_measured (Ok (mantissa, exponent)) = Ok (Reads mantissa exponent)
as_measured (Err k) = Err k

unfoldable pub as_factor : Result ℕ Refusal → Result ReplyV1 Refusal
as_factor (Ok n) = Ok (Factor n)
as_factor (Err k) = Err k

unfoldable pub as_unit : Result PressureUnit Refusal → Result ReplyV1 Refusal
as_unit (Ok u) = Ok (Unit u)
as_unit (Err k) = Err k
