-- Document 01, "The master's side": the expected case of a decoded reply.
use Rattle.std.specs.Prelude.{[], ◌∷◌, ℕ, eqb, Bool, Err, Ok, Result}
use Rattle.buffer.specs.First.{◌⇒◌, first}
use Rattle.buffer.specs.Byte.{at}
use Rattle.replies_v2_values.specs.declared.ReplyV2.{ReplyV2}
use Rattle.replies_v2_values.specs.declared.ReplyV2.TheVariants.{Measured, Degrees, FilamentNumber, StatusNumber, Holds}
use Rattle.decimal.specs.declared.Number.{Number}
use Rattle.settings.specs.declared.Setting.{Setting}
use Rattle.replies_v2.specs.ReplyV2.{read_shown_v2}
use Rattle.refusals.specs.declared.Refusal.{Refusal}

-- the kind of a reply, as `read_shown_v2` numbers it: 1 a number of MV, 2 `UR`, 3 `OR`, 4 a temperature, 5 FN, 6 FS, 7 a setting, 8 a done,
-- 9 an error
abbrev pub kind_of : ReplyV2 → ℕ
kind_of r = at (read_shown_v2 (Ok r)) 1

-- why a reply of another kind has no value: 10 for an error, whose data are a text that is not of the command's form; else 14, for it
-- answers another request
unfoldable pub no_value : ReplyV2 → Refusal
no_value r = first (eqb (kind_of r) 9 ⇒ Refusal.Syntax ∷ []) Refusal.Mismatch

-- where a number of MV is expected, 11 for `UR` and `OR`: the reading lies outside the gauge's range
unfoldable pub no_pressure : ReplyV2 → Refusal
no_pressure r = first (eqb (kind_of r) 2 ⇒ Refusal.Range ∷ eqb (kind_of r) 3 ⇒ Refusal.Range ∷ []) (no_value r)

-- "A reply of another kind never yields a value": what a reply is to a master who expects the kind k
unfoldable pub expected : ℕ → ReplyV2 → Result ReplyV2 Refusal
expected k r =
    first
    (eqb (kind_of r) k ⇒ Ok r
    ∷ eqb k 1 ⇒ Err (no_pressure r)
    ∷ [])
    (Err (no_value r))

-- each answer as a reply that was read, so that its number and values are those of `read_shown_v2`
unfoldable pub as_measured : Result Number Refusal → Result ReplyV2 Refusal
as_measured (Ok n) = Ok (Measured n)
as_measured (Err k) = Err k

unfoldable pub as_degrees : Result (Bool × ℕ) Refusal → Result ReplyV2 Refusal
as_degrees (Ok (negative, h)) = Ok (Degrees negative h)
as_degrees (Err k) = Err k

unfoldable pub as_filament : Result ℕ Refusal → Result ReplyV2 Refusal
as_filament (Ok d) = Ok (FilamentNumber d)
as_filament (Err k) = Err k

unfoldable pub as_status : Result ℕ Refusal → Result ReplyV2 Refusal
as_status (Ok d) = Ok (StatusNumber d)
as_status (Err k) = Err k

unfoldable pub as_setting : Result Setting Refusal → Result ReplyV2 Refusal
as_setting (Ok x) = Ok (Holds x)
as_setting (Err k) = Err k
