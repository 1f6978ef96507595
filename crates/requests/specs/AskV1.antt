-- Document 01, "V1 on the same settings": what a V1 frame asks, or the first refusal that applies whatever the state.
use Rattle.std.specs.Prelude.{Bool, not, ◌&&◌, List, [], ◌∷◌, ℕ, eqb, length, Err, Ok, Result}
use Rattle.buffer.specs.First.{◌⇒◌, first, pick}
use Rattle.buffer.specs.Byte.{is_digit, every, numeral}
use Rattle.settings.specs.Units.{unit_named}
use Rattle.settings.specs.declared.PressureUnit.{PressureUnit}
use Rattle.forms.specs.Forms.{digit_data}
use Rattle.requests.specs.declared.RequestV1.{RequestV1}
use Rattle.requests.specs.declared.RequestV1.TheVariants.{Measure, ReadFactor, Unlock, SetFactor, ReadUnit, SetUnit}
use Rattle.refusals.specs.declared.Refusal.{Refusal}

unfoldable pub six_digits : List ℕ → Bool
six_digits s = eqb (length s) 6 && every is_digit s

-- "(no data)"
unfoldable pub bare_of : List ℕ → RequestV1 → Result RequestV1 Refusal
bare_of s r = first (not (eqb (length s) 0) ⇒ Err Refusal.Syntax ∷ []) (Ok r)

-- "with one digit: 1 only, else RANGE"
unfoldable pub digit_one : Result ℕ Refusal → RequestV1 → Result RequestV1 Refusal
digit_one (Ok d) r = first (not (eqb d 1) ⇒ Err Refusal.Range ∷ []) (Ok r)
digit_one (Err k) r = Err k

unfoldable pub one_of : List ℕ → RequestV1 → Result RequestV1 Refusal
one_of s r = digit_one (digit_data 9 s) r

-- "000000 mbar, 000001 Torr, 000002 hPa, else RANGE"
unfoldable pub unit_at : ℕ → Result RequestV1 Refusal
unit_at n = unit_named (λ (u : PressureUnit). Ok (SetUnit u)) (Err Refusal.Range) n

-- `M`, `C`, `c`, `U`, `u`. (The number of a `c` with six digits is not judged here: a locked gauge answers LOGIC before it looks at the number.)
unfoldable pub ask_v1 : ℕ → List ℕ → Result RequestV1 Refusal
ask_v1 letter s =
    first
    (eqb letter 77 ⇒ bare_of s Measure
    ∷ eqb letter 67 ⇒ one_of s ReadFactor
    ∷ eqb letter 99 ⇒ pick (six_digits s) (Ok (SetFactor (numeral s))) (one_of s Unlock)
    ∷ eqb letter 85 ⇒ bare_of s ReadUnit
    ∷ eqb letter 117 ⇒ pick (six_digits s) (unit_at (numeral s)) (Err Refusal.Syntax)
    ∷ [])
    (Err Refusal.NoDef)
