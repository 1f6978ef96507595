-- V1's numbers of the units: "000000 mbar, 000001 Torr, 000002 hPa, else RANGE".
use Rattle.std.specs.Prelude.{[], ◌∷◌, ℕ, eqb}
use Rattle.buffer.specs.First.{◌⇒◌, first}
use Rattle.settings.specs.declared.PressureUnit.{PressureUnit}
use Rattle.settings.specs.declared.PressureUnit.TheVariants.{Mbar, Torr, HPa}

-- the number of a unit
unfoldable pub unit_code : PressureUnit → ℕ
unit_code Mbar = 0
unit_code Torr = 1
unit_code HPa = 2

-- what f gives of the unit that n names, and d where it names none
abbrev pub unit_named : {A : Type 0} → (PressureUnit → A) → A → ℕ → A
unit_named f d n =
    first
    (eqb n 0 ⇒ f Mbar
    ∷ eqb n 1 ⇒ f Torr
    ∷ eqb n 2 ⇒ f HPa
    ∷ [])
    d
