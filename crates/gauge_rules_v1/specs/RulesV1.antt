-- Document 01, "V1 on the same settings": the rules that read the state, the replies' data, and what an accepted request enters.
use Rattle.std.specs.Prelude.{Bool, true, false, not, List, [], ◌∷◌, ℕ, eqb}
use Rattle.buffer.specs.First.{◌⇒◌, first}
use Rattle.settings.specs.Limits.{is_factor}
use Rattle.settings.specs.Settings.{Held, put_of}
use Rattle.settings.specs.declared.Setting.TheVariants.{PressureIn, Factor}
use Rattle.readings.specs.Reading.{faulty_pressure}
use Rattle.readings.specs.Measure.{measure_text}
use Rattle.requests.specs.declared.RequestV1.{RequestV1}
use Rattle.requests.specs.declared.RequestV1.TheVariants.{Measure, ReadFactor, Unlock, SetFactor, ReadUnit, SetUnit}
use Rattle.settings.specs.Units.{unit_code}
use Rattle.request_texts.specs.RequestText.{digits6}
use Rattle.gauge_rules.specs.State.{State}

-- "`c` with six digits, if unlocked, writes 20 to 800; locked is LOGIC, checked before the number."
unfoldable pub factor_number : Bool → ℕ → ℕ
factor_number unlocked n =
    first
    (not unlocked ⇒ 12
    ∷ not (is_factor n) ⇒ 11
    ∷ [])
    0

unfoldable pub grant_v1 : State → RequestV1 → ℕ
grant_v1 g Measure = first (faulty_pressure g.readings.p0 ⇒ 13 ∷ []) 0
grant_v1 g ReadFactor = 0
grant_v1 g Unlock = 0
grant_v1 g (SetFactor n) = factor_number g.unlocked n
grant_v1 g ReadUnit = 0
grant_v1 g (SetUnit u) = 0

-- the data of a reply to a read; "`C1` reads C1 in hundredths as six digits"
unfoldable pub text_v1 : State → RequestV1 → List ℕ
text_v1 g Measure = measure_text g.readings.p0
text_v1 g ReadFactor = digits6 g.settings.factor
text_v1 g Unlock = []
text_v1 g (SetFactor n) = []
text_v1 g ReadUnit = digits6 (unit_code g.settings.unit)
text_v1 g (SetUnit u) = []

-- "Set replies repeat the request."; "`c1` unlocks and is echoed"
unfoldable pub repeats : RequestV1 → Bool
repeats Measure = false
repeats ReadFactor = false
repeats Unlock = true
repeats (SetFactor n) = true
repeats ReadUnit = false
repeats (SetUnit u) = true

unfoldable pub unlocks : RequestV1 → Bool
unlocks Measure = false
unlocks ReadFactor = false
unlocks Unlock = true
unlocks (SetFactor n) = false
unlocks ReadUnit = false
unlocks (SetUnit u) = false

-- what an accepted request enters
unfoldable pub enter_v1 : Held → RequestV1 → Held
enter_v1 h Measure = h
enter_v1 h ReadFactor = h
enter_v1 h Unlock = h
enter_v1 h (SetFactor n) = put_of h (Factor n) []
enter_v1 h ReadUnit = h
enter_v1 h (SetUnit u) = put_of h (PressureIn u) []

-- the settings after a request: what it enters if it is accepted, as they were if it is refused
unfoldable pub settings_v1 : State → RequestV1 → Held
settings_v1 g r = first (eqb (grant_v1 g r) 0 ⇒ enter_v1 g.settings r ∷ []) g.settings
