-- Document 01, the column "Data": the form of each setting's text.
use Rattle.std.specs.Prelude.{◌≡◌, true, false, List, [], ◌∷◌, ◌++◌, ℕ, ◌+◌, ◌*◌, ◌^◌, Ok}
use Rattle.buffer.specs.Byte.{digits3}
use Rattle.decimal.specs.Exact.{units}
use Rattle.decimal.specs.Form.{number_of}
use Rattle.decimal.specs.declared.Number.{Number}
use Rattle.sources.specs.Source.{list_text}
use Rattle.settings.specs.Limits.{ProfileLimits}
use Rattle.settings.specs.Sent.{unit_text, stream_text}
use Rattle.settings.specs.declared.Transition.TheVariants.{Direct, Between}
use Rattle.settings.specs.declared.Setting.{Setting}
use Rattle.settings.specs.declared.Setting.TheVariants.{Address, PressureIn, Factor, Control, Cathode, Filament, Switch, Stream}
use Rattle.forms_facts.specs.Codes.{GoodList}

-- the text has the form of the column "Data", with this value: three digits; a unit's text; a number of h hundredths (units are 10^-14);
-- one digit; `D` number, or `F` number `T` number; the mode, with a list if it is 4
abbrev pub Form : ProfileLimits → List ℕ → Setting → Type 0
Form limits s (Address v) = s ≡ digits3 v
Form limits s (PressureIn u) = s ≡ unit_text u
Form limits s (Factor h) = (n : Number) × (number_of s ≡ Ok n) × (n.negative ≡ false) × (units n ≡ h * 10 ^ 12)
Form limits s (Control d) = s ≡ (d + 48) ∷ []
Form limits s (Cathode d) = s ≡ (d + 48) ∷ []
Form limits s (Filament d) = s ≡ (d + 48) ∷ []
Form limits s (Switch (Direct n)) = (t : List ℕ) × (s ≡ 68 ∷ t) × (number_of t ≡ Ok n)
Form limits s (Switch (Between a b)) = (t : List ℕ) × (u : List ℕ) × (s ≡ 70 ∷ (t ++ 84 ∷ u)) × (number_of t ≡ Ok a) × (number_of u ≡ Ok b)
Form limits s (Stream on) = (list : List ℕ) × GoodList limits.source_codes list × (s ≡ stream_text on list)

-- the text has the form with this value and this list of sources beside it: SM's `0` has none, its `4` is followed by the list, each entry
-- `D` and a source's text, in order; no other setting has one
abbrev pub FormWith : ProfileLimits → List ℕ → Setting → List ℕ → Type 0
FormWith limits s (Address v) list = Form limits s (Address v) × (list ≡ [])
FormWith limits s (PressureIn u) list = Form limits s (PressureIn u) × (list ≡ [])
FormWith limits s (Factor h) list = Form limits s (Factor h) × (list ≡ [])
FormWith limits s (Control d) list = Form limits s (Control d) × (list ≡ [])
FormWith limits s (Cathode d) list = Form limits s (Cathode d) × (list ≡ [])
FormWith limits s (Filament d) list = Form limits s (Filament d) × (list ≡ [])
FormWith limits s (Switch t) list = Form limits s (Switch t) × (list ≡ [])
FormWith limits s (Stream false) list = (s ≡ 48 ∷ []) × (list ≡ [])
FormWith limits s (Stream true) list = s ≡ 52 ∷ list_text list
