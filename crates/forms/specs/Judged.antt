-- How the data of a write are judged.
use Rattle.std.specs.Prelude.{List, [], ℕ, drop, Err, Ok, Result}
use Rattle.decimal.specs.Form.{number_of}
use Rattle.sources.specs.Entries.{entries_list}
use Rattle.sources.specs.Beside.{Beside}
use Rattle.sources.specs.declared.WithSources.{WithSources}
use Rattle.settings.specs.Limits.{ProfileLimits, standard}
use Rattle.settings.specs.declared.Key.{Key}
use Rattle.settings.specs.declared.Key.TheVariants.{DA, DU, C1, CM, CC, FC, ST, SM}
use Rattle.settings.specs.declared.Setting.{Setting}
use Rattle.settings.specs.declared.Setting.TheVariants.{Control, Cathode, Filament}
use Rattle.forms.specs.Forms.{address_data, unit_data, factor_of, digit_data, digit_of, transition_data, stream_data}
use Rattle.refusals.specs.Number.{number_in}
use Rattle.refusals.specs.declared.Refusal.{Refusal}

-- the column "Data", a line for each setting
unfoldable pub verdict_of : ProfileLimits → Key → List ℕ → Result Setting Refusal
verdict_of limits DA s = address_data s
verdict_of limits DU s = unit_data s
verdict_of limits C1 s = factor_of (number_of s)
verdict_of limits CM s = digit_of Control (digit_data standard.control_high s)
verdict_of limits CC s = digit_of Cathode (digit_data standard.cathode_high s)
verdict_of limits FC s = digit_of Filament (digit_data standard.filament_high s)
verdict_of limits ST s = transition_data limits s
verdict_of limits SM s = stream_data limits s

-- document 01's number for each verdict: 0 where the data are accepted
abbrev pub verdict_number : Result Setting Refusal → ℕ
verdict_number v = number_in v

-- what stands beside an accepted setting
unfoldable pub if_set : Result Setting Refusal → List ℕ → List ℕ
if_set (Ok x) list = list
if_set (Err k) list = []

-- the sources that an accepted write of SM lists; none otherwise
unfoldable pub list_in : ProfileLimits → Key → List ℕ → List ℕ
list_in limits DA s = []
list_in limits DU s = []
list_in limits C1 s = []
list_in limits CM s = []
list_in limits CC s = []
list_in limits FC s = []
list_in limits ST s = []
list_in limits SM s = if_set (stream_data limits s) (entries_list limits.source_codes (drop 1 s))

-- r is the verdict, with the sources beside it
abbrev pub Judges : ProfileLimits → Key → List ℕ → WithSources (Result Setting Refusal) → Type 0
Judges limits key s r = Beside (verdict_of limits key s) (list_in limits key s) r
