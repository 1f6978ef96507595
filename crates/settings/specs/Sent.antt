-- The texts that V2 reads of settings send.
use Rattle.std.specs.Prelude.{Bool, false, cond, List, [], ◌∷◌, ◌++◌, ℕ}
use Rattle.buffer.specs.Byte.{digit, digits3}
use Rattle.buffer.specs.Quoted.{bytes}
use Rattle.decimal_text.specs.Written.{written_of, two_decimals}
use Rattle.sources.specs.Source.{list_text}
use Rattle.settings.specs.declared.PressureUnit.{PressureUnit}
use Rattle.settings.specs.declared.PressureUnit.TheVariants.{Mbar, Torr, HPa}
use Rattle.settings.specs.declared.Transition.{Transition}
use Rattle.settings.specs.declared.Transition.TheVariants.{Direct, Between}
use Rattle.settings.specs.declared.Key.{Key}
use Rattle.settings.specs.declared.Key.TheVariants.{DA, DU, C1, CM, CC, FC, ST, SM}
use Rattle.settings.specs.Settings.{Held}

-- `mbar`, `Torr`, `hPa`
unfoldable pub unit_text : PressureUnit → List ℕ
unit_text Mbar = bytes "mbar"
unit_text Torr = bytes "Torr"
unit_text HPa = bytes "hPa"

-- "`D` number, or `F` number `T` number"
unfoldable pub transition_text : Transition → List ℕ
transition_text (Direct n) = (68 ∷ []) ++ written_of n
transition_text (Between low high) = (70 ∷ []) ++ written_of low ++ (84 ∷ []) ++ written_of high

-- "`0` off, or `4` and" a list
unfoldable pub stream_text : Bool → List ℕ → List ℕ
stream_text on list = cond on ((52 ∷ []) ++ list_text list) (48 ∷ [])

-- "Pressures and ST's numbers are sent as written below, C1 and temperatures with two decimals"
unfoldable pub read_text : Key → Held → List ℕ
read_text DA s = digits3 s.address
read_text DU s = unit_text s.unit
read_text C1 s = two_decimals false s.factor
read_text CM s = digit s.control ∷ []
read_text CC s = digit s.cathode ∷ []
read_text FC s = digit s.filament ∷ []
read_text ST s = transition_text s.transition
read_text SM s = stream_text s.streaming s.list
