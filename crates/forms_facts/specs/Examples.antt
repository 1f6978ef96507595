-- Document 01, the column "Data", and document 02, "No repeated sources" and "Hot cathode gauges": worked cases, their answers taken from the
-- papers.
use Rattle.std.specs.Prelude.{Bool, List, [], ◌∷◌, map, ℕ, eqb, Err, Ok, Result}
use Prim.Native.String.{String}
use Rattle.buffer.specs.Byte.{same_text}
use Rattle.sources.specs.declared.Profile.{Profile}
use Rattle.sources.specs.declared.Profile.TheVariants.{Standard, Vsh, Vsm}
use Rattle.settings.specs.Limits.{limits_of}
use Rattle.settings.specs.Settings.{factory, put_of}
use Rattle.settings.specs.Sent.{read_text}
use Rattle.settings.specs.declared.Setting.{Setting}
use Rattle.settings.specs.declared.Key.{Key}
use Rattle.settings.specs.declared.Key.TheVariants.{DA, DU, C1, CM, CC, FC, ST, SM}
use Rattle.forms.specs.Judged.{verdict_of, verdict_number, list_in}
use Rattle.buffer.specs.Quoted.{bytes}
use Rattle.refusals.specs.declared.Refusal.{Refusal}

-- a write's data, and the number that the paper gives it
pub record Case : Type 0 where
  pub key : Key
  pub text : List ℕ
  pub number : ℕ

abbrev pub expect : Key → String → ℕ → Case
expect key text number = record { key = key; text = bytes text; number = number }

abbrev pub cases : List Case
cases =
    expect C1 "0.2" 0
    ∷ expect C1 "8" 0
    ∷ expect C1 "1e0" 0
    ∷ expect C1 "100e-2" 0
    ∷ expect C1 "1.00" 0
    ∷ expect C1 "0.19" 11
    ∷ expect C1 "8.01" 11
    ∷ expect C1 "1.005" 11
    ∷ expect C1 "-1" 11
    ∷ expect C1 "-0" 11
    ∷ expect C1 "1e-10" 11
    ∷ expect C1 "1e" 10
    ∷ expect C1 "" 10
    ∷ expect C1 "1,00" 10
    ∷ expect C1 "0.0000010" 10
    ∷ expect DA "001" 0
    ∷ expect DA "016" 0
    ∷ expect DA "000" 11
    ∷ expect DA "017" 11
    ∷ expect DA "999" 11
    ∷ expect DA "1" 10
    ∷ expect DA "0016" 10
    ∷ expect DA "01a" 10
    ∷ expect DU "mbar" 0
    ∷ expect DU "Torr" 0
    ∷ expect DU "hPa" 0
    ∷ expect DU "MBAR" 10
    ∷ expect DU "hpa" 10
    ∷ expect DU "" 10
    ∷ expect CM "0" 0
    ∷ expect CM "1" 0
    ∷ expect CM "2" 11
    ∷ expect CM "9" 11
    ∷ expect CM "00" 10
    ∷ expect CM "a" 10
    ∷ expect CM "" 10
    ∷ expect CC "0" 0
    ∷ expect CC "1" 0
    ∷ expect CC "2" 11
    ∷ expect FC "0" 0
    ∷ expect FC "3" 0
    ∷ expect FC "4" 11
    ∷ expect FC "-1" 10
    ∷ expect ST "F5T5" 12
    ∷ expect ST "F15T5" 12
    ∷ expect ST "F5T5.00001" 0
    ∷ expect ST "F5T15" 0
    ∷ expect ST "D1" 0
    ∷ expect ST "D20" 0
    ∷ expect ST "D0.9" 11
    ∷ expect ST "D20.0001" 11
    ∷ expect ST "F0.9T15" 11
    ∷ expect ST "F5T20.1" 11
    ∷ expect ST "F5" 10
    ∷ expect ST "FT5" 10
    ∷ expect ST "F5T" 10
    ∷ expect ST "F0.5T1e" 10
    ∷ expect ST "F1eT0.5" 10
    ∷ expect ST "D5T6" 10
    ∷ expect ST "d5" 10
    ∷ expect ST "D1234567" 10
    ∷ expect ST "D" 10
    ∷ expect ST "" 10
    ∷ expect SM "0" 0
    ∷ expect SM "4" 0
    ∷ expect SM "4D7DT2" 0
    ∷ expect SM "4D2DT2" 0
    ∷ expect SM "4D6DT6" 0
    ∷ expect SM "4D1D2D6D7DT2DT6" 0
    -- a repeat or a listed `0`
    ∷ expect SM "4D7D7" 12
    ∷ expect SM "4DT2DT2" 12
    ∷ expect SM "4D0" 12
    ∷ expect SM "4D0D0D0" 12
    ∷ expect SM "4D1D2D6D7DT2DT6D0" 12
    ∷ expect SM "4D1D2D6D7DT2DT6D1" 12
    ∷ expect SM "4D7D7D7D7D7D7D7" 12
    ∷ expect SM "4D7D7D7D7D7D7D7D7" 12
    ∷ expect SM "4D7D7D7D7D7D7D7D7D7D7D7D7D7D7D7D7D7D7D7D7D7D7D7D7D7D7D7D7D7D7D7D7D7D7D7D7D7D7D7D7D7D7D7D7D7D7D7D7D7" 12
    -- "unless a source in it is unknown", and after the form and the mode
    ∷ expect SM "4D7D7D7D7D7D7D7D9" 11
    ∷ expect SM "4D7D7D7D7D7D7D7D7D7D7D7D7D7D7D7D7D7D7D7D7D7D7D7D7D7D7D7D7D7D7D7D7D7D7D7D7D7D7D7D7D7D7D7D7D7D7D7D7D9" 11
    ∷ expect SM "4D7D7D3" 11
    ∷ expect SM "4D0D5" 11
    ∷ expect SM "4D7D07" 11
    ∷ expect SM "3D7D7" 11
    ∷ expect SM "0D7D7" 10
    ∷ expect SM "4D7D7X" 10
    ∷ expect SM "4D7D7D7D7D7D7D7D7D7D7D7D7D7D7D7D7D7D7D7D7D7D7D7D7D7D7D7D7D7D7D7D7D7D7D7D7D7D7D7D7D7D7D7D7D7D7D7D7DT" 10
    ∷ expect SM "4D07" 11
    ∷ expect SM "4D3" 11
    ∷ expect SM "4DT1" 11
    ∷ expect SM "3" 11
    ∷ expect SM "3D7" 11
    ∷ expect SM "0D7" 10
    ∷ expect SM "4DT" 10
    ∷ expect SM "4D" 10
    ∷ expect SM "3Dx" 10
    ∷ expect SM "5D7D" 10
    ∷ expect SM "4X" 10
    ∷ expect SM "4D123" 10
    ∷ expect SM "44" 10
    ∷ expect SM "4DT22" 10
    ∷ expect SM "" 10
    ∷ []

abbrev pub right : Case → Bool
right c = eqb (verdict_number (verdict_of (limits_of Standard) c.key c.text)) c.number

-- a write's data to a gauge at factory settings, and what a read then sends
pub record Sends : Type 0 where
  pub key : Key
  pub text : List ℕ
  pub sent : List ℕ

abbrev pub then : Key → String → String → Sends
then key text sent = record { key = key; text = bytes text; sent = bytes sent }

-- "sent as written below, C1 .. with two decimals"; for SM "a read sends the text as accepted"
abbrev pub sends : List Sends
sends =
    then DA "016" "016"
    ∷ then DU "Torr" "Torr"
    ∷ then C1 "0.2" "0.20"
    ∷ then C1 "8" "8.00"
    ∷ then C1 "100e-2" "1.00"
    ∷ then FC "3" "3"
    ∷ then ST "D20" "D2e1"
    ∷ then ST "F5T5.00001" "F5e0T5.00001e0"
    ∷ then ST "F5T15" "F5e0T1.5e1"
    ∷ then SM "0" "0"
    ∷ then SM "4" "4"
    ∷ then SM "4DT6DT2D7D6D2D1" "4DT6DT2D7D6D2D1"
    ∷ then SM "4D7DT2" "4D7DT2"
    ∷ []

-- what a read sends after this write
abbrev pub sent_after : Key → List ℕ → Result Setting Refusal → List ℕ
sent_after key text (Ok x) = read_text key (put_of (factory (limits_of Standard)) x (list_in (limits_of Standard) key text))
sent_after key text (Err k) = []

abbrev pub well : Sends → Bool
well c = same_text (sent_after c.key c.text (verdict_of (limits_of Standard) c.key c.text)) c.sent

-- ---- the profiles

-- a write's data, and the numbers that the papers give it on VSH, on VSM and on the third profile
pub record Profiled : Type 0 where
  pub key : Key
  pub text : List ℕ
  pub numbers : List ℕ

abbrev pub gives : Key → String → ℕ → ℕ → ℕ → Profiled
gives key text vsh vsm third = record { key = key; text = bytes text; numbers = vsh ∷ vsm ∷ third ∷ [] }

abbrev pub profiled : List Profiled
profiled =
    -- both ends pass, and nothing past them
    gives ST "D4e-4" 0 0 11
    ∷ gives ST "D0.0004" 0 0 11
    ∷ gives ST "D3.99999e-4" 11 11 11
    ∷ gives ST "D1e-3" 0 0 11
    ∷ gives ST "D2e-3" 0 0 11
    ∷ gives ST "D2.00001e-3" 0 11 11
    ∷ gives ST "D1e-2" 0 11 11
    ∷ gives ST "D0.01" 0 11 11
    ∷ gives ST "D1.00001e-2" 11 11 11
    ∷ gives ST "D1" 11 11 0
    ∷ gives ST "D20" 11 11 0
    ∷ gives ST "D0" 11 11 11
    ∷ gives ST "D-1e-3" 11 11 11
    ∷ gives ST "D1e-3T2e-3" 10 10 10
    ∷ gives ST "D0.0100001" 10 10 10
    -- the `F` form is none of VSH and VSM, whatever its numbers
    ∷ gives ST "F5T15" 10 10 0
    ∷ gives ST "F1e-3T2e-3" 10 10 11
    ∷ gives ST "F1e-3T1e-3" 10 10 11
    ∷ gives ST "F" 10 10 10
    ∷ gives ST "" 10 10 10
    ∷ gives ST "D" 10 10 10
    -- an absent source is unknown, before a repeat and a listed `0`
    ∷ gives SM "4D1DT2" 0 0 0
    ∷ gives SM "4DT2D1" 0 0 0
    ∷ gives SM "4D1" 0 0 0
    ∷ gives SM "4D7" 11 11 0
    ∷ gives SM "4DT6" 11 11 0
    ∷ gives SM "4D2" 11 11 0
    ∷ gives SM "4D0" 12 12 12
    ∷ gives SM "4D1D1" 12 12 12
    ∷ gives SM "4D1D7D7" 11 11 12
    ∷ gives SM "4D0D7" 11 11 12
    ∷ gives SM "4D1DT2D1" 12 12 12
    ∷ gives SM "4DT2DT2DT2DT2DT2DT2DT2DT2" 12 12 12
    ∷ gives SM "4" 0 0 0
    ∷ gives SM "0" 0 0 0
    -- every other setting is the same on each
    ∷ gives C1 "0.19" 11 11 11
    ∷ gives C1 "8" 0 0 0
    ∷ gives FC "3" 0 0 0
    ∷ gives FC "4" 11 11 11
    ∷ gives DA "017" 11 11 11
    ∷ []

abbrev pub numbers_of : Profiled → List ℕ
numbers_of c = map (λ (p : Profile). verdict_number (verdict_of (limits_of p) c.key c.text)) (Vsh ∷ Vsm ∷ Standard ∷ [])

abbrev pub printed_numbers : Profiled → List ℕ
printed_numbers c = c.numbers
