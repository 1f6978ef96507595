-- What is proved here, each statement as a type; proofs/ has the proofs.
use Rattle.std.specs.Prelude.{◌≡◌, List, [], ◌∷◌, ◌++◌, map, replicate}
use Rattle.opg_gauge.specs.declared.Gauge.{Gauge}
use Rattle.opg_gauge.specs.declared.Pressure.TheVariants.{Bits}
use Rattle.opg_facts.specs.Examples.{hex}
use Rattle.opg_sequence_facts.specs.Model.{gauge_of}
use Rattle.opg_sequence_facts.specs.Sequence.{History, model, Trace, Claim}
use Rattle.opg_sequence_facts.specs.Witness.{Call, call_of, play, calls, answered_number, memory_of}

-- "Demand 3 is a single claim about the whole sequence, not one for each call.": it holds of every sequence of calls from factory settings
abbrev pub Claimed : Type 0
Claimed = (h : History) (g : Gauge) → Trace h g → Claim h g

-- ---- the claim is about something

-- any calls have a history with these calls,
abbrev pub Plays : Type 0
Plays = (cs : List Call) → map call_of (play cs) ≡ cs

-- a gauge has it,
abbrev pub Played : Type 0
Played = (cs : List Call) → Trace (play cs) (gauge_of (model (play cs)))

-- and there is no other: the calls fix the whole history
abbrev pub Only : Type 0
Only = (h : History) (g : Gauge) → Trace h g → h ≡ play (map call_of h)

-- "Each setting is what the last request accepted for it wrote": one sequence, its numbers and what the gauge holds at its end
pub record LastWrites : Type 0 where
  pub history : History
  pub gauge : Gauge
  pub trace : Trace history gauge
  pub calls_are : map call_of history ≡ calls
  pub numbers_are : map answered_number history ≡ 20 ∷ 15 ∷ 20 ∷ 20 ∷ 20 ∷ 1002 ∷ 20 ∷ 20 ∷ []
  pub unit_is : gauge.settings.unit ≡ 3
  pub mode_is : gauge.settings.mode ≡ 0
  pub spectra_are : gauge.settings.spectra ≡ 100
  pub gas_is : gauge.settings.gas ≡ 7
  pub pressure_is : gauge.pressure ≡ Bits 0x40e00000
  -- 700 Pascal, and then the old bytes
  pub memory_is : memory_of history ≡ hex "00 0B 21 00 09 02 36 B0 00 00 44 2F 00 00 D2 88" ++ replicate 24 238
