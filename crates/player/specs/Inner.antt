-- What inner functions promise; no public contract cites this file.
use Rattle.std.specs.Prelude.{◌≡◌, List, ◌∷◌, ℕ, ◌≤◌, length, None, Option, Some}
use Rattle.sources.specs.declared.Profile.{Profile}
use Rattle.settings.specs.Limits.{limits_of}
use Rattle.sequence_facts.specs.Sequence as text
use Rattle.opg_sequence_facts.specs.Sequence as opg
use Rattle.player.specs.Played.{Exchange, History, texts, opgs, answered_number, length_of, advance}
use Rattle.player.specs.declared.Gauges.{Gauges}
use Rattle.player.specs.declared.Answered.{Answered}
use Rattle.player.specs.declared.Turn.{Turn}

-- each gauge's calls met their contracts, from factory settings to this gauge; the text gauge started with this profile
pub record Traces (profile : Profile) (h : History) (g : Gauges) : Type 0 where
  pub of_text_gauge : text.Trace (limits_of profile) (texts h) g.text
  pub of_opg_gauge : opg.Trace (opgs h) g.opg

-- a call was made: its exchange goes on any history that left the gauges g
pub record Made (g : Gauges) (e : Exchange) (r : Answered) : Type 0 where
  pub number_is : r.number ≡ answered_number e
  pub length_is : r.len ≡ length_of e
  pub follows : (profile : Profile) (h : History) → Traces profile h g → Traces profile (e ∷ h) r.gauges

-- the call at place `at` of the script was made, with the memory from `used` on
pub record Took (script memory : List ℕ) (g : Gauges) (at used : ℕ) (r : Turn) (memory' : List ℕ) : Type 0 where
  pub exchange : Exchange
  pub made : Made g exchange r.answered
  pub advances : (profile : Profile) (h : History) → Traces profile h g
      → advance profile script (record { history = h; at = at; used = used; memory = memory }) ≡ record { history = exchange ∷ h; at = r.at; used = r.used; memory = memory' }
  pub at_in : r.at ≤ length script
  pub used_in : r.used ≤ length memory

-- no call was made, and the memory is as it was
pub record Still (script memory : List ℕ) (at used : ℕ) (memory' : List ℕ) : Type 0 where
  pub memory_is : memory' ≡ memory
  pub stands : (profile : Profile) (h : History)
      → advance profile script (record { history = h; at = at; used = used; memory = memory }) ≡ record { history = h; at = at; used = used; memory = memory }

-- one call was made, or none
abbrev pub One : (script memory : List ℕ) (g : Gauges) (at used : ℕ) (r : Option Turn) (memory' : List ℕ) → Type 0
One script memory g at used (Some r) memory' = Took script memory g at used r memory'
One script memory g at used None memory' = Still script memory at used memory'
