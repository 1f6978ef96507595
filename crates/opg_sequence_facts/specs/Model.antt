-- The reference model of an OPG: document 01's "book". "Each gauge's book is fed its requests' bytes, the length of the memory lent with each and its
-- bench settings, no answers. It starts with factory values and the bench's start."
use Rattle.std.specs.Prelude.{List, [], ◌∷◌, ℕ}
use Rattle.opg_gauge.specs.State.{start, benched}
use Rattle.opg_gauge.specs.declared.Gauge.{Gauge}
use Rattle.opg_gauge.specs.declared.Pressure.{Pressure}
use Rattle.opg_answer.specs.Reply.{after_of}

-- what it is fed: a request's bytes and how many bytes are lent with it; a bench setting
pub data Fed : Type 0 where
  request : List ℕ → ℕ → Fed
  bench : Pressure → Fed

-- what it holds: each setting as a number; the pressure as the 32 bits of mbar, or unavailable
pub record Model : Type 0 where
  pub unit : ℕ
  pub mode : ℕ
  pub spectra : ℕ
  pub gas : ℕ
  pub pressure : Pressure

-- what a gauge holds; and the gauge that holds this, to which the rules are applied
abbrev pub held : Gauge → Model
held g =
    record { unit = g.settings.unit; mode = g.settings.mode; spectra = g.settings.spectra; gas = g.settings.gas; pressure = g.pressure }

abbrev pub gauge_of : Model → Gauge
gauge_of m = record { settings = record { unit = m.unit; mode = m.mode; spectra = m.spectra; gas = m.gas }; pressure = m.pressure }

-- "The rules above, applied to what it holds, fix each call's number and reply. Then an accepted write .. or bench setting enters what it sets;
-- .. all else stays."
abbrev pub step : Model → Fed → Model
step m (request s lent) = held (after_of lent (gauge_of m) s)
step m (bench p) = held (benched (gauge_of m) p).gauge

-- what it holds after these, the latest first
abbrev pub model_of : List Fed → Model
model_of [] = held start
model_of (f ∷ fs) = step (model_of fs) f
