-- Two rows of the table for V2, on the bytes' access code and command alone: CC's rule and the faulty sensor without what the decoder makes of
-- them.
use Rattle.std.specs.Prelude.{Bool, false, not, ◌&&◌, List, [], ◌∷◌, ℕ, eqb}
use Rattle.buffer.specs.First.{◌⇒◌, first}
use Rattle.buffer.specs.Byte.{same_text}
use Rattle.buffer.specs.Quoted.{bytes}
use Rattle.readings.specs.Reading.{faulty_pressure, faulty_temperature}
use Rattle.readings.specs.declared.Readings.{Readings}
use Rattle.requests.specs.Command.{read_code}
use Rattle.gauge_rules.specs.State.{State}

-- 12 LOGIC, on the access code and the command's two characters: "CC written or restored while CM is 1"
abbrev pub cathode_held : State → ℕ → List ℕ → Bool
cathode_held g a t = (same_text t (bytes "CC") && not (eqb a read_code)) && eqb g.settings.control 1

-- 13 FAULT: a read of MV or T2 whose sensor is faulty
abbrev pub sensor_faulty : Readings → ℕ → List ℕ → Bool
sensor_faulty r a t = eqb a read_code && first (same_text t (bytes "MV") ⇒ faulty_pressure r.p0 ∷ same_text t (bytes "T2") ⇒ faulty_temperature r.t2 ∷ []) false
