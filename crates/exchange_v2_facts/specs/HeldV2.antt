-- Document 01, "Settings and readings, V2": what the gauge holds for a V2 request, and what the master is to read of its answer.
use Rattle.std.specs.Prelude.{◌≡◌, cond, List, [], ℕ, eqb, Ok, Result}
use Rattle.buffer.specs.First.{pick}
use Rattle.frames.specs.Frame.{data_from, frame_of}
use Rattle.frames.specs.declared.Frame.TheVariants.{V2}
use Rattle.error_texts.specs.Texts.{error_of}
use Rattle.error_texts.specs.declared.ErrorText.TheVariants.{Error1}
use Rattle.settings.specs.Limits.{ProfileLimits}
use Rattle.settings.specs.declared.Key.TheVariants.{DA, DU, C1, CM, CC, FC, ST, SM}
use Rattle.readings.specs.declared.Pressure.{Pressure}
use Rattle.readings.specs.declared.Pressure.TheVariants as pressure
use Rattle.readings.specs.declared.Temperature.{Temperature}
use Rattle.readings.specs.declared.Temperature.TheVariants as temperature
use Rattle.forms_facts.specs.Sound.{setting_in}
use Rattle.requests.specs.AskV2.{ask_v2}
use Rattle.requests.specs.declared.Command.{Command}
use Rattle.requests.specs.declared.Command.TheVariants.{MV, T2, FN, FS, Of}
use Rattle.requests.specs.declared.RequestV2.{RequestV2}
use Rattle.requests.specs.declared.RequestV2.TheVariants as request
use Rattle.request_texts.specs.RequestText.{access_of, command_in, head_for}
use Rattle.replies_v2_values.specs.declared.ReplyV2.{ReplyV2}
use Rattle.replies_v2_values.specs.declared.ReplyV2.TheVariants.{Measured, UnderRange, OverRange, Degrees, FilamentNumber, StatusNumber, Holds, Done, Error}
use Rattle.gauge_rules.specs.State.{State}
use Rattle.gauge_rules.specs.RulesV2.{filament_of, grant_v2}
use Rattle.refusals.specs.declared.Refusal.{Refusal}

-- ---- what the gauge holds

-- a pressure, as a reply tells it. (A faulty sensor has no value: its read is refused with 13, whose text is `ERROR1`.)
unfoldable pub held_pressure : Pressure → ReplyV2
held_pressure (pressure.Measured n) = Measured n
held_pressure pressure.UnderRange = UnderRange
held_pressure pressure.OverRange = OverRange
held_pressure pressure.Faulty = Error Error1

-- a temperature; of a faulty sensor as above
unfoldable pub held_temperature : Temperature → ReplyV2
held_temperature (temperature.Degrees negative h) = Degrees negative h
held_temperature temperature.Faulty = Error Error1

-- the value that a read asks for
unfoldable pub held_value : State → Command → ReplyV2
held_value g MV = held_pressure g.readings.p0
held_value g T2 = held_temperature g.readings.t2
held_value g FN = FilamentNumber (filament_of g.settings.filament g.readings.status)
held_value g FS = StatusNumber g.readings.status
held_value g (Of key) = Holds (setting_in key g.settings)

-- what the gauge holds for a request: a value for a read; a restore and a write are done
unfoldable pub held_v2 : State → RequestV2 → ReplyV2
held_v2 g (request.Read c) = held_value g c
held_v2 g (request.Restore c) = Done
held_v2 g (request.Set x) = Done

-- the sources beside it: a read of SM lists them while lines are sent
unfoldable pub held_list_of : State → Command → List ℕ
held_list_of g MV = []
held_list_of g T2 = []
held_list_of g FN = []
held_list_of g FS = []
held_list_of g (Of DA) = []
held_list_of g (Of DU) = []
held_list_of g (Of C1) = []
held_list_of g (Of CM) = []
held_list_of g (Of CC) = []
held_list_of g (Of FC) = []
held_list_of g (Of ST) = []
held_list_of g (Of SM) = cond g.settings.streaming g.settings.list []

unfoldable pub held_list_v2 : State → RequestV2 → List ℕ
held_list_v2 g (request.Read c) = held_list_of g c
held_list_v2 g (request.Restore c) = []
held_list_v2 g (request.Set x) = []

-- ---- what the master reads

-- what the master reads: what the gauge holds, or the error of the number that the gauge's rules give the request
unfoldable pub expected_v2 : State → RequestV2 → Result ReplyV2 Refusal
expected_v2 g r = pick (eqb (grant_v2 g r) 0) (Ok (held_v2 g r)) (Ok (Error (error_of (grant_v2 g r))))

-- and the sources beside it
unfoldable pub expected_list_v2 : State → RequestV2 → List ℕ
expected_list_v2 g r = pick (eqb (grant_v2 g r) 0) (held_list_v2 g r) []

-- two requests that the gauge answers alike: of one access and one command. (Two writes of one setting are so whatever their values: a
-- number that was asked for, and the canonical number that the gauge reads.)
pub record Alike (x y : RequestV2) : Type 0 where
  pub command : command_in x ≡ command_in y
  pub access : access_of x ≡ access_of y

-- bytes that are a V2 frame for the address a, and ask x of a gauge with these limits. (Which written requests are so is not said here.)
pub record AskedBy (limits : ProfileLimits) (a : ℕ) (x : RequestV2) (s : List ℕ) : Type 0 where
  pub frame : frame_of s ≡ Ok (V2 (head_for a x))
  pub asks : ask_v2 limits (head_for a x) (data_from 8 s) ≡ Ok x
