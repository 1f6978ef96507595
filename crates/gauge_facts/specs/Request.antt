-- What document 01 asks of a request that is accepted: the memory lent, its frame, its data, and the rules on the gauge's state.
use Rattle.std.specs.Prelude.{◌≡◌, true, false, List, [], ℕ, ◌≤◌, length}
use Rattle.buffer.specs.Byte.{is_digit, every, numeral}
use Rattle.buffer.specs.Quoted.{bytes}
use Rattle.settings.specs.Limits.{ProfileLimits}
use Rattle.settings.specs.declared.Key.TheVariants.{CC}
use Rattle.settings.specs.declared.Setting.TheVariants.{Factor}
use Rattle.readings.specs.Reading.{faulty_pressure, faulty_temperature}
use Rattle.requests.specs.Command.{read_code, can_restore}
use Rattle.requests.specs.declared.Command.TheVariants.{MV, T2, Of}
use Rattle.requests.specs.declared.RequestV2.{RequestV2}
use Rattle.requests.specs.declared.RequestV2.TheVariants.{Read, Restore, Set}
use Rattle.requests.specs.declared.RequestV1.{RequestV1}
use Rattle.requests.specs.declared.RequestV1.TheVariants.{Measure, ReadFactor, Unlock, SetFactor, ReadUnit, SetUnit}
use Rattle.request_texts.specs.RequestText.{access_of, command_in, head_for, head_for_v1}
use Rattle.settings.specs.Units.{unit_code}
use Rattle.requests.specs.AskV2.{ask_list}
use Rattle.frames.specs.Frame.{data_from, head_v2}
use Rattle.frame_writer.specs.Written.{frame_v1, frame_v2}
use Rattle.forms_facts.specs.Codes.{GoodList}
use Rattle.forms_facts.specs.Sound.{Sound}
use Rattle.forms_facts.specs.Form.{FormWith}
use Rattle.gauge_rules.specs.State.{State}
use Rattle.gauge_table.specs.Table.{answer_room}

-- 1: not "lent answer memory below 64 bytes"
abbrev pub RoomFits : ℕ → Type 0
RoomFits room = answer_room ≤ room

-- ---- V2

-- the data of a request with this list of sources beside it: none with a read or a default, which the command must have; with a write the
-- setting's form, and both within the profile's limits
abbrev pub DataFor : ProfileLimits → RequestV2 → List ℕ → List ℕ → Type 0
DataFor limits (Read c) list d = (d ≡ []) × (list ≡ [])
DataFor limits (Restore c) list d = (can_restore c ≡ true) × (d ≡ []) × (list ≡ [])
DataFor limits (Set x) list d = FormWith limits d x list × Sound limits x × GoodList limits.source_codes list

-- what the gauge's state allows
pub record Allowed (g : State) (r : RequestV2) : Type 0 where
  -- "CC written or restored while CM is 1 is LOGIC": then CC is only read
  pub rule : command_in r ≡ Of CC → g.settings.control ≡ 1 → access_of r ≡ read_code
  -- "the sensor asked for is faulty"
  pub pressure : r ≡ Read MV → faulty_pressure g.readings.p0 ≡ false
  pub temperature : r ≡ Read T2 → faulty_temperature g.readings.t2 ≡ false

-- the sources that a V2 frame lists
abbrev pub asked_list : ProfileLimits → List ℕ → List ℕ
asked_list limits s = ask_list limits (head_v2 s) (data_from 8 s)

-- the memory lent, the bytes and the state satisfy the paper, for the request r with this list of sources beside it: the frame has the
-- gauge's address, the request's access code and command, and data d
pub record Satisfies (g : State) (room : ℕ) (s : List ℕ) (r : RequestV2) (list d : List ℕ) : Type 0 where
  pub room_fits : RoomFits room
  pub frame : s ≡ frame_v2 (head_for g.settings.address r) d
  pub formed : DataFor g.limits r list d
  pub allowed : Allowed g r

-- ---- V1

-- six digits that spell n
abbrev pub SixDigits : ℕ → List ℕ → Type 0
SixDigits n d = (length d ≡ 6) × (every is_digit d ≡ true) × (numeral d ≡ n)

-- the data of a request: `M` and `U` have none, `C` and the unlock the digit 1, the writes six digits; "000000 mbar, 000001 Torr, 000002 hPa"
abbrev pub DataForV1 : RequestV1 → List ℕ → Type 0
DataForV1 Measure d = d ≡ []
DataForV1 ReadFactor d = d ≡ bytes "1"
DataForV1 Unlock d = d ≡ bytes "1"
DataForV1 (SetFactor n) d = SixDigits n d
DataForV1 ReadUnit d = d ≡ []
DataForV1 (SetUnit u) d = SixDigits (unit_code u) d

-- "`c` with six digits, if unlocked, writes 20 to 800"; a faulty sensor is not measured
abbrev pub AllowedV1 : State → RequestV1 → Type 0
AllowedV1 g Measure = faulty_pressure g.readings.p0 ≡ false
AllowedV1 g ReadFactor = Unit {0}
AllowedV1 g Unlock = Unit {0}
AllowedV1 g (SetFactor n) = (g.unlocked ≡ true) × Sound g.limits (Factor n)
AllowedV1 g ReadUnit = Unit {0}
AllowedV1 g (SetUnit u) = Unit {0}

-- the memory lent, the bytes and the state satisfy the paper, for the request r: the frame has the gauge's address, the request's letter, and
-- data d
pub record SatisfiesV1 (g : State) (room : ℕ) (s : List ℕ) (r : RequestV1) (d : List ℕ) : Type 0 where
  pub room_fits : RoomFits room
  pub frame : s ≡ frame_v1 (head_for_v1 g.settings.address r) d
  pub formed : DataForV1 r d
  pub allowed : AllowedV1 g r
