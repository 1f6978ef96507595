-- Document 01, "Settings and readings, V2": the rules that read the state, the replies' data, and what an accepted request enters.
use Rattle.std.specs.Prelude.{Bool, true, false, ◌&&◌, List, [], ◌∷◌, ℕ, eqb}
use Rattle.buffer.specs.First.{◌⇒◌, first}
use Rattle.buffer.specs.Byte.{within, digit}
use Rattle.settings.specs.Limits.{ProfileLimits}
use Rattle.settings.specs.Settings.{Held, put_of, restore_of}
use Rattle.settings.specs.Sent.{read_text}
use Rattle.settings.specs.declared.Key.TheVariants.{DA, DU, C1, CM, CC, FC, ST, SM}
use Rattle.settings.specs.declared.Setting.TheVariants.{Address, PressureIn, Factor, Control, Cathode, Filament, Switch, Stream}
use Rattle.readings.specs.Reading.{pressure_text, temperature_text, faulty_pressure, faulty_temperature}
use Rattle.readings.specs.declared.Readings.{Readings}
use Rattle.requests.specs.declared.Command.{Command}
use Rattle.requests.specs.declared.Command.TheVariants.{MV, T2, FN, FS, Of}
use Rattle.requests.specs.declared.RequestV2.{RequestV2}
use Rattle.requests.specs.declared.RequestV2.TheVariants.{Read, Restore, Set}
use Rattle.gauge_rules.specs.State.{State}

-- "FN is FC when FC is 1 or 2; otherwise 2 if FS is 1 or 3, else 1."
unfoldable pub filament_of : ℕ → ℕ → ℕ
filament_of filament status = first (within 1 2 filament ⇒ filament ∷ eqb status 1 ⇒ 2 ∷ eqb status 3 ⇒ 2 ∷ []) 1

-- a request that writes or restores CC
unfoldable pub changes_cathode : RequestV2 → Bool
changes_cathode (Read c) = false
changes_cathode (Restore MV) = false
changes_cathode (Restore T2) = false
changes_cathode (Restore FN) = false
changes_cathode (Restore FS) = false
changes_cathode (Restore (Of DA)) = false
changes_cathode (Restore (Of DU)) = false
changes_cathode (Restore (Of C1)) = false
changes_cathode (Restore (Of CM)) = false
changes_cathode (Restore (Of CC)) = true
changes_cathode (Restore (Of FC)) = false
changes_cathode (Restore (Of ST)) = false
changes_cathode (Restore (Of SM)) = false
changes_cathode (Set (Address v)) = false
changes_cathode (Set (PressureIn v)) = false
changes_cathode (Set (Factor v)) = false
changes_cathode (Set (Control v)) = false
changes_cathode (Set (Cathode v)) = true
changes_cathode (Set (Filament v)) = false
changes_cathode (Set (Switch v)) = false
changes_cathode (Set (Stream v)) = false

-- "the sensor asked for is faulty"
unfoldable pub reads_faulty : Readings → RequestV2 → Bool
reads_faulty r (Read MV) = faulty_pressure r.p0
reads_faulty r (Read T2) = faulty_temperature r.t2
reads_faulty r (Read FN) = false
reads_faulty r (Read FS) = false
reads_faulty r (Read (Of key)) = false
reads_faulty r (Restore c) = false
reads_faulty r (Set x) = false

-- "CC written or restored while CM is 1 is LOGIC."
unfoldable pub grant_v2 : State → RequestV2 → ℕ
grant_v2 g request =
    first
    ((changes_cathode request && eqb g.settings.control 1) ⇒ 12
    ∷ reads_faulty g.readings request ⇒ 13
    ∷ [])
    0

-- the column "Data" of a read
unfoldable pub sent_text : State → Command → List ℕ
sent_text g MV = pressure_text g.readings.p0
sent_text g T2 = temperature_text g.readings.t2
sent_text g FN = digit (filament_of g.settings.filament g.readings.status) ∷ []
sent_text g FS = digit g.readings.status ∷ []
sent_text g (Of key) = read_text key g.settings

-- "Write and default replies carry no data."
unfoldable pub text_v2 : State → RequestV2 → List ℕ
text_v2 g (Read c) = sent_text g c
text_v2 g (Restore c) = []
text_v2 g (Set x) = []

-- "read 0 is answered by 1, write 2 by 3, factory default 4 by 5"
unfoldable pub answer_code : RequestV2 → ℕ
answer_code (Read c) = 49
answer_code (Restore c) = 53
answer_code (Set x) = 51

-- what an accepted request enters; the list counts for SM only
unfoldable pub enter_v2 : ProfileLimits → Held → RequestV2 → List ℕ → Held
enter_v2 limits h (Read c) list = h
enter_v2 limits h (Restore MV) list = h
enter_v2 limits h (Restore T2) list = h
enter_v2 limits h (Restore FN) list = h
enter_v2 limits h (Restore FS) list = h
enter_v2 limits h (Restore (Of key)) list = restore_of limits h key
enter_v2 limits h (Set x) list = put_of h x list
