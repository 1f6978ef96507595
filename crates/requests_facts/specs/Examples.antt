-- Document 01, the column "CMD", and worked cases of what a V2 frame asks, their answers taken from the paper.
use Rattle.std.specs.Prelude.{true, false, List, [], ◌∷◌, ℕ, Err, Ok, Option, Result, Some}
use Prim.Native.String.{String}
use Rattle.buffer.specs.Byte.{at}
use Rattle.buffer.specs.Quoted.{bytes}
use Rattle.settings.specs.Limits.{positive, limits_of}
use Rattle.sources.specs.declared.Profile.TheVariants.{Standard}
use Rattle.settings.specs.declared.PressureUnit.TheVariants.{Torr}
use Rattle.settings.specs.declared.Transition.TheVariants.{Between}
use Rattle.settings.specs.declared.Key.TheVariants.{DA, DU, C1, CM, CC, FC, ST, SM}
use Rattle.settings.specs.declared.Setting.TheVariants.{Address, PressureIn, Factor, Control, Switch, Stream}
use Rattle.frames.specs.declared.HeadV2.{HeadV2}
use Rattle.requests.specs.Command.{command_of}
use Rattle.requests.specs.AskV2.{ask_v2, ask_list}
use Rattle.requests.specs.declared.Command.{Command}
use Rattle.requests.specs.declared.Command.TheVariants.{MV, T2, FN, FS, Of}
use Rattle.requests.specs.declared.RequestV2.{RequestV2}
use Rattle.requests.specs.declared.RequestV2.TheVariants.{Read, Restore, Set}
use Rattle.refusals.specs.declared.Refusal.{Refusal}

-- ---- the commands by their texts

pub record Row : Type 0 where
  pub text : List ℕ
  pub command : Command

abbrev pub row : String → Command → Row
row text command = record { text = bytes text; command = command }

abbrev pub table : List Row
table =
    row "MV" MV
    ∷ row "T2" T2
    ∷ row "DA" (Of DA)
    ∷ row "DU" (Of DU)
    ∷ row "C1" (Of C1)
    ∷ row "CM" (Of CM)
    ∷ row "CC" (Of CC)
    ∷ row "FC" (Of FC)
    ∷ row "FN" FN
    ∷ row "FS" FS
    ∷ row "ST" (Of ST)
    ∷ row "SM" (Of SM)
    ∷ []

abbrev pub named : Row → Option Command
named r = command_of (at r.text 0) (at r.text 1)

abbrev pub known : Row → Option Command
known r = Some r.command

-- ---- V2: access code and command, the data, and what is asked

pub record CaseV2 : Type 0 where
  pub head : List ℕ
  pub text : List ℕ
  pub ask : Result RequestV2 Refusal
  -- the sources beside it
  pub list : List ℕ

abbrev pub v2 : String → String → Result RequestV2 Refusal → CaseV2
v2 head text ask = record { head = bytes head; text = bytes text; ask = ask; list = [] }

abbrev pub stream : String → Result RequestV2 Refusal → List ℕ → CaseV2
stream text ask list = record { head = bytes "2SM"; text = bytes text; ask = ask; list = list }

abbrev pub cases_v2 : List CaseV2
cases_v2 =
    v2 "0MV" "" (Ok (Read MV))
    ∷ v2 "0FN" "" (Ok (Read FN))
    ∷ v2 "0CC" "" (Ok (Read (Of CC)))
    ∷ v2 "4DA" "" (Ok (Restore (Of DA)))
    ∷ v2 "4CC" "" (Ok (Restore (Of CC)))
    ∷ v2 "2DA" "005" (Ok (Set (Address 5)))
    ∷ v2 "2DU" "Torr" (Ok (Set (PressureIn Torr)))
    ∷ v2 "2C1" "2.22" (Ok (Set (Factor 222)))
    ∷ v2 "2C1" "80e-1" (Ok (Set (Factor 800)))
    ∷ v2 "2CM" "0" (Ok (Set (Control 0)))
    ∷ v2 "2ST" "F5T15" (Ok (Set (Switch (Between (positive 500000 9) (positive 150000 10)))))
    ∷ stream "4" (Ok (Set (Stream true))) []
    ∷ stream "4D7DT2" (Ok (Set (Stream true))) (7 ∷ 8 ∷ [])
    ∷ stream "0" (Ok (Set (Stream false))) []
    -- CODE before NO_DEF, NO_DEF before ACCESS and SYNTAX, ACCESS before SYNTAX
    ∷ v2 "1XX" "" (Err Refusal.Code)
    ∷ v2 "3MV" "" (Err Refusal.Code)
    ∷ v2 "2MR" "12" (Err Refusal.NoDef)
    ∷ v2 "0T6" "" (Err Refusal.NoDef)
    ∷ v2 "0mv" "" (Err Refusal.NoDef)
    ∷ v2 "2MV" "" (Err Refusal.Access)
    ∷ v2 "4FS" "" (Err Refusal.Access)
    ∷ v2 "4SM" "" (Err Refusal.Access)
    ∷ v2 "4SM" "4" (Err Refusal.Access)
    -- data with a default and with a read, none with a write
    ∷ v2 "4CC" "1" (Err Refusal.Syntax)
    ∷ v2 "0MV" "1" (Err Refusal.Syntax)
    ∷ v2 "2CC" "" (Err Refusal.Syntax)
    -- the data of a write
    ∷ v2 "2CC" "2" (Err Refusal.Range)
    ∷ v2 "2CC" "00" (Err Refusal.Syntax)
    ∷ v2 "2DA" "000" (Err Refusal.Range)
    ∷ v2 "2DA" "17" (Err Refusal.Syntax)
    ∷ v2 "2C1" "0.205" (Err Refusal.Range)
    ∷ v2 "2ST" "F5T5" (Err Refusal.Logic)
    ∷ v2 "2ST" "F25T21" (Err Refusal.Range)
    ∷ v2 "2ST" "F25T" (Err Refusal.Syntax)
    ∷ stream "4D7D7D7D7D7D7D7D7" (Err Refusal.Logic) []
    ∷ stream "4D0" (Err Refusal.Logic) []
    ∷ stream "4D7D7D3" (Err Refusal.Range) []
    ∷ stream "0D7" (Err Refusal.Syntax) []
    ∷ []

-- what a definition gives for a case, and what the paper gives
pub record Given : Type 0 where
  pub ask : Result RequestV2 Refusal
  pub list : List ℕ

abbrev pub asked_v2 : CaseV2 → Given
asked_v2 c =
    let h : HeadV2 = record { address = 1; access = at c.head 0; first = at c.head 1; second = at c.head 2 } in
    record { ask = ask_v2 (limits_of Standard) h c.text; list = ask_list (limits_of Standard) h c.text }

abbrev pub paper_v2 : CaseV2 → Given
paper_v2 c = record { ask = c.ask; list = c.list }
