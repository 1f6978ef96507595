-- Document 01, two tables written out from the paper, each beside what the definitions give: the column "Access", and V1's letters with their
-- data.
use Rattle.std.specs.Prelude.{Bool, true, false, not, List, [], ◌∷◌, map, ℕ, Err, Ok, Result}
use Prim.Native.String.{String}
use Rattle.buffer.specs.Byte.{at}
use Rattle.buffer.specs.Quoted.{bytes}
use Rattle.settings.specs.declared.Key.TheVariants.{DA, DU, C1, CM, CC, FC, ST, SM}
use Rattle.settings.specs.declared.PressureUnit.TheVariants.{Mbar, Torr, HPa}
use Rattle.requests.specs.Command.{read_code, write_code, restore_code, lacks_access}
use Rattle.requests.specs.AskV1.{ask_v1}
use Rattle.requests.specs.declared.Command.{Command}
use Rattle.requests.specs.declared.Command.TheVariants.{MV, T2, FN, FS, Of}
use Rattle.requests.specs.declared.RequestV1.{RequestV1}
use Rattle.requests.specs.declared.RequestV1.TheVariants.{Measure, ReadFactor, Unlock, SetFactor, ReadUnit, SetUnit}
use Rattle.refusals.specs.declared.Refusal.{Refusal}

-- ---- the column "Access"

-- a command, and whether it has read, write and factory default
pub record AccessRow : Type 0 where
  pub command : Command
  pub accesses : List Bool

abbrev pub has : Command → Bool → Bool → Bool → AccessRow
has command read write restore = record { command = command; accesses = read ∷ write ∷ restore ∷ [] }

abbrev pub access_table : List AccessRow
access_table =
    -- read, write, default
    has MV true false false
    ∷ has T2 true false false
    ∷ has (Of DA) true true true
    ∷ has (Of DU) true true true
    ∷ has (Of C1) true true true
    ∷ has (Of CM) true true true
    ∷ has (Of CC) true true true
    ∷ has (Of FC) true true true
    ∷ has FN true false false
    ∷ has FS true false false
    ∷ has (Of ST) true true true
    ∷ has (Of SM) true true false
    ∷ []

abbrev pub accesses_of : AccessRow → List Bool
accesses_of r = map (λ (access : ℕ). not (lacks_access access r.command)) (read_code ∷ write_code ∷ restore_code ∷ [])

abbrev pub accesses_printed : AccessRow → List Bool
accesses_printed r = r.accesses

-- ---- V1's letters: "`M` (no data)"; "`C` and `c` with one digit: 1 only, else RANGE"; `c` with six digits, whose number the gauge judges;
-- "`U` (no data) reads, `u` with six digits writes 000000 mbar, 000001 Torr, 000002 hPa, else RANGE"

pub record LetterRow : Type 0 where
  pub letter : List ℕ
  pub text : List ℕ
  pub ask : Result RequestV1 Refusal

abbrev pub v1 : String → String → Result RequestV1 Refusal → LetterRow
v1 letter text ask = record { letter = bytes letter; text = bytes text; ask = ask }

abbrev pub letter_table : List LetterRow
letter_table =
    v1 "M" "" (Ok Measure)
    ∷ v1 "M" "1" (Err Refusal.Syntax)
    ∷ v1 "M" "a" (Err Refusal.Syntax)
    ∷ v1 "M" "000001" (Err Refusal.Syntax)
    ∷ v1 "C" "1" (Ok ReadFactor)
    ∷ v1 "C" "0" (Err Refusal.Range)
    ∷ v1 "C" "2" (Err Refusal.Range)
    ∷ v1 "C" "9" (Err Refusal.Range)
    ∷ v1 "C" "" (Err Refusal.Syntax)
    ∷ v1 "C" "a" (Err Refusal.Syntax)
    ∷ v1 "C" "01" (Err Refusal.Syntax)
    ∷ v1 "C" "000100" (Err Refusal.Syntax)
    ∷ v1 "c" "1" (Ok Unlock)
    ∷ v1 "c" "0" (Err Refusal.Range)
    ∷ v1 "c" "2" (Err Refusal.Range)
    ∷ v1 "c" "9" (Err Refusal.Range)
    ∷ v1 "c" "" (Err Refusal.Syntax)
    ∷ v1 "c" "a" (Err Refusal.Syntax)
    ∷ v1 "c" "01" (Err Refusal.Syntax)
    ∷ v1 "c" "00100" (Err Refusal.Syntax)
    ∷ v1 "c" "00010x" (Err Refusal.Syntax)
    ∷ v1 "c" "0000100" (Err Refusal.Syntax)
    ∷ v1 "c" "000000" (Ok (SetFactor 0))
    ∷ v1 "c" "000019" (Ok (SetFactor 19))
    ∷ v1 "c" "000020" (Ok (SetFactor 20))
    ∷ v1 "c" "000800" (Ok (SetFactor 800))
    ∷ v1 "c" "000801" (Ok (SetFactor 801))
    ∷ v1 "c" "001200" (Ok (SetFactor 1200))
    ∷ v1 "c" "999999" (Ok (SetFactor 999999))
    ∷ v1 "U" "" (Ok ReadUnit)
    ∷ v1 "U" "1" (Err Refusal.Syntax)
    ∷ v1 "U" "a" (Err Refusal.Syntax)
    ∷ v1 "U" "000001" (Err Refusal.Syntax)
    ∷ v1 "u" "000000" (Ok (SetUnit Mbar))
    ∷ v1 "u" "000001" (Ok (SetUnit Torr))
    ∷ v1 "u" "000002" (Ok (SetUnit HPa))
    ∷ v1 "u" "000003" (Err Refusal.Range)
    ∷ v1 "u" "001000" (Err Refusal.Range)
    ∷ v1 "u" "100000" (Err Refusal.Range)
    ∷ v1 "u" "" (Err Refusal.Syntax)
    ∷ v1 "u" "1" (Err Refusal.Syntax)
    ∷ v1 "u" "00001" (Err Refusal.Syntax)
    ∷ v1 "u" "00000a" (Err Refusal.Syntax)
    ∷ v1 "u" "0000001" (Err Refusal.Syntax)
    -- no other letter, in either case
    ∷ v1 "m" "" (Err Refusal.NoDef)
    ∷ v1 "T" "" (Err Refusal.NoDef)
    ∷ v1 "A" "1" (Err Refusal.NoDef)
    ∷ v1 "z" "000001" (Err Refusal.NoDef)
    ∷ []

abbrev pub letter_asks : LetterRow → Result RequestV1 Refusal
letter_asks r = ask_v1 (at r.letter 0) r.text

abbrev pub letter_printed : LetterRow → Result RequestV1 Refusal
letter_printed r = r.ask
