-- The commands of V2 and the column "Access".
use Rattle.std.specs.Prelude.{Bool, true, false, not, ◌||◌, List, [], ◌∷◌, ℕ, eqb, None, Option, Some}
use Rattle.buffer.specs.First.{◌⇒◌, first, pick}
use Rattle.buffer.specs.Byte.{same_text}
use Rattle.buffer.specs.Quoted.{bytes}
use Rattle.settings.specs.declared.Key.TheVariants.{DA, DU, C1, CM, CC, FC, ST, SM}
use Rattle.requests.specs.declared.Command.{Command}
use Rattle.requests.specs.declared.Command.TheVariants.{MV, T2, FN, FS, Of}

-- the two characters of a command
unfoldable pub command_text : Command → List ℕ
command_text MV = bytes "MV"
command_text T2 = bytes "T2"
command_text FN = bytes "FN"
command_text FS = bytes "FS"
command_text (Of DA) = bytes "DA"
command_text (Of DU) = bytes "DU"
command_text (Of C1) = bytes "C1"
command_text (Of CM) = bytes "CM"
command_text (Of CC) = bytes "CC"
command_text (Of FC) = bytes "FC"
command_text (Of ST) = bytes "ST"
command_text (Of SM) = bytes "SM"

-- the column "CMD"
abbrev pub commands : List Command
commands = MV ∷ T2 ∷ FN ∷ FS ∷ Of DA ∷ Of DU ∷ Of C1 ∷ Of CM ∷ Of CC ∷ Of FC ∷ Of ST ∷ Of SM ∷ []

-- the first of these commands whose text it is
unfoldable pub find_command : List Command → List ℕ → Option Command
find_command [] t = None
find_command (c ∷ cs) t = pick (same_text t (command_text c)) (Some c) (find_command cs t)

-- the command that two bytes name. "Commands not named here are unknown."
unfoldable pub command_of : ℕ → ℕ → Option Command
command_of a b = find_command commands (a ∷ b ∷ [])

-- "read 0", "write 2", "factory default 4", as characters
abbrev pub read_code : ℕ
read_code = 48

abbrev pub write_code : ℕ
write_code = 50

abbrev pub restore_code : ℕ
restore_code = 52

unfoldable pub is_access : ℕ → Bool
is_access a = eqb a read_code || eqb a write_code || eqb a restore_code

-- the column "Access": "read" for MV, T2, FN and FS, "read, write" for SM, "all three" for the others
unfoldable pub can_write : Command → Bool
can_write MV = false
can_write T2 = false
can_write FN = false
can_write FS = false
can_write (Of key) = true

unfoldable pub can_restore : Command → Bool
can_restore MV = false
can_restore T2 = false
can_restore FN = false
can_restore FS = false
can_restore (Of DA) = true
can_restore (Of DU) = true
can_restore (Of C1) = true
can_restore (Of CM) = true
can_restore (Of CC) = true
can_restore (Of FC) = true
can_restore (Of ST) = true
can_restore (Of SM) = false

-- 9 ACCESS: "command lacks this access"
unfoldable pub lacks_access : ℕ → Command → Bool
lacks_access access c =
    first
    (eqb access write_code ⇒ not (can_write c)
    ∷ eqb access restore_code ⇒ not (can_restore c)
    ∷ [])
    false
