-- What is proved here, each statement as a type; proofs/ has the proofs.
use Rattle.std.specs.Prelude.{◌≡◌, [], ◌∷◌, map, List, ◌↔◌, ◌⊎◌, ℕ, Err, Some}
use Rattle.requests.specs.Command.{command_of, command_text}
use Rattle.requests.specs.declared.Command.{Command}
use Rattle.settings.specs.Limits.{ProfileLimits}
use Rattle.settings.specs.declared.Key.{Key}
use Rattle.forms.specs.Judged.{verdict_of}
use Rattle.requests_facts.specs.Examples.{named, table, known, asked_v2, cases_v2, paper_v2}
use Rattle.refusals.specs.declared.Refusal.{Refusal}

-- "Commands not named here are unknown.": two bytes name a command exactly if they are its text
abbrev pub NamedExactly : Type 0
NamedExactly = (a b : ℕ) (c : Command) → (command_of a b ≡ Some c) ↔ (a ∷ b ∷ [] ≡ command_text c)

-- the column "CMD": each of the twelve texts names its command
abbrev pub AllNamed : Type 0
AllNamed = map named table ≡ map known table

-- a write's data are refused with SYNTAX, RANGE or LOGIC only
abbrev pub RefusedData : Type 0
RefusedData = (limits : ProfileLimits) (key : Key) (s : List ℕ) (k : Refusal) → verdict_of limits key s ≡ Err k → (k ≡ Refusal.Syntax) ⊎ (k ≡ Refusal.Range) ⊎ (k ≡ Refusal.Logic)

-- "none with a write" is SYNTAX
abbrev pub NoneWithWrite : Type 0
NoneWithWrite = (limits : ProfileLimits) (key : Key) → verdict_of limits key [] ≡ Err Refusal.Syntax

-- the worked cases: each frame asks what the paper says, with the sources beside it
abbrev pub AllV2 : Type 0
AllV2 = map asked_v2 cases_v2 ≡ map paper_v2 cases_v2
