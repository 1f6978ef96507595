-- Document 01, the column "CMD": "Commands not named here are unknown."
use mathlib.Core.Path.{◌≡◌, refl}
use mathlib.Core.List.{List, [], ◌∷◌}
use Prim.Native.Nat.{ℕ}
use Rattle.std.specs.Prelude.{None, Option, Some}
use Rattle.buffer.specs.First.{pick}
use Rattle.buffer.specs.Byte.{same_text}
use Rattle.buffer.proofs.Laws.{same_equal}
use Rattle.buffer.proofs.Rules.{each}
use Rattle.settings.specs.declared.Key.TheVariants.{DA, DU, C1, CM, CC, FC, ST, SM}
use Rattle.requests.specs.Command.{commands, find_command, command_of, command_text}
use Rattle.requests.specs.declared.Command.{Command}
use Rattle.requests.specs.declared.Command.TheVariants.{MV, T2, FN, FS, Of}
use Rattle.requests_facts.specs.Theorems.{NamedExactly}

-- a text spells the command that it names
abbrev Spells : List ℕ → Option Command → Type 0
Spells t (Some c) = t ≡ command_text c
Spells t None = Unit {0}

spells : (cs : List Command) (t : List ℕ) → Spells t (find_command cs t)
unfolding find_command
spells [] t = tt
spells (c ∷ cs) t = each (Spells t) (same_text t (command_text c)) (Some c) (find_command cs t) (same_equal t (command_text c)) (λ _. spells cs t)

-- each command is found by its text
found : (c : Command) → find_command commands (command_text c) ≡ Some c
unfolding find_command command_text same_text pick
found MV = refl
found T2 = refl
found FN = refl
found FS = refl
found (Of DA) = refl
found (Of DU) = refl
found (Of C1) = refl
found (Of CM) = refl
found (Of CC) = refl
found (Of FC) = refl
found (Of ST) = refl
found (Of SM) = refl

-- two bytes name a command exactly if they are its text
pub named_exactly : NamedExactly
unfolding command_of
named_exactly a b c = (λ e. rw e at (spells commands (a ∷ b ∷ [])), λ e. rw e (found c))
