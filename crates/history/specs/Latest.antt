-- A history is the list of the calls that were made, the latest first.
use Rattle.std.specs.Prelude.{List, [], ◌∷◌}
use Rattle.std.proofs.Math.Option.{Option, none, some}

-- F holds of each call, with the calls before it
abbrev pub Each : {E : Type 0} → (List E → E → Type 0) → List E → Type 0
Each F [] = Unit {0}
Each F (e ∷ h) = F h e × Each F h

-- what is said, or else d
unfoldable pub or_else : {A : Type 0} → Option A → A → A
or_else none d = d
or_else (some a) d = a

-- what the latest call says that says something; d where none does
unfoldable pub latest : {E A : Type 0} → (E → Option A) → A → List E → A
latest f d [] = d
latest f d (e ∷ h) = or_else (f e) (latest f d h)
