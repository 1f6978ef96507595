-- ST's numbers as a setting, whatever tells a refusal: its name, as in `transition_of`, or a number. `told` tells one of document 01's, and
-- `of_two` is the one of two that is told.
use Rattle.std.specs.Prelude.{not, [], ◌∷◌, ℕ, min, Err, Ok, Result}
use Rattle.buffer.specs.First.{◌⇒◌, first}
use Rattle.decimal.specs.Number.{below_of}
use Rattle.decimal.specs.declared.Number.{Number}
use Rattle.settings.specs.declared.Transition.TheVariants.{Direct, Between}
use Rattle.settings.specs.declared.Setting.{Setting}
use Rattle.settings.specs.declared.Setting.TheVariants.{Switch}
use Rattle.forms.specs.declared.Ends.{Ends}
use Rattle.forms.specs.declared.Ends.TheVariants.{One, Two}
use Rattle.refusals.specs.declared.Refusal.{Refusal}

unfoldable pub direct_by : {E : Type 0} → Result Number E → Result Setting E
direct_by (Ok n) = Ok (Switch (Direct n))
direct_by (Err k) = Err k

-- "ST's F must lie strictly below T, else LOGIC."
unfoldable pub between_by : {E : Type 0} → (Refusal → E) → (E → E → E) → Result Number E → Result Number E → Result Setting E
between_by told of_two (Ok low) (Ok high) = first (not (below_of low high) ⇒ Err (told Refusal.Logic) ∷ []) (Ok (Switch (Between low high)))
between_by told of_two (Ok low) (Err k) = Err k
between_by told of_two (Err j) (Ok high) = Err j
between_by told of_two (Err j) (Err k) = Err (of_two j k)

-- neither form is SYNTAX
unfoldable pub transition_by : {E : Type 0} → (Refusal → E) → (E → E → E) → Ends E → Result Setting E
transition_by told of_two Ends.None = Err (told Refusal.Syntax)
transition_by told of_two (One n) = direct_by n
transition_by told of_two (Two low high) = between_by told of_two low high

-- a refusal told by its name
unfoldable pub by_name : Refusal → Refusal
by_name k = k

-- the same with document 01's numbers, 10 SYNTAX and 12 LOGIC; a number that it doesn't have is handed on too
unfoldable pub numbered_between : Result Number ℕ → Result Number ℕ → Result Setting ℕ
numbered_between (Ok low) (Ok high) = first (not (below_of low high) ⇒ Err 12 ∷ []) (Ok (Switch (Between low high)))
numbered_between (Ok low) (Err k) = Err k
numbered_between (Err j) (Ok high) = Err j
numbered_between (Err j) (Err k) = Err (min j k)

unfoldable pub numbered_transition : Ends ℕ → Result Setting ℕ
numbered_transition Ends.None = Err 10
numbered_transition (One (Ok n)) = Ok (Switch (Direct n))
numbered_transition (One (Err k)) = Err k
numbered_transition (Two low high) = numbered_between low high
