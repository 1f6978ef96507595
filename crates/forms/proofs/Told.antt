-- ST's numbers as a setting, with each refusal told by its name or by its number.
use Rattle.std.specs.Prelude.{◌≡◌, refl, ℕ, min, Err, Ok, Result}
use Rattle.decimal.specs.declared.Number.{Number}
use Rattle.refusals.specs.Number.{refusal_number}
use Rattle.refusals.specs.declared.Refusal.{Refusal}
use Rattle.forms.specs.Forms.{earlier, direct_of, between_of, transition_of}
use Rattle.forms.specs.Told.{by_name, direct_by, between_by, transition_by, numbered_between, numbered_transition}
use Rattle.forms.specs.declared.Ends.{Ends}

between_is : (low high : Result Number Refusal) → between_by by_name earlier low high ≡ between_of low high
unfolding by_name between_by between_of
between_is (Ok low) (Ok high) = refl
between_is (Ok low) (Err k) = refl
between_is (Err j) (Ok high) = refl
between_is (Err j) (Err k) = refl

-- by name it is `transition_of`
pub by_name_is : (ends : Ends Refusal) → transition_by by_name earlier ends ≡ transition_of ends
unfolding by_name transition_by direct_by transition_of direct_of
by_name_is Ends.None = refl
by_name_is (Ends.One (Ok n)) = refl
by_name_is (Ends.One (Err k)) = refl
by_name_is (Ends.Two low high) = between_is low high

between_by_number : (low high : Result Number ℕ) → between_by refusal_number min low high ≡ numbered_between low high
unfolding between_by numbered_between
between_by_number (Ok low) (Ok high) = refl
between_by_number (Ok low) (Err k) = refl
between_by_number (Err j) (Ok high) = refl
between_by_number (Err j) (Err k) = refl

-- by number it is `numbered_transition`
pub by_number_is : (ends : Ends ℕ) → transition_by refusal_number min ends ≡ numbered_transition ends
unfolding transition_by direct_by numbered_transition
by_number_is Ends.None = refl
by_number_is (Ends.One (Ok n)) = refl
by_number_is (Ends.One (Err k)) = refl
by_number_is (Ends.Two low high) = between_by_number low high
