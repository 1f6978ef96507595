-- `replies_v2_values::both_ends` meets its contract.
use mathlib.Core.Path.{◌≡◌, refl, ap, ◌∙◌}
use Rattle.std.specs.Prelude.{Err, Ok, Result}
use Rattle.decimal.specs.declared.Number.{Number}
use Rattle.refusals.specs.declared.Refusal.{Refusal}
use Rattle.forms.specs.Forms.{between_of, transition_of}
use Rattle.forms.specs.declared.Ends.{Ends}
use Rattle.forms.proofs.Told.{by_name_is}
use Rattle.replies_v2_values.specs.Value.{held_reply, both_ends}
use Rattle.replies_v2_values.proofs.both_ends.Goals as goal
use Rattle.replies_v2_values.proofs.both_ends.Goals.{in_default-via-in-Ok+in_default, in_default-via-in_default}

-- where a number is refused, both are judged as a write of them
refused : (low high : Result Number Refusal) → ((a b : Number) → low ≡ Ok a → high ≡ Ok b → ⊥) → held_reply (transition_of (Ends.Two low high)) ≡ both_ends low high
unfolding held_reply transition_of between_of both_ends
refused (Ok a) (Ok b) h = absurd (h a b refl refl)
refused (Ok a) (Err k) h = refl
refused (Err j) (Ok b) h = refl
refused (Err j) (Err k) h = refl

pub returns-in_default : goal.returns-in_default
returns-in_default c =
    c.held_in.ensures ∙ ap held_reply (c.judge_ends.ensures ∙ by_name_is (Ends.Two c.args.low c.args.high)) ∙ refused c.args.low c.args.high (λ a b e f.
    elim c.in_default.branch [ in_default-via-in-Ok+in_default w ↦ cc (w.in_default.is-1, f) | in_default-via-in_default w ↦ cc (w.in_default.is-0, e) ])
