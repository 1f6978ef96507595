-- What the latest call said, call by call.
use mathlib.Core.Path.{◌≡◌, ap, ◌∙◌}
use mathlib.Core.List.{List, ◌∷◌}
use mathlib.Core.Option.{Option}
use Rattle.history.specs.Latest.{or_else, latest}

-- a state that follows what each call says holds what the latest said
pub follows : {E A : Type 0} (f : E → Option A) (d : A) (e : E) (h : List E) (before after : A) → before ≡ latest f d h → after ≡ or_else (f e) before → after ≡ latest f d (e ∷ h)
unfolding latest
follows f d e h before after p q = q ∙ ap (or_else (f e)) p
