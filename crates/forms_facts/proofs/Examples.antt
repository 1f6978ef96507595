-- The worked cases, computed.
use mathlib.Core.Path.{refl}
use Rattle.forms_facts.specs.Theorems.{AllRight, AllSent, AllProfiles}
use Rattle.forms.proofs.Open.{forms_open}

-- each case has the paper's answer
pub all_right : AllRight
unfolding forms_open
all_right = refl

-- each write is then read as the paper says
pub all_sent : AllSent
unfolding forms_open
all_sent = refl

pub all_profiles : AllProfiles
unfolding forms_open
all_profiles = refl
