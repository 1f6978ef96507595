-- What is proved here, each statement as a type; proofs/ has the proofs.
use Rattle.std.specs.Prelude.{◌≡◌, List, map}
use Rattle.sources.specs.declared.Profile.{Profile}
use Rattle.settings.specs.Limits.{ProfileLimits, limits_of}
use Rattle.forms_facts.specs.Sound.{Proper}
use Rattle.gauge_rules.specs.declared.Gauge.{Gauge}
use Rattle.sequence_facts.specs.Sequence.{History, model, Trace, Claim, OfProfile}
use Rattle.sequence_facts.specs.Witness.{gauge_of, Call, call_of, play, longest, Reached}

-- THE THEOREM. "Demand 3 is a single claim about the whole sequence, not one for each call.": it holds of every sequence of calls from factory
-- settings, "once over a profile's limits and list of sources"
abbrev pub Claimed : Type 0
Claimed = (limits : ProfileLimits) → Proper limits → (h : History) (g : Gauge) → Trace limits h g → Claim limits h g

-- and so of each of the three profiles: the gauge stays of its profile, and its line within the profile's numbers
abbrev pub ClaimedOf : Type 0
ClaimedOf = (p : Profile) (h : History) (g : Gauge) → Trace (limits_of p) h g → Claim (limits_of p) h g × OfProfile p g

-- the claim is about something: any list of calls, answered by the rules, is had by a gauge of each profile
abbrev pub Played : Type 0
Played = (p : Profile) (cs : List Call) → Trace (limits_of p) (play (limits_of p) cs) (gauge_of p (model (limits_of p) (play (limits_of p) cs)))

-- it has these calls
abbrev pub Plays : Type 0
Plays = (limits : ProfileLimits) (cs : List Call) → map call_of (play limits cs) ≡ cs

-- there is no other: the calls fix the whole history
abbrev pub Only : Type 0
Only = (limits : ProfileLimits) → Proper limits → (h : History) (g : Gauge) → Trace limits h g → h ≡ play limits (map call_of h)

-- the line never has more than seven values or 71 bytes, on VSH and VSM three or 30, "and after some such sequence it has both"
abbrev pub LongestReached : Type 0
LongestReached = (p : Profile) → Reached p (longest p)
