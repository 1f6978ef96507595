-- What is proved here, each statement as a type; proofs/ has the proofs.
use Rattle.std.specs.Prelude.{◌≡◌, true, ℕ, ◌+◌, ◌<◌, ◌≤◌, length, take}
use mathlib.Core.List.{List, [], ◌++◌, flatten}
use Rattle.frames.specs.Frame.{misshapen}
use Rattle.gauge_rules.specs.State.{State}
use Rattle.gauge_table.specs.After.{answer_of, next_of}
use Rattle.service.specs.Split.{split, frames_of, unfinished_of}
use Rattle.service.specs.Served.{Serves, most_kept, Keeps}
use Rattle.service.specs.declared.Served.{Served}
use Rattle.service_facts.specs.Cut.{cut_at, Open, AllClosed}
use Rattle.service_facts.specs.Stream.{replies_to, deliver_all, served, Alike}
use Rattle.service_facts.specs.Calls.{Calls, All, Called}

-- ---- "reads text requests up to each CR"

-- the frames and the unfinished end are all the bytes, in order
abbrev pub NothingLost : Type 0
NothingLost = (s : List ℕ) → flatten (frames_of s) ++ unfinished_of s ≡ s

-- any frames with one CR each, at their ends, and an end with none are those of their bytes: the split is the only one
abbrev pub SplitUnique : Type 0
SplitUnique = (fs : List (List ℕ)) (end : List ℕ) → AllClosed fs → Open end → split (flatten fs ++ end) ≡ record { frames = fs; unfinished = end }

-- bytes may be cut anywhere: the frames of the first part, and then those of its unfinished end followed by the second
abbrev pub CutAnywhere : Type 0
CutAnywhere = (a b : List ℕ) → split (a ++ b) ≡ cut_at (frames_of a) (split (unfinished_of a ++ b))

-- ---- "past 109 bytes: SHAPE"

abbrev pub LongShape : Type 0
LongShape = (s : List ℕ) → 109 < length s → misshapen s ≡ true

-- such a request has no reply, in every state, whatever memory is lent
abbrev pub LongSilent : Type 0
LongSilent = (s : List ℕ) → 109 < length s → (g : State) (room : ℕ) → (answer_of g room s).reply ≡ []

-- and changes nothing
abbrev pub LongStays : Type 0
LongStays = (s : List ℕ) → 109 < length s → (g : State) (room : ℕ) → next_of g room s ≡ g

-- so 110 bytes of an unfinished end are enough to keep, whatever bytes follow
abbrev pub KeptAlike : Type 0
KeptAlike = (x b : List ℕ) → Open x → Alike (split (take most_kept x ++ b)) (split (x ++ b))

-- ---- "and writes replies"

-- THE THEOREM: a stream in any deliveries is served as the whole stream at once
abbrev pub Deliveries : Type 0
Deliveries = (g : State) (parts : List (List ℕ)) → deliver_all g parts ≡ served g (flatten parts)

-- calls one after another, whatever memory from 64 bytes on is lent, answer every frame and leave the unfinished end
abbrev pub CallsAnswerAll : Type 0
CallsAnswerAll = (room : ℕ) (g g' : State) (s left replies : List ℕ) → 64 ≤ room → Calls room g s g' left replies → All g s g' left replies

-- what the contracts of `serve` and `keep` give together is one delivery. A call of `serve` with memory for all replies and 64 bytes more
abbrev pub CalledWhole : Type 0
CalledWhole = (g : State) (input before after : List ℕ) (r : Served) → Serves g input before after r
    → length (replies_to g (frames_of input)) + 64 ≤ length before → Called g input after r

-- and a call of `keep` after it: the front of the memory is the unfinished end, cut to 110 bytes
abbrev pub KeptFront : Type 0
KeptFront = (g : State) (input after memory memory' : List ℕ) (r : Served) (end n : ℕ) → Called g input after r → take end memory ≡ input
    → Keeps memory r.taken end memory' n → take n memory' ≡ take most_kept (unfinished_of input)
