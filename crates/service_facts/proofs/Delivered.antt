-- Where a stream is cut into deliveries has no influence.
use mathlib.Core.Path.{◌≡◌, refl, sym, ap, ◌∙◌}
use mathlib.Core.List.{List, [], ◌∷◌, ◌++◌, append_assoc, append-nil, flatten, foldl}
use Prim.Native.Nat.{ℕ, ◌<◌, ◌≤◌}
use native.Mathlib.Omega.{arith}
use borrow.Author.Tests.{leb-true, leb-false}
use lib.Dec.{leb}
use lib.ListN.{length, take, length-append, length-take}
use lib.Seq.{take_all}
use Rattle.buffer.proofs.Laws.{take_cut}
use Rattle.gauge_rules.specs.State.{State}
use Rattle.gauge_table.specs.Table.{answer_room}
use Rattle.gauge_table.specs.After.{next_of}
use Rattle.gauge_table.proofs.DecidedV2.{by}
use Rattle.service.specs.Split.{Split, split, frames_of, unfinished_of}
use Rattle.service.specs.Served.{most_kept}
use Rattle.service_facts.specs.Stream.{Alike, replies_to, state_after, Progress, deliver, deliver_all, served}
use Rattle.service_facts.specs.Theorems.{KeptAlike, Deliveries}
use Rattle.service_facts.proofs.Long.{long_silent, long_stays}
use Rattle.service_facts.proofs.Cut.{split_cut, end_open, take_open, open_before, open_before_lem}

-- ---- frames one after another

pub state_append : (g : State) (a b : List (List ℕ)) → state_after g (a ++ b) ≡ state_after (state_after g a) b
unfolding state_after
state_append g [] b = refl
state_append g (f ∷ a) b = state_append (next_of g answer_room f) a b

pub replies_append : (g : State) (a b : List (List ℕ)) → replies_to g (a ++ b) ≡ replies_to g a ++ replies_to (state_after g a) b
unfolding replies_to state_after
replies_append g [] b = refl
replies_append g (f ∷ a) b = rw (replies_append (next_of g answer_room f) a b, append_assoc)

-- a long frame is as none
long_state : (g : State) (f : List ℕ) (fs : List (List ℕ)) → 109 < length f → state_after g (f ∷ fs) ≡ state_after g fs
unfolding state_after
long_state g f fs h = rw (long_stays f h g answer_room)

long_replies : (g : State) (f : List ℕ) (fs : List (List ℕ)) → 109 < length f → replies_to g (f ∷ fs) ≡ replies_to g fs
unfolding replies_to
long_replies g f fs h = rw (long_silent f h g answer_room, long_stays f h g answer_room)

-- ---- an unfinished end is kept by its first 110 bytes

alike_long : (x : List ℕ) → 110 ≤ length x → (fs : List (List ℕ)) (u : List ℕ) → Alike (open_before (take most_kept x) fs u) (open_before x fs u)
unfolding open_before
alike_long x h [] u = record { state = λ g. refl; replies = λ g. refl; kept = take_cut most_kept x u }
alike_long x h (f ∷ fs) u =
    let long : 109 < length (x ++ f) = rw length-append (omega arith) in
    let short : 109 < length (take most_kept x ++ f) = rw (length-append, length-take) (omega arith) in
    record {
      state = λ g. long_state g (take most_kept x ++ f) fs short ∙ sym (long_state g (x ++ f) fs long);
      replies = λ g. long_replies g (take most_kept x ++ f) fs short ∙ sym (long_replies g (x ++ f) fs long);
      kept = refl;
    }

-- whatever bytes follow an end with no CR
pub kept_alike : KeptAlike
kept_alike x b o =
    by (leb 110 (length x))
    (λ e. rw (open_before_lem (take most_kept x) b (take_open most_kept x o), open_before_lem x b o) (alike_long x (leb-true 110 (length x) e) (frames_of b) (unfinished_of b)))
    (λ e. rw (take_all most_kept x (omega (arith, leb-false 110 (length x) e))) (record { state = λ g. refl; replies = λ g. refl; kept = refl }))

-- ---- deliveries

pub same : {s s' : State} {k k' r r' : List ℕ} → s ≡ s' → k ≡ k' → r ≡ r'
    → ◌≡◌ {A = Progress} (record { state = s; kept = k; replies = r }) (record { state = s'; kept = k'; replies = r' })
same p q t = rw (p, q, t)

-- one delivery more after bytes that were served
pub one_delivery : (g : State) (a b : List ℕ) → deliver (served g a) b ≡ served g (a ++ b)
one_delivery g a b =
    let fs = frames_of a in
    let k = kept_alike (unfinished_of a) b (end_open a) in
    let c = split_cut a b in
    same
    (k.state (state_after g fs) ∙ sym (state_append g fs (frames_of (unfinished_of a ++ b))) ∙ sym (ap (λ (s : Split). state_after g s.frames) c))
    (k.kept ∙ sym (ap (λ (s : Split). take most_kept s.unfinished) c))
    (ap (λ (l : List ℕ). replies_to g fs ++ l) (k.replies (state_after g fs)) ∙ sym (replies_append g fs (frames_of (unfinished_of a ++ b)))
    ∙ sym (ap (λ (s : Split). replies_to g s.frames) c))

-- and many
more : (g : State) (a : List ℕ) (parts : List (List ℕ)) → foldl deliver (served g a) parts ≡ served g (a ++ flatten parts)
unfolding flatten
more g a [] = rw append-nil
more g a (b ∷ parts) = rw (one_delivery g a b) (more g (a ++ b) parts ∙ rw append_assoc)

-- THE THEOREM: a stream in any deliveries is served as the whole stream at once
pub deliveries : Deliveries
unfolding deliver_all split state_after replies_to
deliveries g parts = more g [] parts
