-- The memory lent decides how far one call serves, and nothing else.
use mathlib.Core.Path.{◌≡◌, refl, sym, ap, ap₂, ◌∙◌}
use mathlib.Core.Bool.{Bool, true, false}
use mathlib.Core.List.{List, [], ◌∷◌, ◌++◌, flatten}
use Prim.Native.Nat.{ℕ, ◌+◌, ◌-◌, ◌<◌, ◌≤◌}
use native.Mathlib.Omega.{arith}
use borrow.Author.Tests.{le-ltb, ltb-false}
use lib.Dec.{eqb, ltb}
use lib.ListN.{length, drop, length-append}
use lib.Seq.{drop-drop}
use Rattle.buffer.specs.First.{pick}
use Rattle.buffer.specs.Answer.{Answer}
use Rattle.gauge_rules.specs.State.{State}
use Rattle.gauge_table.specs.Table.{answer_room, number_of}
use Rattle.gauge_table.specs.After.{answer_of, next_of}
use Rattle.service.specs.Split.{Split, joined_to, split, frames_of, unfinished_of}
use Rattle.service.specs.Served.{Service, nothing, then, service_of}
use Rattle.service_facts.specs.Stream.{replies_to, state_after}
use Rattle.service_facts.specs.Calls.{Calls, last, call, All}
use Rattle.service_facts.specs.Theorems.{CallsAnswerAll}
use Rattle.service_facts.proofs.Cut.{before, after_frames}
use Rattle.service_facts.proofs.Delivered.{state_append, replies_append}

-- any memory from 64 bytes on gives the same answer
number_room : (g : State) (room : ℕ) (s : List ℕ) → 64 ≤ room → number_of g room s ≡ number_of g answer_room s
unfolding number_of
number_room g room s h = rw (le-ltb room 64 h)

pub answer_room_lem : (g : State) (room : ℕ) (s : List ℕ) → 64 ≤ room → answer_of g room s ≡ answer_of g answer_room s
unfolding answer_of
answer_room_lem g room s h = rw (number_room g room s h)

pub next_room : (g : State) (room : ℕ) (s : List ℕ) → 64 ≤ room → next_of g room s ≡ next_of g answer_room s
unfolding next_of
next_room g room s h = rw (number_room g room s h)

-- with memory for all replies and 64 bytes more, every frame is answered
pub enough_room : (g : State) (room : ℕ) (fs : List (List ℕ)) → length (replies_to g fs) + 64 ≤ room
    → service_of g room fs ≡ record { state = state_after g fs; taken = length (flatten fs); replies = replies_to g fs }
unfolding service_of replies_to state_after flatten pick
enough_room g room [] h = refl
enough_room g room (f ∷ fs) h =
    let reply = (answer_of g answer_room f).reply in
    let k : length reply + length (replies_to (next_of g answer_room f) fs) + 64 ≤ room = rw length-append at h in
    let rest = enough_room (next_of g answer_room f) (room - length reply) fs (omega arith) in
    rw (le-ltb room 64 (omega arith), answer_room_lem g room f (omega arith), next_room g room f (omega arith), rest, length-append)

-- ---- calls one after another

-- what one call served is the front of the frames
pub record Front (g : State) (fs : List (List ℕ)) (s : Service) : Type 0 where
  pub done : List (List ℕ)
  pub left : List (List ℕ)
  pub order : fs ≡ done ++ left
  pub state : s.state ≡ state_after g done
  pub taken : s.taken ≡ length (flatten done)
  pub replies : s.replies ≡ replies_to g done

none_done : (g : State) (fs : List (List ℕ)) → Front g fs (record { state = g; taken = 0; replies = [] })
unfolding state_after replies_to flatten
none_done g fs = record { done = []; left = fs; order = refl; state = refl; taken = refl; replies = refl }

one_done : (g : State) (room : ℕ) (f : List ℕ) (fs : List (List ℕ)) (s : Service) → 64 ≤ room → Front (next_of g room f) fs s
    → Front g (f ∷ fs) (then (length f) (answer_of g room f).reply s)
unfolding state_after replies_to flatten
one_done g room f fs s h r =
    record {
      done = f ∷ r.done;
      left = r.left;
      order = ap (λ (l : List (List ℕ)). f ∷ l) r.order;
      state = r.state ∙ ap (λ (x : State). state_after x r.done) (next_room g room f h);
      taken = ap (λ (n : ℕ). length f + n) r.taken ∙ sym (length-append f (flatten r.done));
      replies = ap (λ (l : List ℕ). (answer_of g room f).reply ++ l) (r.replies ∙ ap (λ (x : State). replies_to x r.done) (next_room g room f h))
          ∙ ap (λ (a : Answer). a.reply ++ replies_to (next_of g answer_room f) r.done) (answer_room_lem g room f h);
    }

pub front : (g : State) (room : ℕ) (fs : List (List ℕ)) → Front g fs (service_of g room fs)
unfolding service_of pick
front g room [] = none_done g []
front g room (f ∷ fs) = go (ltb room answer_room) refl (service_of (next_of g room f) (room - length (answer_of g room f).reply) fs) (front (next_of g room f) (room - length (answer_of g room f).reply) fs)
  where
    go : (t : Bool) → ltb room answer_room ≡ t → (s : Service) → Front (next_of g room f) fs s → Front g (f ∷ fs) (pick t (nothing g) (then (length f) (answer_of g room f).reply s))
    go true e s r = none_done g (f ∷ fs)
    go false e s r = one_done g room f fs s (ltb-false room answer_room e) r

-- a frame has at least its CR, and behind the first one stand the others
abbrev Behind : List ℕ → List ℕ → Split → Type 0
Behind s f rest = (0 < length f) × (split (drop (length f) s) ≡ rest)

first_frame : (s f : List ℕ) (fs : List (List ℕ)) → frames_of s ≡ f ∷ fs → Behind s f (record { frames = fs; unfinished = unfinished_of s })
unfolding split joined_to
first_frame [] f fs e = absurd (let z : ◌≡◌ {A = ℕ} 0 1 = cc in omega arith)
first_frame (b ∷ s) f fs e = go (eqb b 13) (frames_of s) refl (first_frame s) e
  where
    go : (t : Bool) (rest : List (List ℕ)) → frames_of s ≡ rest
        → ((f : List ℕ) (fs : List (List ℕ)) → frames_of s ≡ f ∷ fs → Behind s f (record { frames = fs; unfinished = unfinished_of s }))
        → (before b t (record { frames = rest; unfinished = unfinished_of s })).frames ≡ f ∷ fs
        → Behind (b ∷ s) f (record { frames = fs; unfinished = (before b t (record { frames = rest; unfinished = unfinished_of s })).unfinished })
    go true rest r ih e =
        let p : f ≡ b ∷ [] = cc in
        let q : fs ≡ rest = cc in
        rw (p, q, ← r) (omega arith, refl)
    go false [] r ih e = absurd (let z : ◌≡◌ {A = ℕ} 0 1 = cc in omega arith)
    go false (x ∷ rest) r ih e =
        let p : f ≡ b ∷ x = cc in
        let q : fs ≡ rest = cc in
        rw (p, q) (omega arith, (ih x rest r).1)

-- what is left behind frames from the front
pub behind : (done left : List (List ℕ)) (s : List ℕ) → frames_of s ≡ done ++ left → split (drop (length (flatten done)) s) ≡ record { frames = left; unfinished = unfinished_of s }
unfolding flatten
behind [] left s e = rw (← e)
behind (f ∷ done) left s e =
    let a = (first_frame s f (done ++ left) e).1 in
    let b = behind done left (drop (length f) s) (ap (λ (x : Split). x.frames) a) in
    rw (length-append, ← (drop-drop (length (flatten done)) (length f) s)) (b ∙ ap (λ (x : Split). record { frames = left; unfinished = x.unfinished }) a)

-- with 64 bytes lent a call takes bytes as long as there is a frame
pub none_taken : (g : State) (room : ℕ) (s : List ℕ) → 64 ≤ room → (service_of g room (frames_of s)).taken ≡ 0 → frames_of s ≡ []
unfolding service_of pick
none_taken g room s h e = go (frames_of s) refl
  where
    go : (fs : List (List ℕ)) → frames_of s ≡ fs → frames_of s ≡ []
    go [] k = k
    go (f ∷ fs) k = absurd (let z = rw (k, le-ltb room 64 h) at e in omega (arith, (first_frame s f fs k).0))

-- a call, and then the others
pub join : (g g' : State) (v : Service) (s left replies : List ℕ) → Front g (frames_of s) v → All v.state (drop v.taken s) g' left replies
    → All g s g' left (v.replies ++ replies)
join g g' v s left replies f r =
    let rest : split (drop v.taken s) ≡ record { frames = f.left; unfinished = unfinished_of s } = rw f.taken (behind f.done f.left s f.order) in
    let frames : frames_of (drop v.taken s) ≡ f.left = ap (λ (x : Split). x.frames) rest in
    record {
      state = r.state ∙ ap₂ state_after f.state frames ∙ sym (state_append g f.done f.left) ∙ ap (state_after g) (sym f.order);
      left_is = r.left_is ∙ ap (λ (x : Split). x.unfinished) rest;
      replies_are = ap₂ (λ (a b : List ℕ). a ++ b) f.replies (r.replies_are ∙ ap₂ replies_to f.state frames)
          ∙ sym (replies_append g f.done f.left) ∙ ap (replies_to g) (sym f.order);
    }

every_frame : {room : ℕ} {g g' : State} {s left replies : List ℕ} → 64 ≤ room → Calls room g s g' left replies → All g s g' left replies
unfolding state_after replies_to flatten
every_frame {room} {g} {s = s} h (last e) =
    let n = none_taken g room s h e in
    record { state = rw n; left_is = rw n at (after_frames s); replies_are = rw n }
every_frame {room} {g} {s = s} h (call c) = join g _ _ s _ _ (front g room (frames_of s)) (every_frame h c)

pub calls : CallsAnswerAll
calls room g g' s left replies h c = every_frame h c
