-- A call of `service::serve` is a sequence of requests to the gauge.
use mathlib.Core.Path.{◌≡◌, refl, sym, ap, subst, ◌∙◌}
use mathlib.Core.List.{List, [], ◌∷◌, ◌++◌, append_assoc, append-nil, flatten}
use Prim.Native.Nat.{ℕ, ◌+◌, ◌-◌, ◌≤◌}
use native.Mathlib.Nat.{add-zero, add_assoc, zero-add}
use native.Mathlib.Omega.{arith}
use borrow.Author.Tests.{le-ltb, ltb-true, ltb-false}
use lib.Dec.{ltb}
use lib.ListN.{length, take, drop, length-append, length-drop}
use lib.Seq.{take_at}
use Rattle.buffer.specs.First.{pick}
use Rattle.buffer.specs.Answer.{over, Sent}
use Rattle.line.specs.Line.{line_answer}
use Rattle.sources.specs.declared.Profile.{Profile}
use Rattle.settings.specs.Limits.{ProfileLimits, limits_of}
use Rattle.gauge_rules.specs.State.{State, state_of}
use Rattle.gauge_rules.specs.declared.Gauge.{Gauge}
use Rattle.gauge_table.specs.Table.{answer_room}
use Rattle.gauge_table.proofs.DecidedV2.{by}
use Rattle.gauge_table.specs.After.{answer_of, next_of}
use Rattle.text_gauge.specs.Answer.{Answers}
use Rattle.buffer.specs.declared.Answered.{Answered}
use Rattle.gauge_facts.specs.Sound.{SoundState}
use Rattle.gauge_facts.proofs.Kept.{next_sound}
use Rattle.gauge_facts.proofs.Profile.{profile_stays}
use Rattle.service.specs.Split.{frames_of, unfinished_of}
use Rattle.service.specs.Served.{Service, nothing, then, service_of, Serves}
use Rattle.service.specs.declared.Served.{Served}
use Rattle.service_facts.proofs.Cut.{nothing_lost}
use Rattle.service_facts.proofs.Called.{over_front}
use Rattle.history.specs.Latest.{Each}
use Rattle.sequence_facts.specs.Sequence.{Exchange, asked, History, Trace, begin, ask, set_bench, show}
use Rattle.sequence_facts.proofs.Claimed.{claimed_of}
use Rattle.sequence_facts.specs.Witness.{gauge_of}
use Rattle.sequence_facts.proofs.Witness.{holds_back}
use Rattle.service_sequence_facts.specs.Calls.{requests_of, replies_of, Lent, Serving}
use Rattle.service_sequence_facts.specs.Theorems.{OneCall}

-- of a gauge only what it holds counts
pub same_state : {limits : ProfileLimits} {h : History} {g g' : Gauge} → Trace limits h g → state_of g' ≡ state_of g → Trace limits h g'
same_state (begin e) k = begin (k ∙ e)
same_state {g' = g'} (ask {r = r} t a) k = ask {r = record { gauge = g'; written = r.written }} t (record { sent = a.sent; state = k ∙ a.state })
same_state {g' = g'} (set_bench {r = r} t a) k = set_bench {r = record { gauge = g'; number = r.number }} t (record { number = a.number; state = k ∙ a.state })
same_state (show {before = before} {after = after} {w = w} t a) k =
    show (same_state t k) (subst (λ (m : State). Sent before (line_answer m.limits (length before) m.settings m.readings) after w) (sym k) a)

-- every gauge that holds m has had the calls h, from the start of this profile
abbrev Reaches : Profile → History → State → Type 0
Reaches p h m = (g : Gauge) → state_of g ≡ m → Trace (limits_of p) h g

-- a request answered by the rules in this memory
abbrev exchange : State → List ℕ → List ℕ → Exchange
exchange m s memory =
    let a = answer_of m (length memory) s in
    asked s memory a.number (length a.reply) (over a.reply memory)

one_request : (p : Profile) {h : History} {m : State} → Reaches p h m → SoundState m → m.limits ≡ limits_of p → (s memory : List ℕ) → Reaches p (exchange m s memory ∷ h) (next_of m (length memory) s)
one_request p {m = m} t k l s memory g e =
    let a = answer_of m (length memory) s in
    let r : Answered Gauge = record { gauge = g; written = record { number = a.number; len = length a.reply } } in
    ask {r = r} (t (gauge_of p m) (holds_back p m k l))
    (subst (λ (x : State). Answers x s memory (over a.reply memory) r) (sym (holds_back p m k l)) (record { sent = record { number = refl; len = refl; memory = refl }; state = e }))

-- its reply is the front of the memory
reply_front : (reply memory : List ℕ) → take (length reply) (over reply memory) ≡ reply
reply_front reply memory = over_front reply memory _ _ refl refl

flatten_append : (a b : List (List ℕ)) → flatten (a ++ b) ≡ flatten a ++ flatten b
unfolding flatten
flatten_append [] b = refl
flatten_append (f ∷ a) b = rw (flatten_append a b, append_assoc)

flatten_cut : (a b : List (List ℕ)) (u : List ℕ) → flatten (a ++ b) ++ u ≡ flatten a ++ (flatten b ++ u)
flatten_cut a b u = rw (flatten_append, append_assoc)

then_then : (m n : ℕ) (a b : List ℕ) (s : Service) → then m a (then n b s) ≡ then (m + n) (a ++ b) s
then_then m n a b s = rw (add_assoc m n s.taken, append_assoc a b s.replies)

same_then : {m n : ℕ} {a b : List ℕ} {s t : Service} → m ≡ n → a ≡ b → s ≡ t → then m a s ≡ then n b t
same_then p q r = rw (p, q, r)

module _ (p : Profile) (h : History) (g₀ : State) (before : List ℕ) (fs : List (List ℕ)) where
  -- what the replies so far leave of the memory
  abbrev rest : History → List ℕ
  rest made = drop (length (replies_of made)) before

  -- the requests so far, and the frames that are left
  record Sofar (m : State) (made : History) (left : List (List ℕ)) : Type 0 where
    lent : Each (Lent before) made
    trace : Reaches p (made ++ h) m
    sound : SoundState m
    limits : m.limits ≡ limits_of p
    order : fs ≡ requests_of made ++ left
    all : service_of g₀ (length before) fs ≡ then (length (flatten (requests_of made))) (replies_of made) (service_of m (length (rest made)) left)

  -- all that one call makes
  record Done : Type 0 where
    made : History
    left : List (List ℕ)
    state : State
    lent : Each (Lent before) made
    trace : Reaches p (made ++ h) state
    order : fs ≡ requests_of made ++ left
    all : service_of g₀ (length before) fs ≡ record { state = state; taken = length (flatten (requests_of made)); replies = replies_of made }
    stops : answer_room ≤ length (rest made) → left ≡ []

  finish : {m : State} {made : History} {left : List (List ℕ)} → Sofar m made left → service_of m (length (rest made)) left ≡ nothing m
      → (answer_room ≤ length (rest made) → left ≡ []) → Done
  finish {m} {made} {left} s e k =
      record { made = made; left = left; state = m; lent = s.lent; trace = s.trace; order = s.order; all = s.all ∙ rw (e, append-nil, add-zero); stops = k }

  -- one frame more
  next : {m : State} {made : History} {f : List ℕ} {left : List (List ℕ)} → Sofar m made (f ∷ left) → answer_room ≤ length (rest made)
      → Sofar (next_of m (length (rest made)) f) (exchange m f (rest made) ∷ made) left
  unfolding requests_of replies_of flatten service_of pick
  next {m} {made} {f} {left} s k =
      let room = length (rest made) in
      let reply = (answer_of m room f).reply in
      let replies : replies_of (exchange m f (rest made) ∷ made) ≡ replies_of made ++ reply = ap (λ (l : List ℕ). replies_of made ++ l) (reply_front reply (rest made)) in
      let less : room - length reply ≡ length (rest (exchange m f (rest made) ∷ made)) = rw replies (simp (length-append, length-drop) (omega arith)) in
      let bytes : length (flatten (requests_of made)) + length f ≡ length (flatten (requests_of made ++ (f ∷ []))) = rw (flatten_append, append-nil, length-append) in
      let first : service_of m room (f ∷ left) ≡ then (length f) reply (service_of (next_of m room f) (room - length reply) left) = rw (le-ltb room answer_room k) in
      record {
        lent = ((refl, k), s.lent);
        trace = one_request p s.trace s.sound s.limits f (rest made);
        sound = next_sound m room f s.sound;
        limits = profile_stays.0 m room f ∙ s.limits;
        order = s.order ∙ sym (append_assoc (requests_of made) (f ∷ []) left);
        all =
            s.all
            ∙ ap (then (length (flatten (requests_of made))) (replies_of made)) first
            ∙ then_then (length (flatten (requests_of made))) (length f) (replies_of made) reply _
            ∙ same_then bytes (sym replies) (ap (λ (n : ℕ). service_of (next_of m room f) n left) less);
      }

  loop : (left : List (List ℕ)) {m : State} {made : History} → Sofar m made left → Done
  unfolding service_of pick
  loop [] s = finish s refl (λ _. refl)
  loop (f ∷ left) {m} {made} s =
      by (ltb (length (rest made)) answer_room)
      (λ e. finish s (rw e) (λ k. absurd (omega (arith, ltb-true (length (rest made)) answer_room e))))
      (λ e. loop left (next s (ltb-false (length (rest made)) answer_room e)))

  first_call : {g : Gauge} → Trace (limits_of p) h g → state_of g ≡ g₀ → Done
  unfolding requests_of replies_of flatten
  first_call t e =
      let c = (claimed_of p _ _ t).0 in
      loop fs {made = []}
      (record { lent = tt; trace = λ g k. same_state t (k ∙ sym e); sound = subst SoundState e c.sound; limits = subst (λ (m : State). m.limits ≡ limits_of p) e c.limits_stay; order = refl; all = rw (zero-add (service_of g₀ (length before) fs).taken) })

-- one call, and the requests that it is
pub serving : {p : Profile} {h : History} {g : Gauge} {input before after : List ℕ} {r : Served} → Trace (limits_of p) h g → Serves (state_of g) input before after r → Serving p h input before after r
serving {p} {h} {g} {input} {before} {after} {r} t s =
    let d = first_call p h (state_of g) before (frames_of input) t refl in
    let taken : r.taken ≡ length (flatten (requests_of d.made)) = s.taken ∙ ap (λ (x : Service). x.taken) d.all in
    let len : r.len ≡ length (replies_of d.made) = s.len ∙ ap (λ (x : Service). length x.replies) d.all in
    let all : input ≡ flatten (requests_of d.made) ++ (flatten d.left ++ unfinished_of input)
    = sym (nothing_lost input) ∙ ap (λ (l : List (List ℕ)). flatten l ++ unfinished_of input) d.order ∙ flatten_cut (requests_of d.made) d.left (unfinished_of input) in
    record {
      made = d.made;
      lent = d.lent;
      trace = d.trace r.gauge (s.state ∙ ap (λ (x : Service). x.state) d.all);
      left = d.left;
      order = d.order;
      taken = taken;
      bytes = ap (take r.taken) all ∙ take_at _ _ r.taken (sym taken);
      replies = over_front _ before after r.len s.memory s.len ∙ ap (λ (x : Service). x.replies) d.all;
      stops = λ k. d.stops (rw (length-drop, ← len) k);
    }

-- THE THEOREM of one call
pub one_call : OneCall
one_call p h g input before after r t s = serving t s
