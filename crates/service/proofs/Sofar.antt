-- The loop of `serve` on plain values: what holds of the requests answered so far, how one more keeps it, and what it gives at the end.
use mathlib.Core.Path.{◌≡◌, refl, sym, ap, subst, ◌∙◌}
use mathlib.Core.Bool.{Bool}
use mathlib.Core.List.{List, [], ◌∷◌, ◌++◌, append_assoc, append-nil}
use Prim.Native.Nat.{ℕ, ◌+◌, ◌-◌, ◌<◌, ◌≤◌}
use native.Mathlib.Nat.{zero-add, add-zero, sub-zero, add_assoc, sub-add-eq}
use native.Mathlib.Omega.{arith}
use borrow.Author.Tests.{lt-ltb, le-ltb}
use lib.ListN.{length, take, drop, length-append, length-drop, drop_of_length-le}
use lib.Seq.{drop-drop, take_at, drop_at, length-take-le}
use Rattle.buffer.specs.First.{pick}
use Rattle.buffer.specs.Byte.{until_of}
use Rattle.buffer.specs.Answer.{over, Sent}
use Rattle.buffer.proofs.Laws.{part_rest}
use Rattle.sources.specs.Source.{list_of}
use Rattle.settings.specs.Settings.{Held, held, changed_by}
use Rattle.settings.specs.declared.Settings.{Settings}
use Rattle.readings.specs.declared.Readings.{Readings}
use Rattle.sources.specs.declared.Profile.{Profile}
use Rattle.settings.specs.Limits.{limits_of}
use Rattle.gauge_rules.specs.State.{State, state_of}
use Rattle.gauge_rules.specs.declared.Gauge.{Gauge}
use Rattle.gauge_table.specs.After.{answer_of, next_of}
use Rattle.text_gauge.specs.Answer.{Decides, decided_state}
use Rattle.text_gauge.specs.declared.Decided.{Decided}
use Rattle.service.specs.Split.{frames_of}
use Rattle.service.specs.Served.{Service, nothing, then, service_of, Serves}
use Rattle.service.proofs.Laws.{no_frame, one_frame}

-- the replies so far stand at the front of the memory; what is left to serve begins at `at`, with the memory from `used` on
pub record Sofar (g₀ : State) (input out₀ : List ℕ) (g : State) (at used : ℕ) (out : List ℕ) : Type 0 where
  pub done : List ℕ
  pub used_is : used ≡ length done
  pub at_in : at ≤ length input
  pub used_in : used ≤ length out₀
  pub long : length out ≡ length out₀
  pub memory : out ≡ over done out₀
  pub left : service_of g₀ (length out₀) (frames_of input) ≡ then at done (service_of g (length out₀ - used) (frames_of (drop at input)))

pub begin : (g : State) (input out : List ℕ) → Sofar g input out g 0 0 out
unfolding over
begin g input out =
    record {
      done = [];
      used_is = refl;
      at_in = omega arith;
      used_in = omega arith;
      long = refl;
      memory = refl;
      left = rw (zero-add, sub-zero);
    }

-- nothing more is served
finish : (g₀ : State) (input out₀ : List ℕ) (h : Gauge) (at used : ℕ) (out : List ℕ) → Sofar g₀ input out₀ (state_of h) at used out
    → service_of (state_of h) (length out₀ - used) (frames_of (drop at input)) ≡ nothing (state_of h)
    → Serves g₀ input out₀ out (record { gauge = h; taken = at; len = used })
finish g₀ input out₀ h at used out s e =
    let all : service_of g₀ (length out₀) (frames_of input) ≡ record { state = state_of h; taken = at; replies = s.done }
    = s.left ∙ rw (e, append-nil, add-zero) in
    record {
      state = sym (ap (λ (x : Service). x.state) all);
      taken = sym (ap (λ (x : Service). x.taken) all);
      len = s.used_is ∙ sym (ap (λ (x : Service). length x.replies) all);
      memory = s.memory ∙ sym (ap (λ (x : Service). over x.replies out₀) all);
    }

-- no whole request is left
pub no_request : (g₀ : State) (input out₀ : List ℕ) (h : Gauge) (at used : ℕ) (out : List ℕ) → Sofar g₀ input out₀ (state_of h) at used out
    → (n : ℕ) (part : List ℕ) → part ≡ drop at input → n ≡ until_of 13 part → length input - at ≤ n → Serves g₀ input out₀ out (record { gauge = h; taken = at; len = used })
unfolding service_of
no_request g₀ input out₀ h at used out s n part p e k =
    finish g₀ input out₀ h at used out s (rw (no_frame (drop at input) (simp length-drop (subst (λ (i : ℕ). length input - at ≤ i) (e ∙ ap (until_of 13) p) k))))

-- too little memory is left
pub no_room : (g₀ : State) (input out₀ : List ℕ) (h : Gauge) (at used : ℕ) (out : List ℕ) → Sofar g₀ input out₀ (state_of h) at used out
    → length out - used < 64 → Serves g₀ input out₀ out (record { gauge = h; taken = at; len = used })
unfolding service_of pick
no_room g₀ input out₀ h at used out s k = finish g₀ input out₀ h at used out s (go (frames_of (drop at input)))
  where
    go : (fs : List (List ℕ)) → service_of (state_of h) (length out₀ - used) fs ≡ nothing (state_of h)
    go [] = refl
    go (f ∷ fs) = rw (lt-ltb (length out₀ - used) 64 (omega (arith, s.long)))

-- two services, one after the other
then_then : (m n : ℕ) (a b : List ℕ) (s : Service) → then m a (then n b s) ≡ then (m + n) (a ++ b) s
then_then m n a b s = rw (add_assoc m n s.taken, append_assoc a b s.replies)

-- the first frame of what is left, answered, and then what follows it
one_more : (g : State) (room : ℕ) (s : List ℕ) (n : ℕ) → n ≡ until_of 13 s → n < length s → 64 ≤ room
    → service_of g room (frames_of s)
    ≡ then (n + 1) (answer_of g room (take (n + 1) s)).reply
    (service_of (next_of g room (take (n + 1) s)) (room - length (answer_of g room (take (n + 1) s)).reply) (frames_of (drop (n + 1) s)))
unfolding service_of pick
one_more g room s n e h k =
    let f : frames_of s ≡ take (n + 1) s ∷ frames_of (drop (n + 1) s) = rw (← e) at (one_frame s (omega arith)) in
    let l : length (take (n + 1) s) ≡ n + 1 = length-take-le (n + 1) s (omega arith) in
    rw (f, le-ltb room 64 k, l)

-- the memory with a reply where the replies so far end
over_over : (done reply memory : List ℕ) → done ++ over reply (drop (length done) memory) ≡ over (done ++ reply) memory
unfolding over
over_over done reply memory = rw (drop-drop (length reply) (length done) memory, length-append done reply, append_assoc done reply)

-- a reply is no longer than the memory lent
reply_le : (before after reply : List ℕ) → after ≡ over reply before → length after ≡ length before → length reply ≤ length before
unfolding over
reply_le before after reply e l =
    let k : length after ≡ length reply + length (drop (length reply) before) = ap length e ∙ length-append reply (drop (length reply) before) in
    omega arith

module _ (g₀ : State) (input out₀ : List ℕ) (g : State) (at used : ℕ) (out : List ℕ) (s : Sofar g₀ input out₀ g at used out) where
  -- one request more, where the memory lent is as it was at the start
  one : (n : ℕ) (after : List ℕ) (r : Decided) → 64 ≤ length out₀ - used → n ≡ until_of 13 (drop at input) → n < length (drop at input)
      → Decides g (take (n + 1) (drop at input)) (drop used out₀) after r → length after ≡ length (drop used out₀)
      → Sofar g₀ input out₀ (decided_state g r) (at + (n + 1)) (used + r.written.len) (s.done ++ after)
  one n after r room e k a long =
      let f = take (n + 1) (drop at input) in
      let reply = (answer_of g (length out₀ - used) f).reply in
      let sent : Sent (drop used out₀) (answer_of g (length out₀ - used) f) after r.written = rw (length-drop used out₀) at a.sent in
      let state : decided_state g r ≡ next_of g (length out₀ - used) f = rw (length-drop used out₀) at a.state in
      let size : length after ≡ length out₀ - used = long ∙ length-drop used out₀ in
      let fits : length reply ≤ length out₀ - used = rw (length-drop used out₀) at (reply_le (drop used out₀) after reply sent.memory long) in
      let memory : s.done ++ after ≡ over (s.done ++ reply) out₀
      = ap (λ (l : List ℕ). s.done ++ l) sent.memory ∙ ap (λ (i : ℕ). s.done ++ over reply (drop i out₀)) s.used_is ∙ over_over s.done reply out₀ in
      let rest : service_of (next_of g (length out₀ - used) f) (length out₀ - used - length reply) (frames_of (drop (n + 1) (drop at input)))
      ≡ service_of (decided_state g r) (length out₀ - (used + r.written.len)) (frames_of (drop (at + (n + 1)) input))
      = rw (state, sent.len, sub-add-eq, drop-drop (n + 1) at input) in
      record {
        done = s.done ++ reply;
        used_is = rw length-append (omega (arith, s.used_is, sent.len));
        at_in = omega (arith, length-drop at input, s.at_in);
        used_in = omega (arith, sent.len, s.used_in);
        long = length-append s.done after ∙ omega (arith, s.used_is, s.used_in);
        memory = memory;
        left =
            s.left
            ∙ ap (then at s.done) (one_more g (length out₀ - used) (drop at input) n e k room)
            ∙ then_then at (n + 1) s.done reply _
            ∙ ap (then (at + (n + 1)) (s.done ++ reply)) rest;
      }

  -- one request more, lent what is left of the memory
  pub next : (n : ℕ) (part after : List ℕ) (r : Decided) → 64 ≤ length out - used → part ≡ drop at input → n ≡ until_of 13 part → n < length input - at
      → Decides g (take (at + n + 1 - at) (drop at input)) (take (length out - used) (drop used out)) after r
      → length after ≡ length (take (length out - used) (drop used out))
      → Sofar g₀ input out₀ (decided_state g r) (at + n + 1) (used + r.written.len) (take used out ++ (after ++ drop (length out - used) (drop used out)))
  unfolding over
  next n part after r room p e k a long =
      let front : take used out ≡ s.done = ap (take used) s.memory ∙ take_at s.done (drop (length s.done) out₀) used (sym s.used_is) in
      let back : drop used out ≡ drop used out₀
      = ap (drop used) s.memory ∙ drop_at s.done (drop (length s.done) out₀) used (sym s.used_is) ∙ ap (λ (i : ℕ). drop i out₀) (sym s.used_is) in
      let lent : take (length out - used) (drop used out) ≡ drop used out₀ = part_rest out used ∙ back in
      let gone : drop (length out - used) (drop used out) ≡ [] = drop_of_length-le (drop used out) {i = length out - used} (simp length-drop (omega arith)) in
      let count : at + n + 1 - at ≡ n + 1 = omega arith in
      rw (gone, append-nil, front, add_assoc at n 1)
      (one n after r (omega (arith, s.long)) (e ∙ ap (until_of 13) p) (simp length-drop k) (rw (lent, count) at a) (rw lent at long))

-- ---- the state in parts

abbrev pub gauge : Profile → Settings → Readings → Bool → State
gauge p s r u = record { limits = limits_of p; settings = held s; readings = r; unlocked = u }

-- the settings with what was decided, beside the readings as they were
pub stored : (g₀ : State) (input out₀ : List ℕ) (at used : ℕ) (out : List ℕ) (p : Profile) (s s' : Settings) (r : Readings) (u : Bool) (d : Decided) → held s' ≡ changed_by (held s) d.change.value (list_of d.change.sources)
    → Sofar g₀ input out₀ (decided_state (gauge p s r u) d) at used out → Sofar g₀ input out₀ (gauge p s' r d.unlocked) at used out
stored g₀ input out₀ at used out p s s' r u d e = subst (λ (h : Held). Sofar g₀ input out₀ (record { limits = limits_of p; settings = h; readings = r; unlocked = d.unlocked }) at used out) (sym e)
