-- The claim on a stream is about something: every list of pieces has a run, whatever memory from 64 bytes on is lent.
use mathlib.Core.Path.{◌≡◌, refl, sym, ap, subst, ◌∙◌}
use mathlib.Core.List.{List, [], ◌∷◌, ◌++◌, flatten}
use Prim.Native.Nat.{ℕ, zero, suc, ◌-◌, ◌<◌, ◌≤◌}
use native.Mathlib.Omega.{arith}
use borrow.Author.Tests.{leb-true, leb-false}
use lib.Dec.{ltb, leb}
use lib.ListN.{length, take, drop, length-append}
use lib.Seq.{take_all}
use Rattle.buffer.specs.First.{pick}
use Rattle.buffer.specs.Answer.{over}
use Rattle.sources.specs.declared.Profile.{Profile}
use Rattle.settings.specs.Limits.{limits_of}
use Rattle.gauge_rules.specs.State.{State, state_of}
use Rattle.gauge_rules.specs.declared.Gauge.{Gauge}
use Rattle.gauge_table.specs.Table.{answer_room}
use Rattle.gauge_table.proofs.DecidedV2.{by}
use Rattle.gauge_table.specs.After.{answer_of, next_of}
use Rattle.gauge_facts.specs.Sound.{SoundState}
use Rattle.gauge_facts.proofs.Kept.{next_sound}
use Rattle.gauge_facts.proofs.Profile.{profile_stays}
use Rattle.service.specs.Split.{Split, frames_of}
use Rattle.service.specs.Served.{Service, service_of, Serves, kept_of}
use Rattle.service.specs.declared.Served.{Served}
use Rattle.service_facts.proofs.Room.{front, behind}
use Rattle.sequence_facts.specs.Sequence.{History, Trace}
use Rattle.sequence_facts.specs.Witness.{gauge_of}
use Rattle.sequence_facts.proofs.Witness.{holds_back}
use Rattle.service_sequence_facts.specs.Run.{AnswersAll, last, call, start, piece, HasRun}
use Rattle.service_sequence_facts.specs.Theorems.{EveryRun}
use Rattle.service_sequence_facts.proofs.Streamed.{streaming}

-- serving keeps every value within its limits
service_sound : (m : State) (room : ℕ) (fs : List (List ℕ)) → SoundState m → SoundState (service_of m room fs).state
unfolding service_of pick
service_sound m room [] k = k
service_sound m room (f ∷ fs) k =
    by (ltb room answer_room) (λ e. rw e k)
    (λ e. rw e (service_sound (next_of m room f) (room - length (answer_of m room f).reply) fs (next_sound m room f k)))

-- and the profile
service_limits : (m : State) (room : ℕ) (fs : List (List ℕ)) → (service_of m room fs).state.limits ≡ m.limits
unfolding service_of pick
service_limits m room [] = refl
service_limits m room (f ∷ fs) =
    by (ltb room answer_room) (λ e. rw e refl)
    (λ e. rw e (service_limits (next_of m room f) (room - length (answer_of m room f).reply) fs ∙ profile_stays.0 m room f))

-- a gauge that has what the contract of `serve` says
abbrev service_in : Gauge → List ℕ → List ℕ → Service
service_in g input before = service_of (state_of g) (length before) (frames_of input)

abbrev result : Profile → Service → Served
result p v = record { gauge = gauge_of p v.state; taken = v.taken; len = length v.replies }

module _ (g : Gauge) (input before : List ℕ) (k : SoundState (state_of g)) where
  state_back : state_of (gauge_of g.profile (service_in g input before).state) ≡ (service_in g input before).state
  state_back =
      holds_back g.profile (service_in g input before).state (service_sound (state_of g) (length before) (frames_of input) k)
      (service_limits (state_of g) (length before) (frames_of input))

  serves : Serves (state_of g) input before (over (service_in g input before).replies before) (result g.profile (service_in g input before))
  serves = record { state = state_back; taken = refl; len = refl; memory = refl }

-- calls that answer all of these bytes
record Finished (g : Gauge) (input : List ℕ) : Type 0 where
  gauge : Gauge
  taken : ℕ
  written : List ℕ
  calls : AnswersAll g input gauge taken written

-- a call that takes bytes leaves fewer frames
fewer : (done left : List (List ℕ)) → 1 ≤ length (flatten done) → length left < length (done ++ left)
unfolding flatten
fewer [] left h = absurd (omega arith)
fewer (f ∷ done) left h = simp length-append (omega arith)

left_fewer : (m : State) (room : ℕ) (input : List ℕ) → 1 ≤ (service_of m room (frames_of input)).taken
    → length (frames_of (drop (service_of m room (frames_of input)).taken input)) < length (frames_of input)
left_fewer m room input h =
    let f = front m room (frames_of input) in
    let frames : frames_of (drop (service_of m room (frames_of input)).taken input) ≡ f.left
    = ap (λ (n : ℕ). frames_of (drop n input)) f.taken ∙ ap (λ (x : Split). x.frames) (behind f.done f.left input f.order) in
    let some : 1 ≤ length (flatten f.done) = subst (λ (n : ℕ). 1 ≤ n) f.taken h in
    omega (arith, fewer f.done f.left some, ap length frames, ap length f.order)

-- one call, and where it took bytes the calls after it
first_call : (g : Gauge) (input before : List ℕ) → SoundState (state_of g) → answer_room ≤ length before
    → ((g' : Gauge) (rest : List ℕ) → SoundState (state_of g') → length (frames_of rest) < length (frames_of input) → Finished g' rest) → Finished g input
first_call g input before k room again =
    let v = service_in g input before in
    let sound : SoundState (state_of (gauge_of g.profile v.state)) = subst SoundState (sym (state_back g input before k)) (service_sound (state_of g) (length before) (frames_of input) k) in
    by (leb 1 v.taken)
    (λ e.
    let rest = again (gauge_of g.profile v.state) (drop v.taken input) sound (left_fewer (state_of g) (length before) input (leb-true 1 v.taken e)) in
    record { gauge = rest.gauge; taken = _; written = _; calls = call room (serves g input before k) rest.calls })
    (λ e. record { gauge = gauge_of g.profile v.state; taken = _; written = _; calls = last room (serves g input before k) (omega (arith, leb-false 1 v.taken e)) })

all_calls : (n : ℕ) (g : Gauge) (input before : List ℕ) → SoundState (state_of g) → answer_room ≤ length before → length (frames_of input) ≤ n → Finished g input
all_calls zero g input before k room h = first_call g input before k room (λ g' rest l f. absurd (omega arith))
all_calls (suc n) g input before k room h = first_call g input before k room (λ g' rest l f. all_calls n g' rest before l room (omega arith))

-- a gauge with any history, any pieces, and any memory from 64 bytes on that is lent with each call
has_run : {p : Profile} {h : History} {g₀ : Gauge} → Trace (limits_of p) h g₀ → (before : List ℕ) → answer_room ≤ length before → (parts : List (List ℕ)) → HasRun p h g₀ parts
has_run {g₀ = g₀} t before room [] = record { gauge = g₀; kept = []; written = []; run = start t }
has_run t before room (bytes ∷ parts) =
    let r = has_run t before room parts in
    let input = r.kept ++ bytes in
    let whole : take (length input) input ≡ input = take_all (length input) input (omega arith) in
    let a = all_calls (length (frames_of (take (length input) input))) r.gauge (take (length input) input) before (streaming r.run).claim.sound room (omega arith) in
    record {
      gauge = a.gauge;
      kept = _;
      written = _;
      run = piece {memory' = over (kept_of input a.taken (length input)) input} r.run whole a.calls (record { len = refl; memory = refl });
    }

pub every_run : EveryRun
every_run p h g₀ t before room parts = has_run t before room parts
