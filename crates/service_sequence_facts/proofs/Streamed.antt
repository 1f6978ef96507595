-- A stream in any pieces is a sequence of requests to the gauge, and so has the claim.
use mathlib.Core.Path.{◌≡◌, refl, sym, ap, ap₂, subst, ◌∙◌}
use mathlib.Core.List.{List, [], ◌∷◌, ◌++◌, append_assoc, append-nil, append-eq-nil_iff, flatten}
use Prim.Native.Nat.{ℕ, ◌≤◌}
use native.Mathlib.Omega.{arith}
use borrow.Author.Tests.{leb-true, leb-false}
use lib.Dec.{leb}
use lib.ListN.{length, take, drop, length-append}
use lib.Seq.{drop-drop, drop-append_seam, take-append-le, take_all}
use Rattle.sources.specs.declared.Profile.{Profile}
use Rattle.settings.specs.Limits.{limits_of}
use Rattle.gauge_rules.specs.State.{State, state_of}
use Rattle.gauge_rules.specs.declared.Gauge.{Gauge}
use Rattle.gauge_table.proofs.DecidedV2.{by}
use Rattle.service.specs.Split.{Split, split, frames_of, unfinished_of}
use Rattle.service.specs.Served.{Service, service_of, most_kept, kept_of}
use Rattle.service_facts.proofs.Cut.{split_cut as cut_at, after_frames, end_open, take_open, open_before, open_before_lem}
use Rattle.service_facts.specs.Cut.{Open}
use Rattle.service_facts.specs.Stream.{replies_to, state_after, Progress, deliver, served}
use Rattle.service_facts.proofs.Delivered.{same as same-progress, one_delivery}
use Rattle.service_facts.proofs.Room.{Front, front, join, behind, none_taken}
use Rattle.service_facts.specs.Calls.{All}
use Rattle.service_facts.proofs.Called.{over_front}
use Rattle.history.specs.Latest.{Each}
use Rattle.sequence_facts.specs.Sequence.{asked, bench_set, lined, History, Trace, Claim}
use Rattle.sequence_facts.proofs.Claimed.{claimed_of}
use Rattle.service_sequence_facts.specs.Calls.{requests_of, replies_of, Lent}
use Rattle.service_sequence_facts.specs.Run.{AnswersAll, last, call, Run, start, piece, stream_of, Same, none, whole, cut, Request, Streamed, AsWhole}
use Rattle.service_sequence_facts.specs.Theorems.{PiecesAsWhole, StreamedInPieces, FromStart, AllShort}
use Rattle.service_sequence_facts.proofs.OneCall.{serving}

-- ---- one history after another

requests_append : (a b : History) → requests_of (a ++ b) ≡ requests_of b ++ requests_of a
unfolding requests_of
requests_append [] b = sym (append-nil (requests_of b))
requests_append (asked s before number len after ∷ a) b = rw (requests_append a b, append_assoc)
requests_append (bench_set x number ∷ a) b = requests_append a b
requests_append (lined before number len after ∷ a) b = requests_append a b

replies_append : (a b : History) → replies_of (a ++ b) ≡ replies_of b ++ replies_of a
unfolding replies_of
replies_append [] b = sym (append-nil (replies_of b))
replies_append (asked s before number len after ∷ a) b = rw (replies_append a b, append_assoc)
replies_append (bench_set x number ∷ a) b = replies_append a b
replies_append (lined before number len after ∷ a) b = replies_append a b

abbrev OnlyRequests : History → Type 0
OnlyRequests made = Each (λ earlier e. Request e) made

requests_only : (memory : List ℕ) (made : History) → Each (Lent memory) made → OnlyRequests made
requests_only memory [] l = tt
requests_only memory (asked s before number len after ∷ made) l = (l.0.1, requests_only memory made l.1)
requests_only memory (bench_set b number ∷ made) l = absurd l.0
requests_only memory (lined before number len after ∷ made) l = absurd l.0

only_append : (a b : History) → OnlyRequests a → OnlyRequests b → OnlyRequests (a ++ b)
only_append [] b p q = q
only_append (e ∷ a) b p q = (p.0, only_append a b p.1 q)

-- ---- all calls for bytes that were read

-- requests that are all the frames of these bytes
record Answering (p : Profile) (h : History) (input : List ℕ) (g : Gauge) (written : List ℕ) : Type 0 where
  made : History
  only_requests : OnlyRequests made
  trace : Trace (limits_of p) (made ++ h) g
  requests : requests_of made ≡ frames_of input
  replies : replies_of made ≡ written

answering : {p : Profile} {h : History} {g g' : Gauge} {input written : List ℕ} {taken : ℕ} → Trace (limits_of p) h g → AnswersAll g input g' taken written → Answering p h input g' written
answering {input = input} t (last {before = before} m s e) =
    let c = serving t s in
    let no_frames = none_taken _ (length before) input m (sym s.taken ∙ e) in
    record {
      made = c.made;
      only_requests = requests_only before c.made c.lent;
      trace = c.trace;
      requests = (append-eq-nil_iff.0 (sym c.order ∙ no_frames)).0 ∙ sym no_frames;
      replies = sym c.replies;
    }
answering {p = p} {h = h} {input = input} t (call {before = before} m s rest) =
    let c = serving t s in
    let w = answering {p = p} {h = (serving {p = p} t s).made ++ h} c.trace rest in
    let behind-is = ap (λ (n : ℕ). split (drop n input)) c.taken ∙ behind (requests_of c.made) c.left input c.order in
    record {
      made = w.made ++ c.made;
      only_requests = only_append w.made c.made w.only_requests (requests_only before c.made c.lent);
      trace = rw (append_assoc w.made c.made h) w.trace;
      requests = requests_append w.made c.made ∙ ap (λ (l : List (List ℕ)). requests_of c.made ++ l) (w.requests ∙ ap (λ (x : Split). x.frames) behind-is) ∙ sym c.order;
      replies = replies_append w.made c.made ∙ ap₂ (λ (a b : List ℕ). a ++ b) (sym c.replies) w.replies;
    }

-- ---- what they leave

-- one call, and then the others
called : {g g₁ g' : State} (v : Service) {input left out written : List ℕ} {n : ℕ} → g₁ ≡ v.state → n ≡ v.taken → out ≡ v.replies → Front g (frames_of input) v
    → All g₁ (drop n input) g' left written → All g input g' left (out ++ written)
called {g} {g' = g'} v {input} {left} {written = written} p q o f a = rw o (join g g' v input left written f (rw (p, q) at a))

-- every frame is answered, and the unfinished end is left
all_answered : {g g' : Gauge} {input written : List ℕ} {taken : ℕ} → AnswersAll g input g' taken written → All (state_of g) input (state_of g') (drop taken input) written
unfolding service_of state_after replies_to flatten
all_answered (last {g} {input} {before} {after} {r} m s e) =
    let no_frames = none_taken (state_of g) (length before) input m (sym s.taken ∙ e) in
    record {
      state = s.state ∙ ap (λ (fs : List (List ℕ)). (service_of (state_of g) (length before) fs).state) no_frames ∙ sym (ap (state_after (state_of g)) no_frames);
      left_is = rw no_frames at (after_frames input);
      replies_are = over_front _ before after r.len s.memory s.len ∙ ap (λ (fs : List (List ℕ)). (service_of (state_of g) (length before) fs).replies) no_frames
          ∙ sym (ap (replies_to (state_of g)) no_frames);
    }
all_answered (call {g} {g'} {input} {before} {after} {written} {r} {taken} m s rest) =
    subst (λ (l : List ℕ). All (state_of g) input (state_of g') l (take r.len after ++ written)) (drop-drop taken r.taken input)
    (called (service_of (state_of g) (length before) (frames_of input)) s.state s.taken (over_front _ before after r.len s.memory s.len)
    (front (state_of g) (length before) (frames_of input)) (all_answered rest))

-- ---- pieces

-- a piece more is one delivery more (`deliver`)
progress : {p : Profile} {h : History} {g₀ g : Gauge} {parts : List (List ℕ)} {kept written : List ℕ} → Run p h g₀ parts g kept written
    → ◌≡◌ {A = Progress} (record { state = state_of g; kept = kept; replies = written }) (served (state_of g₀) (stream_of parts))
unfolding stream_of split state_after replies_to kept_of
progress (start t) = refl
progress {g₀ = g₀} (piece {parts} {g} {g'} {kept} {written} {bytes} {memory} {memory'} {new} {end} {taken} {n} run e a k) =
    let all = all_answered a in
    same-progress
    (all.state ∙ ap (λ (l : List ℕ). state_after (state_of g) (frames_of l)) e)
    (over_front _ memory memory' n k.memory k.len ∙ ap (take most_kept) all.left_is ∙ ap (λ (l : List ℕ). take most_kept (unfinished_of l)) e)
    (ap (λ (l : List ℕ). written ++ l) (all.replies_are ∙ ap (λ (l : List ℕ). replies_to (state_of g) (frames_of l)) e))
    ∙ ap (λ (p : Progress). deliver p bytes) (progress run)
    ∙ one_delivery (state_of g₀) (stream_of parts) bytes

-- in any pieces the stream is served as the whole at once
at_once : {p : Profile} {h : History} {g₀ g : Gauge} {parts : List (List ℕ)} {kept written : List ℕ} → Run p h g₀ parts g kept written → AsWhole (state_of g₀) parts g kept written
at_once run =
    let p = progress run in
    record { state = ap (λ (x : Progress). x.state) p; kept_is = ap (λ (x : Progress). x.kept) p; written_is = ap (λ (x : Progress). x.replies) p }

pub as_whole : PiecesAsWhole
as_whole p h g₀ g parts kept written run = at_once run

-- ---- requests as they are in the stream

same_all : (fs : List (List ℕ)) → Same fs fs
same_all [] = none
same_all (f ∷ fs) = whole (same_all fs)

same_append : {a b c d : List (List ℕ)} → Same a b → Same c d → Same (a ++ c) (b ++ d)
same_append none t = t
same_append (whole s) t = whole (same_append s t)
same_append (cut k l m e s) t = cut k l m e (same_append s t)

same_by : {a a' b b' : List (List ℕ)} → a' ≡ a → b' ≡ b → Same a b → Same a' b'
same_by p q s = rw (p, q) s

same_long : (x : List ℕ) → 110 ≤ length x → (fs : List (List ℕ)) (u : List ℕ) → Same (open_before (take most_kept x) fs u).frames (open_before x fs u).frames
unfolding open_before
same_long x h [] u = none
same_long x h (f ∷ fs) u =
    let within : length x ≤ length (x ++ f) = rw length-append (omega arith) in
    cut (length x) h within (sym (ap₂ (λ (p q : List ℕ). p ++ q) (take-append-le most_kept x f h) (drop-append_seam x f))) (same_all fs)

-- whatever bytes follow an end with no CR
kept_same : (x b : List ℕ) → Open x → Same (frames_of (take most_kept x ++ b)) (frames_of (x ++ b))
kept_same x b o =
    by (leb 110 (length x))
    (λ e. same_by (ap (λ (s : Split). s.frames) (open_before_lem (take most_kept x) b (take_open most_kept x o))) (ap (λ (s : Split). s.frames) (open_before_lem x b o))
    (same_long x (leb-true 110 (length x) e) (frames_of b) (unfinished_of b)))
    (λ e. rw (take_all most_kept x (omega (arith, leb-false 110 (length x) e))) (same_all (frames_of (x ++ b))))

-- a stream in any pieces is a sequence of requests, and has the claim
pub streaming : {p : Profile} {h : History} {g₀ g : Gauge} {parts : List (List ℕ)} {kept written : List ℕ} → Run p h g₀ parts g kept written → Streamed p h parts g written
unfolding stream_of split requests_of replies_of
streaming {p} (start t) = record { made = []; only_requests = tt; trace = t; claim = (claimed_of p _ _ t).0; of_profile = (claimed_of p _ _ t).1; requests = none; replies = refl }
streaming {p} {h} (piece {parts} {g' = g'} {bytes = bytes} {memory = memory} {end = end} run e a k) =
    let s = streaming run in
    let w = answering s.trace a in
    let t : Trace (limits_of p) ((w.made ++ s.made) ++ h) g' = rw (append_assoc w.made s.made h) w.trace in
    let u = unfinished_of (stream_of parts) in
    let input : take end memory ≡ take most_kept u ++ bytes = e ∙ ap (λ (l : List ℕ). l ++ bytes) (at_once run).kept_is in
    record {
      made = w.made ++ s.made;
      only_requests = only_append w.made s.made w.only_requests s.only_requests;
      trace = t;
      claim = (claimed_of p _ _ t).0;
      of_profile = (claimed_of p _ _ t).1;
      requests =
          same_by (requests_append w.made s.made ∙ ap (λ (l : List (List ℕ)). requests_of s.made ++ l) (w.requests ∙ ap frames_of input))
          (ap (λ (x : Split). x.frames) (cut_at (stream_of parts) bytes)) (same_append s.requests (kept_same u bytes (end_open (stream_of parts))));
      replies = replies_append w.made s.made ∙ ap₂ (λ (x y : List ℕ). x ++ y) s.replies w.replies;
    }

pub streamed : StreamedInPieces
streamed p h g₀ g parts kept written run = streaming run

-- from a gauge at its start
pub from_start : FromStart
from_start p g₀ g parts kept written run =
    let s = streaming run in
    (s.made, subst (λ (h : History). Claim (limits_of p) h g) (append-nil s.made) s.claim, s.of_profile, s.requests, s.replies)

-- where no frame of the stream has over 109 bytes, the requests are its frames to the byte
short : {a b : List (List ℕ)} → Same a b → Each (λ rest f. length f ≤ 109) b → a ≡ b
short none k = refl
short (whole {f} s) k = ap (λ (l : List (List ℕ)). f ∷ l) (short s k.1)
short (cut i l m e s) k = absurd (omega (arith, k.0))

pub all_short : AllShort
all_short a b s k = short s k
