-- Every sequence of calls can be had, and one of them reaches the longest line.
use mathlib.Core.Path.{◌≡◌, refl, sym, ap, subst, ◌∙◌}
use mathlib.Core.List.{List, [], ◌∷◌, ◌++◌, map}
use Prim.Native.Nat.{ℕ, ◌≤◌}
use native.Mathlib.Omega.{arith}
use lib.ListN.{length, replicate}
use lib.Seq.{take-take, take-append_seam}
use Rattle.forms_facts.proofs.Lemmas.Lists.{at_most_entries}
use Rattle.sources.specs.Source.{capacity, list_of}
use Rattle.sources.specs.declared.Profile.{Profile}
use Rattle.sources.specs.declared.Profile.TheVariants.{Standard, Vsh, Vsm}
use Rattle.settings.specs.Limits.{ProfileLimits, limits_of}
use Rattle.settings.specs.Settings.{held}
use Rattle.readings.specs.Bench.{bench_number}
use Rattle.line.specs.Line.{line_answer}
use Rattle.gauge_table.specs.After.{answer_of as tableAnswer, next_of, benched}
use Rattle.buffer.specs.Answer.{Answer, over, Sent}
use Rattle.buffer.specs.declared.Written.{Written}
use Rattle.gauge_rules.specs.State.{State, state_of, settled}
use Rattle.gauge_rules.specs.BenchIn.{bench_in}
use Rattle.text_gauge.specs.Answer.{Answers, Benches}
use Rattle.buffer.specs.declared.Answered.{Answered}
use Rattle.gauge_rules.specs.declared.Gauge.{Gauge}
use Rattle.buffer.specs.declared.BenchAnswer.{BenchAnswer}
use Rattle.gauge_facts.specs.Sound.{SoundState}
use Rattle.gauge_facts.proofs.Profile.{profile_stays}
use Rattle.gauge_facts.proofs.Kept.{fresh_sound, next_sound, bench_sound}
use Rattle.sequence_facts.specs.Model.{step, model_of}
use Rattle.sequence_facts.specs.Sequence.{asked, bench_set, lined, History, model, Trace, begin, ask, set_bench, show, AllFixed}
use Rattle.sequence_facts.specs.Shown.{count_of, values_in}
use Rattle.sequence_facts.specs.Witness.{sources_of, gauge_of, Call, asks, tells, shows, call_of, exchange, play, longest}
use Rattle.sequence_facts.specs.Theorems.{Plays, Played, Only, LongestReached}
use Rattle.sequence_facts.proofs.Claimed.{claimed}
use Rattle.line.proofs.Open.{line_open}
use Rattle.gauge_table.proofs.Open.{gauge_table_open}

list_back : (list : List ℕ) → length list ≤ capacity → list_of (sources_of list) ≡ list
unfolding list_of
list_back list h = take-take (length list) capacity (list ++ replicate capacity 0) h ∙ take-append_seam list (replicate capacity 0)

pub holds_back : (p : Profile) (m : State) → SoundState m → m.limits ≡ limits_of p → state_of (gauge_of p m) ≡ m
holds_back p m f e =
    ap
    (λ (l : ProfileLimits). record { limits = l; settings = held (gauge_of p m).settings; readings = m.readings; unlocked = m.unlocked })
    (sym e)
    ∙ ap
    (λ (list : List ℕ). settled m (record { address = m.settings.address; unit = m.settings.unit; factor = m.settings.factor; control = m.settings.control; cathode = m.settings.cathode; filament = m.settings.filament; transition = m.settings.transition; streaming = m.settings.streaming; list = list }))
    (list_back m.settings.list (omega (arith, at_most_entries m.limits f.proper m.settings.list f.settings.list, f.proper.few)))

-- the answer that the rules fix
abbrev written : Answer → Written
written a = record { number = a.number; len = length a.reply }

-- it has these calls
pub plays : Plays
unfolding play
plays limits [] = refl
plays limits (asks s before ∷ cs) = ap (λ (rest : List Call). asks s before ∷ rest) (plays limits cs)
plays limits (tells b ∷ cs) = ap (λ (rest : List Call). tells b ∷ rest) (plays limits cs)
plays limits (shows before ∷ cs) = ap (λ (rest : List Call). shows before ∷ rest) (plays limits cs)

module _ (p : Profile) where
  abbrev limits : ProfileLimits
  limits = limits_of p

  play_sound : (cs : List Call) → SoundState (model limits (play limits cs))
  unfolding play model_of step
  play_sound [] = fresh_sound p
  play_sound (asks s before ∷ cs) = next_sound (model limits (play limits cs)) (length before) s (play_sound cs)
  play_sound (tells b ∷ cs) = bench_sound (model limits (play limits cs)) b (play_sound cs)
  play_sound (shows before ∷ cs) = play_sound cs

  play_limits : (cs : List Call) → (model limits (play limits cs)).limits ≡ limits
  unfolding play model_of step
  play_limits [] = refl
  play_limits (asks s before ∷ cs) = profile_stays.0 (model limits (play limits cs)) (length before) s ∙ play_limits cs
  play_limits (tells b ∷ cs) = profile_stays.1 (model limits (play limits cs)) b ∙ play_limits cs
  play_limits (shows before ∷ cs) = play_limits cs

  back : (cs : List Call) → state_of (gauge_of p (model limits (play limits cs))) ≡ model limits (play limits cs)
  back cs = holds_back p (model limits (play limits cs)) (play_sound cs) (play_limits cs)

  -- and it is had by a gauge
  had : (cs : List Call) → Trace limits (play limits cs) (gauge_of p (model limits (play limits cs)))
  unfolding play model_of step
  had [] = begin (back [])
  had (asks s before ∷ cs) =
      let m = model limits (play limits cs) in
      let n = next_of m (length before) s in
      let a = tableAnswer m (length before) s in
      let r : Answered Gauge = record { gauge = gauge_of p n; written = written a } in
      ask {r = r} (had cs)
      (subst (λ (x : State). Answers x s before (over a.reply before) r) (sym (back cs))
      (record { sent = record { number = refl; len = refl; memory = refl }; state = back (asks s before ∷ cs) }))
  had (tells b ∷ cs) =
      let m = model limits (play limits cs) in
      let n = benched m (bench_in m.limits b) in
      let r : BenchAnswer Gauge = record { gauge = gauge_of p n; number = bench_number (bench_in m.limits b) } in
      set_bench {r = r} (had cs)
      (subst (λ (x : State). Benches x b r) (sym (back cs))
      (record { number = refl; state = back (tells b ∷ cs) }))
  had (shows before ∷ cs) =
      let m = model limits (play limits cs) in
      let a = line_answer m.limits (length before) m.settings m.readings in
      show {w = written a} (had cs)
      (subst (λ (x : State). Sent before (line_answer x.limits (length before) x.settings x.readings) (over a.reply before) (written a)) (sym (back cs))
      (record { number = refl; len = refl; memory = refl }))

pub played : Played
played p cs = had p cs

-- there is no other: the calls fix the whole history
pub only : Only
unfolding play
only limits ok h g t = go h (claimed limits ok h g t).answers
  where
    go : (h : History) → AllFixed limits h → h ≡ play limits (map call_of h)
    go [] f = refl
    go (asked s before n len after ∷ h) (f, fs) =
        rw (f.0.number, f.0.len, f.0.memory) (ap (λ (x : History). exchange (model limits x) (asks s before) ∷ x) (go h fs))
    go (bench_set b n ∷ h) (f, fs) = rw f (ap (λ (x : History). exchange (model limits x) (tells b) ∷ x) (go h fs))
    go (lined before n len after ∷ h) (f, fs) =
        rw (f.0.number, f.0.len, f.0.memory) (ap (λ (x : History). exchange (model limits x) (shows before) ∷ x) (go h fs))

-- ---- the longest line

pub reached : LongestReached
unfolding line_open gauge_table_open play model_of step count_of values_in
reached Standard = record { trace = played Standard (longest Standard); calls_are = plays (limits_of Standard) (longest Standard); values = refl; line_is = refl; line_bytes = refl }
reached Vsh = record { trace = played Vsh (longest Vsh); calls_are = plays (limits_of Vsh) (longest Vsh); values = refl; line_is = refl; line_bytes = refl }
reached Vsm = record { trace = played Vsm (longest Vsm); calls_are = plays (limits_of Vsm) (longest Vsm); values = refl; line_is = refl; line_bytes = refl }
