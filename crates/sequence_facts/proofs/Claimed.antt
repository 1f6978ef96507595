-- The claim holds of every sequence of calls from factory settings.
use mathlib.Core.Path.{◌≡◌, refl, sym, ap, subst, ◌∙◌}
use mathlib.Core.Bool.{Bool, true, false, cond, not, ◌&&◌}
use mathlib.Core.List.{List, ◌∷◌}
use mathlib.Core.Option.{none, some}
use Prim.Native.Nat.{ℕ, ◌≤◌}
use borrow.Author.Tests.{eq-eqb, eqb-true}
use lib.Dec.{eqb}
use lib.ListN.{length}
use Rattle.std.specs.Prelude.{None, Option, Some}
use Rattle.buffer.specs.First.{pick}
use Rattle.buffer.specs.Byte.{at, within}
use Rattle.buffer.specs.Answer.{Answer, Sent}
use Rattle.buffer.specs.declared.Written.{Written}
use Rattle.frames.specs.Frame.{data_from}
use Rattle.sources.specs.declared.Profile.{Profile}
use Rattle.sources.specs.declared.Profile.TheVariants.{Standard, Vsh, Vsm}
use Rattle.settings.specs.Limits.{ProfileLimits, limits_of, longest_line}
use Rattle.settings.proofs.Laws.{longest_is}
use Rattle.forms_facts.specs.Sound.{Proper}
use Rattle.forms_facts.proofs.Kept.{factory_sound}
use Rattle.forms_facts.proofs.Profiles.{proper}
use Rattle.readings_facts.proofs.Kept.{start_sound as start-readings}
use Rattle.settings.specs.Settings.{held, factory}
use Rattle.settings.specs.declared.Key.{Key}
use Rattle.readings.specs.Bench.{bench_number}
use Rattle.readings.specs.declared.Bench.{Bench}
use Rattle.readings.specs.declared.Readings.{Readings}
use Rattle.readings.specs.Place.{Place, code_of, reading_at}
use Rattle.readings.specs.There.{names}
use Rattle.line.specs.Line.{line_answer}
use Rattle.gauge_rules.specs.State.{State, state_of, fresh}
use Rattle.gauge_rules.specs.BenchIn.{bench_in}
use Rattle.gauge_rules.specs.declared.Gauge.{Gauge}
use Rattle.gauge_table.specs.Asked.{is_v1, asked_v1}
use Rattle.gauge_table.specs.Table.{number_of}
use Rattle.gauge_table.proofs.DecidedV2.{by}
use Rattle.gauge_table.specs.After.{answer_of, asks_unlock, afterwards, next_of, benched}
use Rattle.gauge_facts.specs.Sound.{SoundState}
use Rattle.gauge_facts.proofs.Kept.{next_sound, bench_sound, lower_below}
use Rattle.gauge_facts.proofs.Profile.{bench_exactly, profile_stays, limits_tell}
use Rattle.gauge_facts.proofs.Refused.{readings_stay}
use Rattle.gauge_facts.proofs.Typed.{decided_as_v1, decided_as_v2}
use Rattle.gauge_facts.proofs.Lengths.{within_lent}
use Rattle.gauge_facts.proofs.Line.{line_fits, line_within_lent}
use Rattle.history.specs.Latest.{or_else, latest}
use Rattle.history.proofs.Latest.{follows}
use Rattle.sequence_facts.specs.Model.{step, model_of}
use Rattle.sequence_facts.specs.Writes.{holding, writes}
use Rattle.sequence_facts.specs.Shown.{Listed, values_in}
use Rattle.sequence_facts.specs.Sequence.{asked, bench_set, lined, History, model, Trace, begin, ask, set_bench, show, AllFixed, Shows, says_setting, same_code, Origin, started, handed, says_reading, Stands, is_unlock, says_unlock, most_values, most_bytes}
use Rattle.sequence_facts.specs.Theorems.{Claimed, ClaimedOf}
use Rattle.sequence_facts.proofs.Lemmas.Requests.{v2_says, v1_says}
use Rattle.sequence_facts.proofs.Lemmas.Readings.{accepted_stands}
use Rattle.sequence_facts.proofs.Lemmas.Unlock.{unlock_is}
use Rattle.sequence_facts.proofs.Lemmas.Line.{sent_bytes, listed_places, line_shown, line_few}
use Rattle.readings.specs.declared.Reading.{Reading}

-- ---- one request, on what the model holds

module _ (m : State) (ok : Proper m.limits) (lent : ℕ) (s : List ℕ) where
  -- each setting afterwards is what the request's bytes say of it, or what it was
  setting_own : (key : Key) → holding key (next_of m lent s).settings ≡ or_else (pick (eqb (number_of m lent s) 0) (writes m.limits key s) none) (holding key m.settings)
  unfolding next_of afterwards pick or_else
  setting_own key =
      by (eqb (number_of m lent s) 0)
      (λ e. let z = eqb-true (number_of m lent s) 0 e in by (is_v1 s)
      (λ l. rw (e, l) (v1_says m key m.settings s l (eq-eqb _ 0 (decided_as_v1 m lent s z l))))
      (λ l. rw (e, l) (v2_says m ok key m.settings s (eq-eqb _ 0 (decided_as_v2 m lent s z l)))))
      (λ e. rw e)

  setting_next : (limits : ProfileLimits) → m.limits ≡ limits → (key : Key)
      → holding key (next_of m lent s).settings ≡ or_else (pick (eqb (number_of m lent s) 0) (writes limits key s) none) (holding key m.settings)
  setting_next limits e key =
      subst (λ (l : ProfileLimits). holding key (next_of m lent s).settings ≡ or_else (pick (eqb (number_of m lent s) 0) (writes l key s) none) (holding key m.settings)) e (setting_own key)

  unlock_next : (next_of m lent s).unlocked ≡ or_else (pick (is_v1 s && not (within 1 5 (number_of m lent s))) (some (eqb (number_of m lent s) 0 && is_unlock s)) none) m.unlocked
  unfolding next_of afterwards pick or_else is_unlock
  unlock_next = rw (← (unlock_is (at s 3) (data_from 4 s))) (go (is_v1 s && not (within 1 5 (number_of m lent s))))
    where
      go : (b : Bool) → cond b (eqb (number_of m lent s) 0 && asks_unlock (asked_v1 s)) m.unlocked ≡ or_else (pick b (some (eqb (number_of m lent s) 0 && asks_unlock (asked_v1 s))) none) m.unlocked
      go true = refl
      go false = refl

-- nothing is said
unsaid : {A : Type 0} (a : A) → a ≡ or_else none a
unfolding or_else
unsaid a = refl

-- ---- one bench setting

module _ (m : State) where
  reading_set : (p : Place) (o : Origin) (b : Bench) → Stands p o (reading_at p m.readings)
      → Stands p (or_else (pick (eqb (bench_number (bench_in m.limits b)) 0 && same_code (names b) (code_of p)) (some (handed b)) none) o) (reading_at p (benched m (bench_in m.limits b)).readings)
  unfolding benched or_else pick
  reading_set p o b f = go (bench_in m.limits b) refl
    where
      go : (x : Option Reading) → bench_in m.limits b ≡ x
          → Stands p (or_else (pick (eqb (bench_number x) 0 && same_code (names b) (code_of p)) (some (handed b)) none) o) (reading_at p (benched m x).readings)
      go (Some x) e = accepted_stands p o m.readings b x ((bench_exactly m.limits b x).0 e).1 f
      go None e = f

  settings_stay : (x : Option Reading) → (benched m x).settings ≡ m.settings
  unfolding benched
  settings_stay (Some x) = refl
  settings_stay None = refl

  unlock_stays : (x : Option Reading) → (benched m x).unlocked ≡ m.unlocked
  unfolding benched
  unlock_stays (Some x) = refl
  unlock_stays None = refl

-- ---- the sequence

-- a gauge starts sound
start_sound : (limits : ProfileLimits) → Proper limits → SoundState (fresh limits)
start_sound limits ok = record { proper = ok; settings = factory_sound limits ok; readings = start-readings }

-- the claim without its last part, which follows from it
record Sofar (limits : ProfileLimits) (h : History) (g : Gauge) : Type 0 where
  answers : AllFixed limits h
  holds : state_of g ≡ model limits h
  limits_stay : (state_of g).limits ≡ limits
  setting : (key : Key) → holding key (state_of g).settings ≡ latest (says_setting limits key) (holding key (factory limits)) h
  reading : (p : Place) → Stands p (latest (says_reading p) started h) (reading_at p (state_of g).readings)
  unlocked : (state_of g).unlocked ≡ latest says_unlock false h
  sound : SoundState (state_of g)

sent_too : {before after : List ℕ} {a b : Answer} {w : Written} → a ≡ b → Sent before a after w → Sent before b after w
sent_too {before} {after} {w = w} e f = subst (λ (x : Answer). Sent before x after w) e f

-- what was sent lies within the memory lent, since the reply does
sent_within : {before after : List ℕ} {a : Answer} {w : Written} → length a.reply ≤ length before → Sent before a after w → w.len ≤ length before
sent_within h f = rw f.len h

sofar : {limits : ProfileLimits} → Proper limits → {h : History} {g : Gauge} → Trace limits h g → Sofar limits h g
unfolding model_of step latest or_else says_setting says_reading says_unlock answer_of
sofar {limits} ok (begin {g} e) =
    record {
      answers = tt;
      holds = e;
      limits_stay = ap (λ (m : State). m.limits) e;
      setting = λ key. ap (λ (m : State). holding key m.settings) e;
      reading = λ p. ap (λ (m : State). reading_at p m.readings) e;
      unlocked = ap (λ (m : State). m.unlocked) e;
      sound = rw e (start_sound limits ok);
    }
sofar {limits} ok (ask {h} {g} {s} {before} {after} {r} t a) =
    let c = sofar ok t in
    let e = asked s before r.written.number r.written.len after in
    let n : r.written.number ≡ number_of (state_of g) (length before) s = a.sent.number in
    record {
      answers = ((sent_too (ap (λ (m : State). answer_of m (length before) s) c.holds) a.sent, sent_within (within_lent (state_of g) c.sound (length before) s) a.sent), c.answers);
      holds = a.state ∙ ap (λ (m : State). next_of m (length before) s) c.holds;
      limits_stay = ap (λ (m : State). m.limits) a.state ∙ profile_stays.0 (state_of g) (length before) s ∙ c.limits_stay;
      setting = λ key. follows (says_setting limits key) (holding key (factory limits)) e h _ _ (c.setting key) (ap (λ (m : State). holding key m.settings) a.state ∙ rw n (setting_next (state_of g) c.sound.proper (length before) s limits c.limits_stay key));
      reading = λ p.
          subst
          (λ (x : Readings). Stands p (latest (says_reading p) started (e ∷ h)) (reading_at p x))
          (sym (ap (λ (m : State). m.readings) a.state ∙ readings_stay (state_of g) (length before) s))
          (c.reading p);
      unlocked = follows says_unlock false e h _ _ c.unlocked (ap (λ (m : State). m.unlocked) a.state ∙ rw n (unlock_next (state_of g) c.sound.proper (length before) s));
      sound = rw a.state (next_sound (state_of g) (length before) s c.sound);
    }
sofar {limits} ok (set_bench {h} {g} {b} {r} t a) =
    let c = sofar ok t in
    let e = bench_set b r.number in
    record {
      answers = (a.number ∙ ap (λ (m : State). bench_number (bench_in m.limits b)) c.holds, c.answers);
      holds = a.state ∙ ap (λ (m : State). benched m (bench_in m.limits b)) c.holds;
      limits_stay = ap (λ (m : State). m.limits) a.state ∙ profile_stays.1 (state_of g) b ∙ c.limits_stay;
      setting = λ key. follows (says_setting limits key) (holding key (factory limits)) e h _ _ (c.setting key) (ap (λ (m : State). holding key m.settings) a.state ∙ ap (holding key) (settings_stay (state_of g) (bench_in (state_of g).limits b)) ∙ unsaid _);
      reading = λ p.
          subst
          (λ (x : Readings). Stands p (latest (says_reading p) started (e ∷ h)) (reading_at p x))
          (sym (ap (λ (m : State). m.readings) a.state))
          (rw a.number (reading_set (state_of g) p (latest (says_reading p) started h) b (c.reading p)));
      unlocked = follows says_unlock false e h _ _ c.unlocked (ap (λ (m : State). m.unlocked) a.state ∙ unlock_stays (state_of g) (bench_in (state_of g).limits b) ∙ unsaid _);
      sound = rw a.state (bench_sound (state_of g) b c.sound);
    }
sofar {limits} ok (show {h} {g} {before} {after} {w} t a) =
    let c = sofar ok t in
    let e = lined before w.number w.len after in
    record {
      answers = ((sent_too (ap (λ (m : State). line_answer m.limits (length before) m.settings m.readings) c.holds) a, sent_within (line_within_lent (state_of g).limits c.sound.proper (length before) (held g.settings) g.readings) a), c.answers);
      holds = c.holds;
      limits_stay = c.limits_stay;
      setting = λ key. follows (says_setting limits key) (holding key (factory limits)) e h _ _ (c.setting key) (unsaid _);
      reading = c.reading;
      unlocked = follows says_unlock false e h _ _ c.unlocked (unsaid _);
      sound = c.sound;
    }

-- the line of a sound gauge shows what stands at the sources listed
shows_whole : (g : Gauge) → SoundState (state_of g) → (places : List Place) × Listed (held g.settings).list places × Shows g places
shows_whole g f =
    let p = listed_places (state_of g).limits f.proper (held g.settings).list f.settings.list in (
      p.0,
      p.1,
      λ before after w s on room.
          let e = line_shown (state_of g).limits g.readings f.readings (held g.settings) f.settings.list (length before) p.0 p.1 on room in
          (s.number ∙ ap (λ (a : Answer). a.number) e, sent_bytes s ∙ ap (λ (a : Answer). a.reply) e),
    )

-- how many values and bytes it has
line_low : (g : Gauge) → SoundState (state_of g) → (room : ℕ) → length (line_answer (state_of g).limits room (held g.settings) g.readings).reply ≤ longest_line (state_of g).limits.source_codes
line_low g f room = line_fits (state_of g).limits f.proper room (held g.settings) g.readings

line_counted : (g : Gauge) → SoundState (state_of g) → (room : ℕ) → values_in (line_answer (state_of g).limits room (held g.settings) g.readings).reply ≤ length (state_of g).limits.source_codes
line_counted g f room = line_few (state_of g).limits f.proper room (held g.settings) g.readings f.settings.list f.readings

-- THE THEOREM
pub claimed : Claimed
claimed limits ok h g t =
    let c = sofar ok t in
    record {
      answers = c.answers;
      holds = c.holds;
      limits_stay = c.limits_stay;
      setting = c.setting;
      reading = c.reading;
      unlocked = c.unlocked;
      sound = c.sound;
      below = λ low high e. lower_below (state_of g) low high c.sound e;
      line_is = λ before after w f. sent_too (ap (λ (m : State). line_answer m.limits (length before) m.settings m.readings) c.holds) f;
      line_shows = shows_whole g c.sound;
      line_values = λ before after w s. rw (sent_bytes s) (subst (λ (l : ProfileLimits). values_in (line_answer (state_of g).limits (length before) (held g.settings) g.readings).reply ≤ length l.source_codes) c.limits_stay (line_counted g c.sound (length before)));
      line_bytes = λ before after w s. (rw (sent_bytes s) (sym s.len), rw s.len (subst (λ (l : ProfileLimits). length (line_answer (state_of g).limits (length before) (held g.settings) g.readings).reply ≤ longest_line l.source_codes) c.limits_stay (line_low g c.sound (length before))));
    }

-- ---- the three profiles

values_most : (p : Profile) → length (limits_of p).source_codes ≡ most_values p
unfolding limits_of
values_most Standard = refl
values_most Vsh = refl
values_most Vsm = refl

bytes_most : (p : Profile) → longest_line (limits_of p).source_codes ≡ most_bytes p
bytes_most Standard = longest_is.0
bytes_most Vsh = longest_is.1
bytes_most Vsm = longest_is.2

pub claimed_of : ClaimedOf
claimed_of p h g t =
    let c = claimed (limits_of p) (proper p) h g t in (
      c,
      record {
        profile = limits_tell g.profile p c.limits_stay;
        line_values = λ before after w s. rw (values_most p) at (c.line_values before after w s);
        line_bytes = λ before after w s. rw (bytes_most p) at (c.line_bytes before after w s).1;
      },
    )
