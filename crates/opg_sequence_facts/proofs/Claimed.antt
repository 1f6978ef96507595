-- The claim holds of every sequence of calls of the OPG from factory settings.
use mathlib.Core.Path.{◌≡◌, refl, ap, subst, ◌∙◌}
use mathlib.Core.Bool.{Bool, true, false, not, ◌&&◌, ◌||◌, true≢false, and-eq-true_iff}
use mathlib.Core.List.{List}
use mathlib.Core.Option.{none}
use Prim.Native.Nat.{ℕ}
use native.Mathlib.Omega.{arith}
use borrow.Author.Tests.{eqb-true, eqb-false, leb-true, not-false}
use lib.Dec.{eqb, leb}
use lib.ListN.{length}
use lib.Ieee.{of_bits, round, le}
use Rattle.buffer.specs.Byte.{within}
use Rattle.buffer.specs.First.{pick}
use Rattle.buffer.proofs.Laws.{within_true}
use Rattle.history.specs.Latest.{or_else, latest}
use Rattle.history.proofs.Latest.{follows}
use Rattle.opg_frames.specs.Frame.{cmd_of, pid_of, data_at}
use Rattle.opg_units.specs.Units.{finite, measurable, bits_in}
use Rattle.opg_commands.specs.Limits.{unit_low, unit_high, mode_high, gas_high}
use Rattle.opg_commands.specs.Settings.{factory, entered}
use Rattle.opg_commands.specs.declared.Settings.{Settings}
use Rattle.opg_request_reader.specs.Asked.{Asked, unknown_cmd, unknown_pid, lacks_access, meaning, wrong_mode}
use Rattle.opg_gauge.specs.State.{start, takes}
use Rattle.opg_gauge.specs.State as State
use Rattle.opg_gauge.specs.Judged.{judgement, after}
use Rattle.buffer.specs.declared.BenchAnswer.{BenchAnswer}
use Rattle.opg_gauge.specs.declared.Gauge.{Gauge}
use Rattle.opg_gauge.specs.declared.Pressure.{Pressure}
use Rattle.opg_gauge.specs.declared.Pressure.TheVariants.{Bits, Unavailable}
use Rattle.opg_answer.specs.Reply.{bits_of, answer_of, after_of}
use Rattle.opg_facts.specs.Accepted.{is_accepted, sound}
use Rattle.opg_facts.proofs.Accepted.{judged, accepted_number, Passed, passed, pressure_stays, factory_sound, stays_sound}
use Rattle.opg_facts.proofs.Lengths.{within_lent}
use Rattle.opg_facts.proofs.Finite.{sent_finite}
use Rattle.opg_sequence_facts.specs.Model.{request, bench, Model, held, step}
use Rattle.opg_sequence_facts.specs.Sequence.{asked, bench_set, History, model, Trace, begin, ask, set_bench, Fixed, AllFixed, Key, MasterUnit, Mode, Spectra, Gas, holding, is_write, writes, says_setting, says_pressure, Within}
use Rattle.opg_sequence_facts.specs.Theorems.{Claimed}

-- ---- an accepted request writes what its bytes say

module _ (st : Settings) (s : List ℕ) where
  -- the setting afterwards is what the bytes write to it, or as it was
  Enters : Key → Type 0
  Enters k = holding k (entered st (meaning s)) ≡ or_else (writes k s) (holding k st)

  enters_pressure : (k : Key) → pid_of s ≡ 14000 → Enters k
  unfolding Enters meaning entered writes is_write or_else pick pid_of
  enters_pressure MasterUnit p = rw p
  enters_pressure Mode p = rw p
  enters_pressure Spectra p = rw p
  enters_pressure Gas p = rw p

  enters_read : (k : Key) → pid_of s ≡ 14001 → cmd_of s ≡ 1 → Enters k
  unfolding Enters meaning entered writes is_write or_else pick pid_of cmd_of
  enters_read MasterUnit p c = rw (p, c)
  enters_read Mode p c = rw (p, c)
  enters_read Spectra p c = rw (p, c)
  enters_read Gas p c = rw (p, c)

  enters_unit : (k : Key) → pid_of s ≡ 14001 → cmd_of s ≡ 3 → Enters k
  unfolding Enters meaning entered writes is_write or_else pick pid_of cmd_of
  enters_unit MasterUnit p c = rw (p, c)
  enters_unit Mode p c = rw (p, c)
  enters_unit Spectra p c = rw (p, c)
  enters_unit Gas p c = rw (p, c)

  enters_off : (k : Key) → pid_of s ≡ 22000 → cmd_of s ≡ 3 → data_at s 0 ≡ 0 → Enters k
  unfolding Enters meaning entered writes is_write or_else pick pid_of cmd_of
  enters_off MasterUnit p c d = rw (p, d)
  enters_off Mode p c d = rw (p, c, d)
  enters_off Spectra p c d = rw (p, c, d)
  enters_off Gas p c d = rw (p, c, d)

  enters_on : (k : Key) → pid_of s ≡ 22000 → cmd_of s ≡ 3 → data_at s 0 ≡ 1 → Enters k
  unfolding Enters meaning entered writes is_write or_else pick pid_of cmd_of
  enters_on MasterUnit p c d = rw (p, d)
  enters_on Mode p c d = rw (p, c, d)
  enters_on Spectra p c d = rw (p, c, d)
  enters_on Gas p c d = rw (p, c, d)

  -- the bytes passed document 01's checks of CMD, PID, access and value
  enters : (k : Key) → Passed s → Enters k
  unfolding unknown_cmd unknown_pid lacks_access wrong_mode
  enters k p =
      go (eqb (pid_of s) 14000) (eqb (pid_of s) 14001) (eqb (pid_of s) 22000) (eqb (cmd_of s) 1) (eqb (cmd_of s) 3) (eqb (data_at s 0) 0) refl refl refl refl refl refl
      p.cmd p.pid p.access p.mode
    where
      one : eqb (data_at s 0) 0 ≡ false → not (within 0 mode_high (data_at s 0)) ≡ false → data_at s 0 ≡ 1
      one z w = omega (arith, eqb-false (data_at s 0) 0 z, (within_true 0 mode_high (data_at s 0) (not-false (within 0 mode_high (data_at s 0)) w)).1)

      go : (a b c d e z : Bool) → eqb (pid_of s) 14000 ≡ a → eqb (pid_of s) 14001 ≡ b → eqb (pid_of s) 22000 ≡ c → eqb (cmd_of s) 1 ≡ d → eqb (cmd_of s) 3 ≡ e
          → eqb (data_at s 0) 0 ≡ z → not (d || e) ≡ false → not (a || (b || c)) ≡ false → ((a && e) || (c && d)) ≡ false
          → (c && not (within 0 mode_high (data_at s 0))) ≡ false → Enters k
      go true b c d e z pa pb pc pd pe pz uc up la wm = enters_pressure k (eqb-true _ _ pa)
      go false true c true e z pa pb pc pd pe pz uc up la wm = enters_read k (eqb-true _ _ pb) (eqb-true _ _ pd)
      go false true c false true z pa pb pc pd pe pz uc up la wm = enters_unit k (eqb-true _ _ pb) (eqb-true _ _ pe)
      go false true c false false z pa pb pc pd pe pz uc up la wm = absurd (true≢false uc)
      go false false true true e z pa pb pc pd pe pz uc up la wm = absurd (true≢false la)
      go false false true false false z pa pb pc pd pe pz uc up la wm = absurd (true≢false uc)
      go false false true false true true pa pb pc pd pe pz uc up la wm = enters_off k (eqb-true _ _ pc) (eqb-true _ _ pe) (eqb-true _ _ pz)
      go false false true false true false pa pb pc pd pe pz uc up la wm = enters_on k (eqb-true _ _ pc) (eqb-true _ _ pe) (one pz wm)
      go false false false d e z pa pb pc pd pe pz uc up la wm = absurd (true≢false up)

-- ---- one request

module _ (g : Gauge) (s : List ℕ) (k : Key) where
  -- a setting after what the gauge judged: what the bytes write to it if that is a request, or as it was
  Moves : Asked → Type 0
  Moves a = holding k (after g a).settings ≡ or_else (pick (is_accepted a) (writes k s) none) (holding k g.settings)

  moves : (room : ℕ) → Moves (judgement room g s)
  unfolding Moves Enters after is_accepted or_else pick
  moves room = judged Moves room g s (λ _. refl) (λ _. refl) (λ n. enters g.settings s k (passed room g s n))

  -- by the answered number
  setting_next : (room n : ℕ) → n ≡ (answer_of room g s).number
      → holding k (after_of room g s).settings ≡ or_else (pick (eqb n 20) (writes k s) none) (holding k g.settings)
  unfolding after_of Moves
  setting_next room n e = rw (e, accepted_number room g s) (moves room)

-- ---- one bench setting

module _ (g : Gauge) (p : Pressure) where
  -- the pressure taken, and not taken
  abbrev answered : Bool → BenchAnswer Gauge
  answered b = pick b (record { gauge = record { settings = g.settings; pressure = p }; number = 20 }) (record { gauge = g; number = 15 })

  bench_settings : (State.benched g p).gauge.settings ≡ g.settings
  unfolding State.benched pick
  bench_settings = go (takes p)
    where
      go : (b : Bool) → (answered b).gauge.settings ≡ g.settings
      go true = refl
      go false = refl

  -- by the answered number
  bench_pressure : (State.benched g p).gauge.pressure ≡ or_else (says_pressure (bench_set p (State.benched g p).number)) g.pressure
  unfolding State.benched pick says_pressure or_else
  bench_pressure = go (takes p)
    where
      go : (b : Bool) → (answered b).gauge.pressure ≡ or_else (says_pressure (bench_set p (answered b).number)) g.pressure
      go true = refl
      go false = refl

  bench_takes : takes g.pressure ≡ true → takes (State.benched g p).gauge.pressure ≡ true
  unfolding State.benched pick
  bench_takes h = go (takes p) refl
    where
      go : (b : Bool) → takes p ≡ b → takes (answered b).gauge.pressure ≡ true
      go true e = e
      go false e = h

-- ---- limits

takes_start : takes (Bits 0) ≡ true
unfolding takes measurable finite round le of_bits
takes_start = refl

sends_finite : (p : Pressure) (unit : ℕ) → takes p ≡ true → finite (bits_in unit (bits_of p)) ≡ true
unfolding takes bits_of
sends_finite (Bits w) unit h = sent_finite unit w h
sends_finite Unavailable unit h = sent_finite unit 0 takes_start

within_limits : (g : Gauge) → sound g.settings ≡ true → takes g.pressure ≡ true → Within g
unfolding sound
within_limits g h t =
    let s = g.settings in
    let both = (and-eq-true_iff (within unit_low unit_high s.unit) (leb s.mode mode_high && leb s.gas gas_high)).0 h in
    let unit = within_true unit_low unit_high s.unit both.0 in
    let rest = (and-eq-true_iff (leb s.mode mode_high) (leb s.gas gas_high)).0 both.1 in
    record {
      unit_low_lem = unit.0;
      unit_high_lem = unit.1;
      mode_high_lem = leb-true s.mode mode_high rest.0;
      gas_high_lem = leb-true s.gas gas_high rest.1;
      pressure_taken = t;
      pressure_finite = λ (u : ℕ). sends_finite g.pressure u t;
    }

-- ---- the sequence

-- the claim with its limits as tests
record Sofar (h : History) (g : Gauge) : Type 0 where
  answers : AllFixed h
  holds : held g ≡ model h
  setting : (key : Key) → holding key g.settings ≡ latest (says_setting key) (holding key factory) h
  pressure : g.pressure ≡ latest says_pressure start.pressure h
  in_limits : sound g.settings ≡ true
  taken : takes g.pressure ≡ true

sofar : {h : History} {g : Gauge} → Trace h g → Sofar h g
unfolding latest says_setting says_pressure or_else
sofar (begin {r} e) =
    record {
      answers = tt;
      holds = ap held e;
      setting = λ key. ap (λ (x : Gauge). holding key x.settings) e;
      pressure = ap (λ (x : Gauge). x.pressure) e;
      in_limits = rw e factory_sound;
      taken = rw e takes_start;
    }
sofar (ask {h} {g} {s} {before} {after} {r} t (sent, moved)) =
    let c = sofar t in
    let room = length before in
    let e = asked s before r.written.number r.written.len after in
    record {
      answers = (subst (λ (m : Model). Fixed m e) c.holds (sent, rw sent.len (within_lent room g s)), c.answers);
      holds = ap held moved ∙ ap (λ (m : Model). step m (request s room)) c.holds;
      setting = λ key. follows (says_setting key) (holding key factory) e h _ _ (c.setting key) (ap (λ (x : Gauge). holding key x.settings) moved ∙ setting_next g s key room r.written.number sent.number);
      pressure = ap (λ (x : Gauge). x.pressure) moved ∙ pressure_stays room g s ∙ c.pressure;
      in_limits = rw moved (stays_sound room g s c.in_limits);
      taken = rw (moved, pressure_stays room g s) c.taken;
    }
sofar (set_bench {h} {g} {p} {r} t e) =
    let c = sofar t in
    record {
      answers = (subst (λ (m : Model). Fixed m (bench_set p r.number)) c.holds (ap (λ (x : BenchAnswer Gauge). x.number) e), c.answers);
      holds = ap (λ (x : BenchAnswer Gauge). held x.gauge) e ∙ ap (λ (m : Model). step m (bench p)) c.holds;
      setting = λ key. ap (λ (x : BenchAnswer Gauge). holding key x.gauge.settings) e ∙ ap (holding key) (bench_settings g p) ∙ c.setting key;
      pressure = follows says_pressure start.pressure (bench_set p r.number) h g.pressure r.gauge.pressure c.pressure (rw e (bench_pressure g p));
      in_limits = rw (e, bench_settings g p) c.in_limits;
      taken = rw e (bench_takes g p c.taken);
    }

-- THE THEOREM
pub claimed : Claimed
claimed h g t =
    let c = sofar t in
    record { answers = c.answers; holds = c.holds; setting = c.setting; pressure = c.pressure; within = within_limits g c.in_limits c.taken }
