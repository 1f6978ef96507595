-- Every sequence of calls can be had, and one shows that the last write counts.
use mathlib.Core.Path.{◌≡◌, refl, ap}
use mathlib.Core.List.{List, [], ◌∷◌, map}
use Rattle.opg_gauge.specs.State as State
use Rattle.opg_answer.proofs.Open.{opg_answer_open}
use Rattle.opg_facts.specs.Examples.{hex_of}
use Rattle.opg_sequence_facts.specs.Model.{gauge_of}
use Rattle.opg_sequence_facts.specs.Sequence.{asked, bench_set, History, model, begin, ask, set_bench, AllFixed}
use Rattle.opg_sequence_facts.specs.Witness.{Call, asks, tells, call_of, answered, exchange, play, calls}
use Rattle.opg_sequence_facts.specs.Theorems.{Plays, Played, Only, LastWrites}
use Rattle.opg_sequence_facts.proofs.Claimed.{claimed}

-- it has these calls
pub plays : Plays
plays [] = refl
plays (asks s before ∷ cs) = ap (λ (rest : List Call). asks s before ∷ rest) (plays cs)
plays (tells p ∷ cs) = ap (λ (rest : List Call). tells p ∷ rest) (plays cs)

-- and it is had by a gauge
pub played : Played
played [] = begin refl
played (asks s before ∷ cs) = ask {r = answered (model (play cs)) s before} (played cs) (record { number = refl; len = refl; memory = refl }, refl)
played (tells p ∷ cs) = set_bench {r = State.benched (gauge_of (model (play cs))) p} (played cs) refl

-- there is no other: the calls fix the whole history
pub only : Only
only h g t = go h (claimed h g t).answers
  where
    go : (h : History) → AllFixed h → h ≡ play (map call_of h)
    go [] f = refl
    go (asked s before n len after ∷ h) (f, fs) =
        rw (f.0.number, f.0.len, f.0.memory) (ap (λ (x : History). exchange (model x) (asks s before) ∷ x) (go h fs))
    go (bench_set p n ∷ h) (f, fs) =
        rw f (ap (λ (x : History). exchange (model x) (tells p) ∷ x) (go h fs))

pub last_writes : LastWrites
unfolding hex_of opg_answer_open
last_writes =
    record {
      history = play calls;
      gauge = gauge_of (model (play calls));
      trace = played calls;
      calls_are = plays calls;
      numbers_are = refl;
      unit_is = refl;
      mode_is = refl;
      spectra_are = refl;
      gas_is = refl;
      pressure_is = refl;
      memory_is = refl;
    }
