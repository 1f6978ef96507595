-- A step of a run is the contracts of `serve` and `keep` as the prover reads them off the source (`Learnt`), and nothing else. Neither function has
-- a `requires` (`Asked`). a is the arguments, r the result, x the parameters at exit.
use mathlib.Core.Path.{◌≡◌}
use mathlib.Core.List.{List, ◌∷◌, ◌++◌}
use Prim.Native.Nat.{ℕ, ◌+◌, ◌≤◌}
use contract.Lifetimes.{Lfts}
use borrow.Fn.Kinds.{Dens, res_t, ended_of}
use denote.Triple.Clauses.{AtExit}
use lib.ListN.{length, take, drop}
use Rattle.sources.specs.declared.Profile.{Profile}
use Rattle.settings.specs.Limits.{limits_of}
use Rattle.gauge_rules.specs.declared.Gauge.{Gauge}
use Rattle.gauge_table.specs.Table.{answer_room}
use Rattle.sequence_facts.specs.Sequence.{History, Trace}
use Rattle.service.proofs.serve.Kinds as serve-kinds
use Rattle.service.proofs.serve.Reads as serve-reads
use Rattle.service.proofs.keep.Kinds as keep-kinds
use Rattle.service.proofs.keep.Reads as keep-reads
use Rattle.service_sequence_facts.specs.Calls.{Serving}
use Rattle.service_sequence_facts.specs.Run.{AnswersAll, last, call, Run, piece}
use Rattle.service_sequence_facts.proofs.OneCall.{serving}

module _ (κs : Lfts 2) (a : Dens κs serve-kinds.ps) (r : (res_t serve-kinds.r κs).Denot) (x : AtExit (ended_of 2 serve-kinds.ps serve-kinds.r) κs)
    (contract : serve-reads.Learnt κs a r x) where
  -- one call is a sequence of requests
  pub serve_step : {p : Profile} {h : History} → Trace (limits_of p) h a.0 → Serving p h a.1.0.now a.1.1.0.now x.1.1.0.now r
  serve_step t = serving t contract.0

  pub last_step : answer_room ≤ length a.1.1.0.now → r.taken ≡ 0 → AnswersAll a.0 a.1.0.now r.gauge 0 (take r.len x.1.1.0.now)
  last_step room e = last room contract.0 e

  pub call_step : {g : Gauge} {taken : ℕ} {written : List ℕ} → answer_room ≤ length a.1.1.0.now → AnswersAll r.gauge (drop r.taken a.1.0.now) g taken written
      → AnswersAll a.0 a.1.0.now g (r.taken + taken) (take r.len x.1.1.0.now ++ written)
  call_step room rest = call room contract.0 rest

-- and so are a piece's bytes, where `keep` is called for what was not taken
pub piece_step : {p : Profile} {h : History} {g₀ g g' : Gauge} {parts : List (List ℕ)} {kept written bytes new : List ℕ} (κs : Lfts 1) (a : Dens κs keep-kinds.ps)
    (r : (res_t keep-kinds.r κs).Denot) (x : AtExit (ended_of 1 keep-kinds.ps keep-kinds.r) κs) → keep-reads.Learnt κs a r x → Run p h g₀ parts g kept written
    → take a.1.1.0 a.0.now ≡ kept ++ bytes → AnswersAll g (take a.1.1.0 a.0.now) g' a.1.0 new
    → Run p h g₀ (bytes ∷ parts) g' (take r x.0.now) (written ++ new)
piece_step κs a r x contract run e calls = piece run e calls contract.0

-- no call asks anything of its caller
pub serve_free : (κs : Lfts 2) (a : Dens κs serve-kinds.ps) → serve-reads.Asked κs a
serve_free κs a = tt

pub keep_free : (κs : Lfts 1) (a : Dens κs keep-kinds.ps) → keep-reads.Asked κs a
keep_free κs a = tt
