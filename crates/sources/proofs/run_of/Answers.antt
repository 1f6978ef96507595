-- `sources::run_of` meets its contract. The invariant: what was read of the entries so far.
use Rattle.std.proofs.Common.{refl, sym, ◌∙◌, ap, length, eqb, arith, rules, Err}
use Rattle.std.proofs.lemmas.Iterator.Splits.{YieldsList-from_slice_split}
use Rattle.std.proofs.lemmas.Iterator.Consumers.{YieldsList-at, YieldsList-turn, YieldsList-end}
use Rattle.std.proofs.lemmas.List.{length_push, take_all}
use Rattle.std.proofs.lemmas.Result.{MatchResult-weaker}
use Rattle.buffer.specs.Byte.{every}
use Rattle.sources.specs.Source.{source_of, sources_of, list_of, Counted}
use Rattle.sources.specs.Entries.{parts}
use Rattle.sources.proofs.Laws.{parts_split}
use Rattle.sources.proofs.Reading.{ended, known_step, unknown_step, malformed_in, ok_from_is_ok_and}
use Rattle.sources.proofs.run_of.Goals as goal

pub loop-t-init : goal.loop-t-init
unfolding every list_of Counted
loop-t-init c = record { formed = refl; known = refl; list = refl; counted = refl }

pub loop-t-preserved-in-Ok : goal.loop-t-preserved-in-Ok
loop-t-preserved-in-Ok c =
    let e = rw parts_split at (YieldsList-turn
    (YieldsList-at c.into_iter-t-iterator.ensures.into_iter_gives
    (YieldsList-from_slice_split _ (λ b. eqb b 68) c.args.s.now c.split-t-items.ensures.rest c.split-t-items.ensures.done c.split-t-items.ensures.closure (λ x b q h. (refl, search rules))))
    c.loop-t.yielded _ c.loop-t.yielded_by _ _ c.in-Some.t c.in-Some.is c.next.ensures.steps) in
    known_step (source_of (sources_of c.args.profile)) (parts c.args.s.now) _ _ e _ c.loop-t.read _ c.in-Ok.c (length_push _ _) (sym c.in-Ok.ensures) c.loop-t.invariant (MatchResult-weaker c.loop-t.read c.map-read.ensures.cases (λ q h. let w = ok_from_is_ok_and _ h in (w.0, w.1, search rules)) (λ k h. h))

pub loop-t-preserved : goal.loop-t-preserved
loop-t-preserved c =
    let e = rw parts_split at (YieldsList-turn
    (YieldsList-at c.into_iter-t-iterator.ensures.into_iter_gives
    (YieldsList-from_slice_split _ (λ b. eqb b 68) c.args.s.now c.split-t-items.ensures.rest c.split-t-items.ensures.done c.split-t-items.ensures.closure (λ x b q h. (refl, search rules))))
    c.loop-t.yielded _ c.loop-t.yielded_by _ _ c.in-Some.t c.in-Some.is c.next.ensures.steps) in
    unknown_step (source_of (sources_of c.args.profile)) (parts c.args.s.now) _ _ e _ c.loop-t.read (length_push _ _) (sym c.source_here.ensures ∙ c.in-Err-Unknown.is ∙ ap Err c.in-Err-Unknown.field-0-is) c.loop-t.invariant

pub returns-in-Err-Malformed : goal.returns-in-Err-Malformed
returns-in-Err-Malformed c =
    let e = rw parts_split at (YieldsList-turn
    (YieldsList-at c.into_iter-t-iterator.ensures.into_iter_gives
    (YieldsList-from_slice_split _ (λ b. eqb b 68) c.args.s.now c.split-t-items.ensures.rest c.split-t-items.ensures.done c.split-t-items.ensures.closure (λ x b q h. (refl, search rules))))
    c.loop-t.yielded _ c.loop-t.yielded_by _ _ c.in-Some.t c.in-Some.is c.next.ensures.steps) in
    malformed_in (source_of (sources_of c.args.profile)) (parts c.args.s.now) _ _ e (sym c.source_here.ensures ∙ c.in-Err-Malformed.is ∙ ap Err c.in-Err-Malformed.field-0-is)

pub returns : goal.returns
returns c =
    let e = rw parts_split at (YieldsList-end
    (YieldsList-at c.into_iter-t-iterator.ensures.into_iter_gives
    (YieldsList-from_slice_split _ (λ b. eqb b 68) c.args.s.now c.split-t-items.ensures.rest c.split-t-items.ensures.done c.split-t-items.ensures.closure (λ x b q h. (refl, search rules))))
    c.loop-t.yielded _ c.loop-t.yielded_by _ _ c.in-None.is c.next.ensures.steps) in
    ended _ c.loop-t.read (rw (e.1, take_all (length (parts c.args.s.now)) (parts c.args.s.now) (omega arith)) at c.loop-t.invariant)
