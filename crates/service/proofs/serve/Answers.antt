-- `service::serve` meets its contract.
use mathlib.Core.Path.{◌≡◌}
use native.Mathlib.Omega.{arith}
use Rattle.buffer.proofs.Laws.{part_rest}
use Rattle.sources.specs.Source.{list_of, Counted}
use Rattle.settings.specs.Settings.{held, changed_by}
use Rattle.service.proofs.Sofar.{begin, no_request, no_room, next, gauge, stored}
use Rattle.service.proofs.serve.Goals as goal

pub loop-out-init : goal.loop-out-init
loop-out-init c = (begin _ _ _, λ n. n)

pub overflow_sub-out : goal.overflow_sub-out
overflow_sub-out c = omega (arith, c.loop-out.invariant.0.used_in, c.loop-out.invariant.0.long)

pub slice_bounds-until-count : goal.slice_bounds-until-count
slice_bounds-until-count c = omega (arith, c.loop-out.invariant.0.at_in)

pub slice_bounds-until-start : goal.slice_bounds-until-start
slice_bounds-until-start c = omega (arith, c.loop-out.invariant.0.at_in)

pub slice_bounds-until-end : goal.slice_bounds-until-end
slice_bounds-until-end c = omega (arith, c.loop-out.invariant.0.at_in)

pub overflow_sub-input : goal.overflow_sub-input
overflow_sub-input c = omega (arith, c.loop-out.invariant.0.at_in)

pub returns-then-input-at : goal.returns-then-input-at
returns-then-input-at c =
    let x = c.args in
    let l = c.loop-out in
    let s = l.invariant.0 in
    record {
      serves = rw c.stopped.ensures (no_request _ _ _ _ _ _ _ s _ _ (part_rest x.input.now l.at) c.until-n.ensures c.if-input-at.true);
      taken_in_bounds = rw c.stopped.ensures (s.at_in, s.used_in);
      counted = rw c.stopped.ensures l.invariant.1;
    }

-- one request more, and what it changes stored
pub loop-out-preserved : goal.loop-out-preserved
unfolding changed_by
loop-out-preserved c =
    let x = c.args in
    let l = c.loop-out in
    let decide = c.decide-d in
    let d = decide.result in
    let m = c.match-d in
    let entered : (held m.settings ≡ changed_by (held l.settings) d.change.value (list_of d.change.sources)) × (Counted l.settings.sources → Counted m.settings.sources) =
    elim m.branch [
      | goal.in_default w ↦ (rw (w.in_default.is, w.settings-is), λ n. rw w.settings-is n)
      | goal.in-Some w ↦ (rw (w.in-Some.is, w.settings-is) w.with-settings.ensures.result_value, λ n. rw w.settings-is (w.with-settings.ensures.counted n decide.ensures.counted))
    ] in
    let before = gauge x.g.profile l.settings x.g.readings l.unlocked in (
      stored _ _ _ _ _ _ x.g.profile l.settings m.settings x.g.readings l.unlocked d entered.0
          (next (gauge x.g.profile x.g.settings x.g.readings x.g.unlocked) x.input.now x.out.now before l.at l.used l.out l.invariant.0 _ _ _ _ c.loop-out-test.true (part_rest x.input.now l.at) c.until-n.ensures c.if-input-at.false decide.ensures.decides decide.auto.out),
      λ n. entered.1 (l.invariant.1 n),
    )

pub overflow_add-used : goal.overflow_add-used
overflow_add-used c = omega (arith, (loop-out-preserved c).0.used_in, c.well_formed.1.1.0)

pub returns : goal.returns
returns c =
    let l = c.loop-out.invariant in
    let s = l.0 in
    record {
      serves = rw c.stopped-2.ensures (no_room _ _ _ _ _ _ _ s (omega arith));
      taken_in_bounds = rw c.stopped-2.ensures (s.at_in, s.used_in);
      counted = rw c.stopped-2.ensures l.1;
    }
