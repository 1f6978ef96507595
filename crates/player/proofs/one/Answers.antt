-- `player::one` meets its contract: Turns has the reasoning, this file the places of the facts.
use mathlib.Core.Path.{sym}
use native.Mathlib.Omega.{arith}
use lib.ListN.{length}
use Rattle.script.specs.Script.{Fits}
use Rattle.player.proofs.Turns.{part_short, read, request_one, line_one, setting_one, opg_bench_one, no_room, none_left}
use Rattle.player.proofs.one.Goals as goal

-- no whole call
pub returns-in_err-to : goal.returns-in_err-to
returns-in_err-to c =
    let x = c.args in
    rw c.from_residual.ensures (none_left x.script.now x.memory.now x.g x.at x.used (sym c.in_err-to.ensures.value) (omega arith))

-- a request
pub returns-then-memory-used : goal.returns-then-memory-used
returns-then-memory-used c =
    let x = c.args in
    let k = read (Fits (length x.script.now) x.at) _ c.in_ok-to.ensures.value c.in_ok-to.ensures.fits c.in-Request.is in
    no_room x.script.now x.memory.now x.g x.at x.used _ k.0 (omega arith) c.if-memory-used.true

pub ask-requires : goal.ask-requires
ask-requires c =
    let x = c.args in
    let k = read (Fits (length x.script.now) x.at) _ c.in_ok-to.ensures.value c.in_ok-to.ensures.fits c.in-Request.is in
    part_short x.memory.now x.used _ k.1.0

pub returns-else-memory-used : goal.returns-else-memory-used
returns-else-memory-used c =
    let x = c.args in
    let k = read (Fits (length x.script.now) x.at) _ c.in_ok-to.ensures.value c.in_ok-to.ensures.fits c.in-Request.is in
    request_one x.script.now x.memory.now x.g x.at x.used _ _ _ _ _ k.1.1 k.0 (omega (arith, c.if-memory-used.false)) c.ask.ensures

-- the stream line
pub returns-then-memory-used-2 : goal.returns-then-memory-used-2
returns-then-memory-used-2 c =
    let x = c.args in
    let k = read (Fits (length x.script.now) x.at) _ c.in_ok-to.ensures.value c.in_ok-to.ensures.fits c.in-Line.is in
    no_room x.script.now x.memory.now x.g x.at x.used _ k.0 (omega arith) c.if-memory-used-2.true

pub show-requires : goal.show-requires
show-requires c =
    let x = c.args in
    let k = read (Fits (length x.script.now) x.at) _ c.in_ok-to.ensures.value c.in_ok-to.ensures.fits c.in-Line.is in
    part_short x.memory.now x.used _ k.1.0

pub returns-else-memory-used-2 : goal.returns-else-memory-used-2
returns-else-memory-used-2 c =
    let x = c.args in
    let k = read (Fits (length x.script.now) x.at) _ c.in_ok-to.ensures.value c.in_ok-to.ensures.fits c.in-Line.is in
    line_one x.script.now x.memory.now x.g x.at x.used _ _ _ k.1.1 k.0 (omega (arith, c.if-memory-used-2.false)) c.show.ensures

-- bench settings
pub returns-in-SetBench : goal.returns-in-SetBench
returns-in-SetBench c =
    let x = c.args in
    let k = read (Fits (length x.script.now) x.at) _ c.in_ok-to.ensures.value c.in_ok-to.ensures.fits c.in-SetBench.is in
    setting_one x.script.now x.memory.now x.g x.at x.used _ _ k.1 k.0 (omega arith) c.set_bench.ensures

pub returns-in-SetOpgBench : goal.returns-in-SetOpgBench
returns-in-SetOpgBench c =
    let x = c.args in
    let k = read (Fits (length x.script.now) x.at) _ c.in_ok-to.ensures.value c.in_ok-to.ensures.fits c.in-SetOpgBench.is in
    opg_bench_one x.script.now x.memory.now x.g x.at x.used _ _ k.1 k.0 (omega arith) c.set_opg_bench.ensures
