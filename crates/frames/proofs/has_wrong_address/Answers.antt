-- `frames::has_wrong_address` meets its contract.
use Rattle.std.proofs.Common.{arith}
use Rattle.buffer.proofs.Rules.{rules}
use Rattle.frames.specs.Frame.{wrong_address}
use Rattle.frames.proofs.Laws.{flags, last_row, numeral_part}
use Rattle.frames.proofs.has_wrong_address.Goals as goal

pub returns-then-not-all_within : goal.returns-then-not-all_within
unfolding wrong_address
returns-then-not-all_within c = search (rules, flags) depth 24

pub returns-else-not-all_within : goal.returns-else-not-all_within
unfolding wrong_address
returns-else-not-all_within c =
    let s = c.args.s.now in
    rw (c.numeral_of.ensures, numeral_part 3 s (omega arith)) (search (rules, flags, last_row) depth 24)
