-- `frames::has_wrong_length` meets its contract.
use Rattle.std.proofs.Common.{◌≡◌, ◌-◌, length, drop, arith, length-drop, length-take}
use Rattle.buffer.proofs.Rules.{rules}
use Rattle.frames.specs.Frame.{wrong_length, data_from}
use Rattle.frames.proofs.Laws.{flags, last_row, numeral_part}
use Rattle.frames.proofs.has_wrong_length.Goals as goal

pub returns-then-not-all_within : goal.returns-then-not-all_within
unfolding wrong_length
returns-then-not-all_within c = search (rules, flags) depth 24

pub returns-else-not-all_within : goal.returns-else-not-all_within
unfolding wrong_length
returns-else-not-all_within c =
    let s = c.args.s.now in
    let n : length (data_from 8 s) ≡ length s - 10 = simp (length-drop, length-take) (omega arith) in
    rw (n, c.numeral_of.ensures, numeral_part 2 (drop 6 s) (omega arith)) (search (rules, flags, last_row) depth 24)
