-- For a text that a pattern takes apart, `[b, t @ ..]`: what is left after the first, and that 0 stands past the end.
use Rattle.std.proofs.lemmas.Bool.Decides.{nat_tests}
use Rattle.buffer.proofs.Laws.{part_rest, at_past}

pub ruleset fronts = (nat_tests, part_rest, at_past)
