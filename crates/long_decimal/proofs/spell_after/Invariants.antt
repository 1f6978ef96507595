-- `long_decimal::spell_after` meets its contract. The invariant: what is left, after n, spells the whole.
use mathlib.Core.Path.{◌≡◌}
use lib.ListN.{drop}
use Rattle.buffer.specs.Byte.{numeral_from}
use Rattle.long_decimal.proofs.spell_after.Given as goal

abbrev pub invariant-loop-b : goal.invariant-loop-b
invariant-loop-b l = numeral_from l.n (drop l.b-index l.s) ≡ numeral_from l.v l.s
