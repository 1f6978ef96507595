-- `sources::with_source` meets its contract.
use native.Mathlib.Omega.{arith}
use borrow.Author.Tests.{ne_eqb}
use Rattle.buffer.specs.First.{pick}
use Rattle.sources.specs.Source.{source_text}
use Rattle.sources.proofs.with_source.Goals as goal

pub returns-in-8 : goal.returns-in-8
unfolding source_text pick
returns-in-8 c = rw (c.in-8.is, c.add.ensures)

pub returns-in-9 : goal.returns-in-9
unfolding source_text pick
returns-in-9 c = rw (c.in-9.is, c.add-in-9.ensures)

pub returns-in_default : goal.returns-in_default
unfolding source_text pick
returns-in_default c = rw (ne_eqb c.args.code 8 (omega arith), ne_eqb c.args.code 9 (omega arith), c.add-in_default.ensures)
