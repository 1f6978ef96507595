-- `sources::Sources::push` meets its contract.
use borrow.Author.Rules.{rules}
use Rattle.sources.proofs.Laws.{pushed_full, pushed_in}
use Rattle.sources.proofs.Sources.push.Goals as goal

pub returns-then-at-ge-CAPACITY : goal.returns-then-at-ge-CAPACITY
returns-then-at-ge-CAPACITY c = pushed_full c.args.self c.args.code (search rules) c.if-at-ge-CAPACITY.true

pub returns : goal.returns
returns c = pushed_in c.args.self c.args.code (search rules) c.if-at-ge-CAPACITY.false
