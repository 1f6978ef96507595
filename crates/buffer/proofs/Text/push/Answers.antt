-- `buffer::Text::push` meets its contract.
use borrow.Author.Rules.{rules}
use Rattle.buffer.specs.Text.{text_of, cut}
use Rattle.buffer.proofs.Laws.{filled, full}
use Rattle.buffer.proofs.Text.push.Goals as goal

pub returns-then-len-lt-MOST : goal.returns-then-len-lt-MOST
unfolding text_of cut
returns-then-len-lt-MOST c = let t = c.args.self in filled t.bytes t.len 24 c.args.b (search rules) c.if-len-lt-MOST.true

pub returns-else-len-lt-MOST : goal.returns-else-len-lt-MOST
unfolding text_of cut
returns-else-len-lt-MOST c = let t = c.args.self in full t.bytes t.len 24 c.args.b (search rules) c.if-len-lt-MOST.false
