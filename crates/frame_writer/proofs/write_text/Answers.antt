-- `frame_writer::write_text` meets its contract.
use native.Mathlib.Omega.{arith}
use borrow.Author.Rules.{rules}
use mathlib.Core.Path.{◌≡◌}
use lib.ListN.{length, length-take}
use Rattle.buffer.specs.Text.{text_of}
use Rattle.frame_writer.proofs.write_text.Goals as goal

pub returns-clause-sent : goal.returns-clause-sent
returns-clause-sent g c = rw c.as_slice.ensures at c.write.ensures

pub returns-clause-text_len_bound : goal.returns-clause-text_len_bound
unfolding text_of
returns-clause-text_len_bound g c =
    let h : length c.args.text.bytes ≡ 24 = search rules in
    simp length-take (omega (arith, h))
