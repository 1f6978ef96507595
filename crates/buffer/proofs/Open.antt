-- To compute with these definitions: `unfolding buffer_open` opens every one of this crate.
use Rattle.buffer.specs.Answer.{over}
use Rattle.buffer.specs.Byte.{within, leading, starts_with, every, same_text, until_of, numeral_from}
use Rattle.buffer.specs.First.{pick}
use Rattle.buffer.specs.Text.{text_of, cut}

unfoldable pub buffer_open : Unit {0}
unfolding over within leading starts_with every same_text until_of numeral_from pick text_of cut
buffer_open = tt
