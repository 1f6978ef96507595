-- `script_words::word::number` gives what the word spells. The invariant: the digits that are left, after n, spell the whole.
use Rattle.std.proofs.Common.{◌≡◌, drop}
use Rattle.buffer.specs.Byte.{numeral_from, numeral}
use Rattle.script_words.proofs.word.number.Given as goal

abbrev pub invariant-loop-b : goal.invariant-loop-b
invariant-loop-b l = numeral_from l.n (drop l.b-index l.word) ≡ numeral l.word
