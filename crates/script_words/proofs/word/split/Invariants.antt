-- `script_words::word::split` gives words that are not empty.
use Rattle.std.proofs.Common.{◌<◌, length, All}
use Rattle.script_words.proofs.word.split.Given as goal

abbrev pub invariant-loop-word : goal.invariant-loop-word
invariant-loop-word l = All (λ x. 0 < length x.now) l.words.items
