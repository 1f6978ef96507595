-- `sources::source_of` meets its contract: each arm by the tests that led there.
use Rattle.std.proofs.Common.{refl, arith}
use Rattle.buffer.specs.First.{pick}
use Rattle.buffer.specs.Byte.{within, every, same_text}
use Rattle.sources.specs.Source.{known_sources, source_of, is_source, find_source, source_text}
use Rattle.sources.proofs.Names.{one, two, other_digit, no_source, two_digits, other_t, no_digit_last, no_digit_first, other_length}
use Rattle.sources.proofs.source_of.Goals as goal

pub returns-in-48 : goal.returns-in-48
unfolding source_of is_source find_source source_text same_text every within pick
returns-in-48 c = one (source_of known_sources) c.args.t.now 48 (omega arith) (omega arith) refl

pub returns-in-49 : goal.returns-in-49
unfolding source_of is_source find_source source_text same_text every within pick
returns-in-49 c = one (source_of known_sources) c.args.t.now 49 (omega arith) (omega arith) refl

pub returns-in-50 : goal.returns-in-50
unfolding source_of is_source find_source source_text same_text every within pick
returns-in-50 c = one (source_of known_sources) c.args.t.now 50 (omega arith) (omega arith) refl

pub returns-in-54 : goal.returns-in-54
unfolding source_of is_source find_source source_text same_text every within pick
returns-in-54 c = one (source_of known_sources) c.args.t.now 54 (omega arith) (omega arith) refl

pub returns-in-55 : goal.returns-in-55
unfolding source_of is_source find_source source_text same_text every within pick
returns-in-55 c = one (source_of known_sources) c.args.t.now 55 (omega arith) (omega arith) refl

pub returns-in-84 : goal.returns-in-84
unfolding source_of is_source find_source source_text same_text every within pick
returns-in-84 c = two (source_of known_sources) c.args.t.now 84 50 (omega arith) (omega arith) (omega arith) refl

pub returns-in-84-2 : goal.returns-in-84-2
unfolding source_of is_source find_source source_text same_text every within pick
returns-in-84-2 c = two (source_of known_sources) c.args.t.now 84 54 (omega arith) (omega arith) (omega arith) refl

pub returns-in-48-to-57 : goal.returns-in-48-to-57
returns-in-48-to-57 c = other_digit c.args.t.now (omega arith) (omega arith) (omega arith) (omega arith) (omega arith) (omega arith) (omega arith) (omega arith)

pub returns-in-48-to-57-2 : goal.returns-in-48-to-57-2
returns-in-48-to-57-2 c = two_digits c.args.t.now (omega arith) (omega arith) (omega arith) (omega arith) (omega arith)

pub returns-in-48-to-57-3 : goal.returns-in-48-to-57-3
returns-in-48-to-57-3 c = other_t c.args.t.now (omega arith) (omega arith) (omega arith) (omega arith) (omega arith) (omega arith)

pub returns-in_default : goal.returns-in_default
returns-in_default c = other_length c.args.t.now (omega arith) (omega arith)

pub returns-in_default-2 : goal.returns-in_default-2
returns-in_default-2 c = no_source c.args.t.now (omega arith) (λ l h. omega arith)

pub returns-in_default-3 : goal.returns-in_default-3
returns-in_default-3 c = no_source c.args.t.now (omega arith) (λ l h. omega arith)

pub returns-in_default-4 : goal.returns-in_default-4
returns-in_default-4 c = no_digit_last c.args.t.now (omega arith) (λ l h. omega arith)

pub returns-in_default-5 : goal.returns-in_default-5
returns-in_default-5 c = no_digit_last c.args.t.now (omega arith) (λ l h. omega arith)

pub returns-in_default-6 : goal.returns-in_default-6
returns-in_default-6 c = no_digit_first c.args.t.now (omega arith) (omega arith) (λ l h. omega arith)

pub returns-in_default-7 : goal.returns-in_default-7
returns-in_default-7 c = no_digit_last c.args.t.now (omega arith) (λ l h. omega arith)

pub returns-in_default-8 : goal.returns-in_default-8
returns-in_default-8 c = no_digit_last c.args.t.now (omega arith) (λ l h. omega arith)

pub returns-in_default-9 : goal.returns-in_default-9
returns-in_default-9 c = no_digit_first c.args.t.now (omega arith) (omega arith) (λ l h. omega arith)

pub returns-in_default-10 : goal.returns-in_default-10
returns-in_default-10 c = other_length c.args.t.now (omega arith) (omega arith)
