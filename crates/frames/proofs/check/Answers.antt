-- `frames::check` meets its contract: each refusal by the tests that led there.
use Rattle.std.proofs.Common.{◌≡◌, ℕ, ◌≤◌, Bool, true, List, length, sym, ◌∙◌, arith}
use Rattle.frames.specs.Frame.{length_fits}
use Rattle.buffer.proofs.Rules.{rules}
use Rattle.frames.proofs.Laws.{flags, sums, fits, checked_rows}
use Rattle.frames.proofs.check.Goals as goal

six : (s : List ℕ) (r : Bool) → r ≡ length_fits s → r ≡ true → 6 ≤ length s
six s r e h = (fits s (sym e ∙ h)).six

pub returns-then-not-length_fits : goal.returns-then-not-length_fits
returns-then-not-length_fits c = rw checked_rows (search (rules, flags) depth 24)

pub returns-in_default : goal.returns-in_default
returns-in_default c = absurd (omega (arith, six c.args.s.now _ c.length_fits.ensures c.if-not-length_fits.false))

pub returns-in_default-2 : goal.returns-in_default-2
returns-in_default-2 c = rw checked_rows (search (rules, flags) depth 24)

pub returns-then-given-eq13 : goal.returns-then-given-eq13
returns-then-given-eq13 c = rw checked_rows (search (rules, flags) depth 24)

pub returns-in_default-printed_sum : goal.returns-in_default-printed_sum
returns-in_default-printed_sum c = rw checked_rows (search (rules, flags, sums) depth 24)

pub returns-then-given-sum : goal.returns-then-given-sum
returns-then-given-sum c = rw checked_rows (search (rules, flags, sums, c.in-Some.ensures) depth 24)

pub has_wrong_address-requires : goal.has_wrong_address-requires
has_wrong_address-requires c = omega (arith, six c.args.s.now _ c.length_fits.ensures c.if-not-length_fits.false)

pub returns-then-has_wrong_address : goal.returns-then-has_wrong_address
returns-then-has_wrong_address c = rw checked_rows (search (rules, flags, sums, c.in-Some.ensures) depth 24)

pub returns : goal.returns
returns c = rw checked_rows (search (rules, flags, sums, c.in-Some.ensures) depth 24)
