-- `frames::read_frame` meets its contract: each answer by the tests that led there.
use Rattle.std.proofs.Common.{◌≡◌, ℕ, ◌≤◌, Bool, false, List, length, get_or, sym, ◌∙◌, arith, length-take}
use Rattle.std.specs.Prelude.{Ok}
use Rattle.std.proofs.lemmas.Result.{err_from_is_err_and}
use Rattle.buffer.proofs.Rules.{rules}
use Rattle.frames.specs.Frame.{is_letter, head_v1, head_v2}
use Rattle.frames.proofs.Laws.{flags, checked, shaped, frame_refused, frame_rows, numeral_3, numeral_part}
use Rattle.frames.proofs.read_frame.Goals as goal

-- ten or more where byte 3 is no letter
ten : (s : List ℕ) (r : Bool) → Ok tt ≡ checked s → r ≡ is_letter (get_or s 3 0) → r ≡ false → 10 ≤ length s
ten s r e h f = (shaped s e).ten (sym h ∙ f)

pub returns-in_err-check : goal.returns-in_err-check
returns-in_err-check c = let p = err_from_is_err_and c.from_residual.result c.from_residual.ensures.1 in rw (p.1, p.2) (frame_refused c.args.s.now _ c.in_err-check.ensures)

pub slice_bounds-numeral_of-end : goal.slice_bounds-numeral_of-end
slice_bounds-numeral_of-end c = simp length-take (omega (arith, (shaped c.args.s.now (sym c.in_ok-check.was ∙ c.check.ensures)).six))

pub overflow_cast-address : goal.overflow_cast-address
overflow_cast-address c =
    let s = c.args.s.now in
    omega (arith, numeral_part 3 s (omega arith), numeral_3 s (omega (arith, (shaped c.args.s.now (sym c.in_ok-check.was ∙ c.check.ensures)).six)), c.type_inv.s 0, c.type_inv.s 1, c.type_inv.s 2)

pub bounds-s-3 : goal.bounds-s-3
bounds-s-3 c = omega (arith, (shaped c.args.s.now (sym c.in_ok-check.was ∙ c.check.ensures)).six)

pub returns-then-is_letter : goal.returns-then-is_letter
unfolding head_v1
returns-then-is_letter c =
    let s = c.args.s.now in
    rw (frame_rows s (sym c.in_ok-check.was ∙ c.check.ensures), c.numeral_of-address.ensures, numeral_part 3 s (omega arith)) (search (rules, flags) depth 24)

pub bounds-s-4 : goal.bounds-s-4
bounds-s-4 c = omega (arith, ten c.args.s.now _ (sym c.in_ok-check.was ∙ c.check.ensures) c.is_letter.ensures c.if-is_letter.false)

pub bounds-s-5 : goal.bounds-s-5
bounds-s-5 c = omega (arith, ten c.args.s.now _ (sym c.in_ok-check.was ∙ c.check.ensures) c.is_letter.ensures c.if-is_letter.false)

pub has_wrong_length-requires : goal.has_wrong_length-requires
has_wrong_length-requires c = ten c.args.s.now _ (sym c.in_ok-check.was ∙ c.check.ensures) c.is_letter.ensures c.if-is_letter.false

pub returns-then-has_wrong_length : goal.returns-then-has_wrong_length
unfolding head_v2
returns-then-has_wrong_length c =
    let s = c.args.s.now in
    rw (frame_rows s (sym c.in_ok-check.was ∙ c.check.ensures), c.numeral_of-address.ensures, numeral_part 3 s (omega arith)) (search (rules, flags) depth 24)

pub returns : goal.returns
unfolding head_v2
returns c =
    let s = c.args.s.now in
    rw (frame_rows s (sym c.in_ok-check.was ∙ c.check.ensures), c.numeral_of-address.ensures, numeral_part 3 s (omega arith)) (search (rules, flags) depth 24)
