-- `script_words::word::number` gives what the word spells.
use Rattle.std.proofs.Common.{arith, ◌≡◌, ◌+◌, ◌-◌, ◌*◌, ◌<◌, ℕ, List, length, drop, get_or, drop-cons, drop_of_length-le, add-one, refl}
use Rattle.buffer.specs.Byte.{numeral_from}
use Rattle.script_words.proofs.word.number.Goals as goal

-- the numeral from a digit on
step : (s : List ℕ) (v i n : ℕ) → i < length s → n ≡ v * 10 + (get_or s i 0 - 48) → numeral_from n (drop (i + 1) s) ≡ numeral_from v (drop i s)
unfolding numeral_from
step s v i n h e = rw (drop-cons s i 0 h, e, add-one i) refl

pub loop-b-preserved : goal.loop-b-preserved
loop-b-preserved c =
    let l = c.loop-b in
    let s = c.args.word.now in
    let e : c.in_ok-n.n ≡ l.n * 10 + (get_or s l.b-index 0 - 48) = omega (arith, c.in_ok-n.ensures.1, c.in_ok-checked_mul.ensures.1, c.in_ok-digit.ensures.value, c.from.ensures) in
    rw (step s l.n l.b-index c.in_ok-n.n c.loop-b-test.true e) l.invariant

pub returns : goal.returns
unfolding numeral_from
returns c = rw (drop_of_length-le c.args.word.now c.loop-b-test.false) at c.loop-b.invariant
