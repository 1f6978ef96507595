-- `buffer::Text::add` meets its contract. The invariant: the text so far and what is left of src, cut, are the whole.
use mathlib.Core.Path.{◌≡◌, sym, ◌∙◌}
use mathlib.Core.List.{[], ◌∷◌, ◌++◌, append_assoc, append-nil}
use native.Mathlib.Omega.{arith}
use lib.ListN.{length, get_or, take, drop_of_length-le, length-take, length-set}
use Rattle.buffer.specs.Text.{text_of, cut}
use Rattle.buffer.proofs.Laws.{cut_cut, cut_fits, drop_step, filled, full}
use Rattle.buffer.proofs.Text.add.Goals as goal
use Rattle.buffer.proofs.Text.add.Goals.{then-len-lt-MOST, else-len-lt-MOST}

pub loop-b-preserved : goal.loop-b-preserved
unfolding cut
loop-b-preserved c =
    let l = c.loop-b in
    let s = c.args.src.now in
    let b = get_or s l.b-index 0 in
    let more : (length c.if-len-lt-MOST.bytes ≡ 24) × (take c.if-len-lt-MOST.len c.if-len-lt-MOST.bytes ≡ cut (take l.len l.bytes ++ (b ∷ []))) =
    elim c.if-len-lt-MOST.branch [
      | then-len-lt-MOST w ↦ rw (w.bytes-is, w.len-is) (simp length-set l.invariant.0, filled l.bytes l.len 24 b l.invariant.0 w.if-len-lt-MOST.true)
      | else-len-lt-MOST w ↦ rw (w.bytes-is, w.len-is) (l.invariant.0, full l.bytes l.len 24 b l.invariant.0 w.if-len-lt-MOST.false)
    ] in
    (more.0, rw (more.1, cut_cut, append_assoc) (rw (drop_step s l.b-index (omega arith)) at l.invariant.1))

pub returns : goal.returns
unfolding text_of
returns c =
    let l = c.loop-b in
    let s = c.args.src.now in
    sym (cut_fits (take l.len l.bytes) (simp length-take (omega arith))) ∙ rw (drop_of_length-le s {i = l.b-index} (omega arith), append-nil) at l.invariant.1
