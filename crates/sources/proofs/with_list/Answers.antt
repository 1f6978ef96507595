-- `sources::with_list` meets its contract. The invariant: the text so far, with the entries that are left, is the whole text.
use mathlib.Core.Path.{◌≡◌, refl, sym, ◌∙◌}
use mathlib.Core.List.{List, [], ◌∷◌, ◌++◌, append_assoc, append-nil}
use Prim.Native.Nat.{ℕ, ◌+◌, ◌<◌}
use native.Mathlib.Omega.{arith}
use lib.ListN.{length, drop, get_or, drop_of_length-le}
use Rattle.buffer.proofs.Laws.{cut_cut, cut_again, drop_step}
use Rattle.sources.specs.Source.{list_text, source_text}
use Rattle.sources.proofs.with_list.Goals as goal

-- the entry at i, and then those after it
list-step : (codes : List ℕ) (i : ℕ) → i < length codes → list_text (drop i codes) ≡ ((68 ∷ []) ++ source_text (get_or codes i 0)) ++ list_text (drop (i + 1) codes)
unfolding list_text
list-step codes i h = rw (drop_step codes i h)

pub loop-code-init : goal.loop-code-init
loop-code-init c = (rw c.add-r.ensures (cut_again _), refl)

pub loop-code-preserved : goal.loop-code-preserved
loop-code-preserved c =
    let l = c.loop-code in (
      rw c.with_source-r.ensures (cut_again _),
      rw (c.with_source-r.ensures, cut_cut, append_assoc) (rw (list-step c.as_slice-code-items.result.now l.code-index (omega arith)) at l.invariant.1),
    )

pub returns : goal.returns
unfolding list_text
returns c =
    let l = c.loop-code in
    let s = c.as_slice-code-items.result.now in
    sym l.invariant.0 ∙ rw (drop_of_length-le s c.loop-code-test.false, append-nil, c.as_slice-code-items.ensures, c.add-r.ensures, append-nil, cut_cut) at l.invariant.1
