-- `settings::transition_text` meets its contract.
use mathlib.Core.Path.{◌≡◌, ◌∙◌}
use mathlib.Core.List.{append_assoc}
use Rattle.buffer.specs.Text.{text_of, cut}
use Rattle.buffer.proofs.Laws.{cut_cut, cut_fits}
use Rattle.settings.specs.Sent.{transition_text}
use Rattle.settings.proofs.Laws.{transition_le}
use Rattle.settings.proofs.transition_text.Goals as goal

pub returns-in-Direct : goal.returns-in-Direct
unfolding transition_text text_of
returns-in-Direct c =
    let e = c.in-Direct.is in
    let t = c.args.transition in
    let whole : text_of c.join.result ≡ cut (transition_text t) = rw (e, c.join.ensures, c.written.ensures, c.push.ensures) (simp (cut_cut, append_assoc)) in
    whole ∙ cut_fits (transition_text t) (transition_le t)

pub returns-in-Between : goal.returns-in-Between
unfolding transition_text text_of
returns-in-Between c =
    let e = c.in-Between.is in
    let t = c.args.transition in
    let whole : text_of c.join-in-Between-2.result ≡ cut (transition_text t) =
    rw (e, c.join-in-Between-2.ensures, c.written-in-Between-2.ensures, c.push-in-Between-2.ensures, c.join-in-Between.ensures, c.written-in-Between.ensures, c.push-in-Between.ensures) (simp (cut_cut, append_assoc)) in
    whole ∙ cut_fits (transition_text t) (transition_le t)
