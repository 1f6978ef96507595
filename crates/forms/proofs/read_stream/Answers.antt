-- `forms::read_stream` meets its contract: the entries are what follows the mode.
use mathlib.Core.Path.{◌≡◌, sym, ◌∙◌}
use mathlib.Core.Bool.{false}
use borrow.Author.Tests.{eq-eqb, ne_eqb}
use lib.Dec.{eqb}
use Rattle.std.proofs.lemmas.Result.{err_from_is_err_and}
use Rattle.refusals.specs.Number.{refusal_number}
use Rattle.buffer.specs.First.{pick}
use Rattle.buffer.specs.Byte.{starts_with}
use Rattle.settings.specs.declared.Setting.TheVariants.{Stream}
use Rattle.forms.specs.Forms.{stream_of, stream_data}
use Rattle.forms.proofs.Streams.{listed_in, refused_as}
use Rattle.forms.proofs.read_stream.Goals as goal
use Rattle.forms.proofs.read_stream.Goals.{
  then-count_digits-eq0-via-then-count_digits-eq0,
  then-count_digits-eq0-via-else-count_digits-eq0+then-is_malformed,
  then-count_digits-eq0-via-else-count_digits-eq0+else-is_malformed+then-has_idle_list,
}

pub returns-then-count_digits-eq0 : goal.returns-then-count_digits-eq0
unfolding stream_data stream_of pick
returns-then-count_digits-eq0 c =
    let l = listed_in c.args.profile c.rest.ensures c.read_entries-listed.ensures in
    rw (← c.count_digits.ensures, ← l.number)
    (
    elim c.then-count_digits-eq0.branch [
      | then-count_digits-eq0-via-then-count_digits-eq0 w ↦ rw (eq-eqb _ 0 w.if-count_digits-eq0.true)
      | then-count_digits-eq0-via-else-count_digits-eq0+then-is_malformed w ↦ rw (ne_eqb _ 0 w.if-count_digits-eq0.false, sym w.is_malformed.ensures ∙ w.if-is_malformed.true)
      | then-count_digits-eq0-via-else-count_digits-eq0+else-is_malformed+then-has_idle_list w
          ↦ rw (ne_eqb _ 0 w.if-count_digits-eq0.false, sym w.is_malformed.ensures ∙ w.if-is_malformed.false, sym w.has_idle_list.ensures ∙ w.if-has_idle_list.true)
    ])

pub returns-then-not-has_mode : goal.returns-then-not-has_mode
unfolding stream_data stream_of pick
returns-then-not-has_mode c =
    let l = listed_in c.args.profile c.rest.ensures c.read_entries-listed.ensures in
    rw (
      ← c.count_digits.ensures,
      ← l.number,
      ne_eqb _ 0 c.if-count_digits-eq0.false,
      sym c.is_malformed.ensures ∙ c.if-is_malformed.false,
      sym c.has_idle_list.ensures ∙ c.if-has_idle_list.false,
      sym c.has_mode.ensures ∙ c.if-not-has_mode.true,
    )

pub returns-in_err-list : goal.returns-in_err-list
unfolding stream_data stream_of pick
returns-in_err-list c =
    let p = err_from_is_err_and c.from_residual.result c.from_residual.ensures.1 in
    let k = c.in_err-list.field-0.0 in
    let l = listed_in c.args.profile c.rest.ensures c.in_err-list.ensures in
    let formed : eqb (refusal_number k) 10 ≡ false = rw c.in_err-list.was at (sym c.is_malformed.ensures ∙ c.if-is_malformed.false) in
    let told = refused_as k (Stream (starts_with 52 c.args.s.now)) _ _ l.number formed in
    rw (p.1, p.2, ← c.count_digits.ensures, ← l.number, ne_eqb _ 0 c.if-count_digits-eq0.false, formed, sym c.has_idle_list.ensures ∙ c.if-has_idle_list.false, sym c.has_mode.ensures ∙ c.if-not-has_mode.false) told

pub returns : goal.returns
unfolding stream_data stream_of pick
returns c =
    let l = listed_in c.args.profile c.rest.ensures c.in_ok-list.ensures in (
      rw (
        ← c.count_digits.ensures,
        ← l.number,
        ne_eqb _ 0 c.if-count_digits-eq0.false,
        sym c.has_idle_list.ensures ∙ c.if-has_idle_list.false,
        sym c.has_mode.ensures ∙ c.if-not-has_mode.false,
        c.starts_with.ensures,
      ),
      l.list,
      l.count,
    )
