-- `bench_words::read_setting` meets its contract.
use mathlib.Core.Path.{◌≡◌, sym, ◌∙◌}
use Rattle.std.specs.Prelude.{None}
use Rattle.buffer.proofs.Rules.{stop, flag}
use Rattle.decimal.specs.Form.{parsed_of}
use Rattle.long_decimal.specs.Long.{decimal_of}
use Rattle.bench_words.specs.Words.{status_of, worded_of}
use Rattle.bench_words.proofs.read_setting.Goals as goal

-- what is no decimal is no FS
pub returns-in_err-x : goal.returns-in_err-x
unfolding worded_of parsed_of status_of
returns-in_err-x c =
    let none : decimal_of c.args.value.now ≡ None = sym c.read_decimal.ensures ∙ c.in_err-x.was in
    rw c.from_residual.ensures (stop _ _ _ _ (flag _ _ _ c.is_same.ensures c.if-is_same.true) (rw none))
