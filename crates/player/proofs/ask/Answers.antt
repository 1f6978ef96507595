-- `player::ask` meets its contract.
use mathlib.Core.Path.{refl}
use native.Mathlib.Omega.{arith}
use Rattle.sequence_facts.specs.Sequence as text
use Rattle.opg_sequence_facts.specs.Sequence as opg
use Rattle.player.proofs.Turns.{reply_fits}
use Rattle.player.proofs.ask.Goals as goal

pub overflow_cast-result : goal.overflow_cast-result
overflow_cast-result c =
    let answer = c.answer-a in
    omega (arith, reply_fits answer.ensures.answers.sent answer.auto.out, c.requires)

pub overflow_cast-result-in-Opg : goal.overflow_cast-result-in-Opg
overflow_cast-result-in-Opg c =
    let answer = c.answer-a-in-Opg in
    omega (arith, reply_fits answer.ensures.sent answer.auto.out, c.requires)

pub returns-in-Text : goal.returns-in-Text
returns-in-Text c =
    rw c.in-Text.is
    (record {
      number_is = refl;
      length_is = refl;
      follows = λ profile h t. record { of_text_gauge = text.ask t.of_text_gauge c.answer-a.ensures.answers; of_opg_gauge = t.of_opg_gauge };
    })

pub returns-in-Opg : goal.returns-in-Opg
returns-in-Opg c =
    let answer = c.answer-a-in-Opg.ensures in
    rw c.in-Opg.is
    (record {
      number_is = refl;
      length_is = refl;
      follows = λ profile h t. record { of_text_gauge = t.of_text_gauge; of_opg_gauge = opg.ask t.of_opg_gauge (answer.sent, answer.gauge_value) };
    })
