-- Document 01, "V1 on the same settings": what the gauge holds for a V1 request, and what the master is to read of its answer.
use Rattle.std.specs.Prelude.{[], ◌∷◌, ℕ, ◌+◌, ◌/◌, eqb, Ok, Result}
use Rattle.buffer.specs.First.{◌⇒◌, first, pick}
use Rattle.error_texts.specs.declared.ErrorText.{ErrorText}
use Rattle.error_texts.specs.declared.ErrorText.TheVariants.{Logic, NoDef, Range, Error1}
use Rattle.decimal.specs.declared.Number.{Number}
use Rattle.readings.specs.declared.Pressure.{Pressure}
use Rattle.readings.specs.declared.Pressure.TheVariants.{Measured, Faulty}
use Rattle.requests.specs.declared.RequestV1.{RequestV1}
use Rattle.requests.specs.declared.RequestV1.TheVariants.{Measure, ReadFactor, Unlock, SetFactor, ReadUnit, SetUnit}
use Rattle.replies_v1.specs.declared.ReplyV1.{ReplyV1}
use Rattle.replies_v1.specs.declared.ReplyV1.TheVariants.{Reads, Factor, Unit, Done, Error}
use Rattle.gauge_rules.specs.State.{State}
use Rattle.gauge_rules_v1.specs.RulesV1.{grant_v1}
use Rattle.refusals.specs.declared.Refusal.{Refusal}

-- a measured pressure as V1 tells it: q are its hundreds, "rounded half up to four digits", with "exponent plus 20", where place 9 is the exponent 0.
-- A carry into a fifth digit makes q 10000: that is 1000, with the exponent one higher.
unfoldable pub rounded_v1 : Number → ReplyV1
rounded_v1 n =
    let q = (n.mantissa + 50) / 100 in
    first (eqb q 10000 ⇒ Reads 1000 (n.place + 12) ∷ []) (Reads q (n.place + 11))

-- a faulty sensor has no value: "`M` with the data `1`", which the master reads as the error
unfoldable pub pressure_held : Pressure → ReplyV1
pressure_held (Measured n) = rounded_v1 n
pressure_held Pressure.UnderRange = ReplyV1.UnderRange
pressure_held Pressure.OverRange = ReplyV1.OverRange
pressure_held Faulty = Error Error1

-- what the gauge holds for a request
unfoldable pub held_v1 : State → RequestV1 → ReplyV1
held_v1 g Measure = pressure_held g.readings.p0
held_v1 g ReadFactor = Factor g.settings.factor
held_v1 g ReadUnit = Unit g.settings.unit
held_v1 g Unlock = Done
held_v1 g (SetFactor n) = Done
held_v1 g (SetUnit u) = Done

-- the error that the master reads for each number: 13 FAULT, 11 RANGE, 8 NO_DEF, and LOGIC for the others
unfoldable pub error_text_v1 : ℕ → ErrorText
error_text_v1 k = first (eqb k 13 ⇒ Error1 ∷ eqb k 11 ⇒ Range ∷ eqb k 8 ⇒ NoDef ∷ []) Logic

-- what the master is to read: what the gauge holds, where it accepts the request, and otherwise its error
unfoldable pub expected_v1 : State → RequestV1 → Result ReplyV1 Refusal
expected_v1 g r = pick (eqb (grant_v1 g r) 0) (Ok (held_v1 g r)) (Ok (Error (error_text_v1 (grant_v1 g r))))
