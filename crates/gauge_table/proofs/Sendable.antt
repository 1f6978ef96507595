-- Every reply of the gauge can be sent: a frame can carry its head and its data.
use mathlib.Core.Path.{◌≡◌, refl}
use mathlib.Core.Bool.{true}
use mathlib.Core.List.{List, []}
use Prim.Native.Nat.{ℕ, ◌≤◌}
use native.Mathlib.Omega.{arith}
use lib.ListN.{length}
use Rattle.buffer.specs.Byte.{within, is_digit, every, Printed}
use Rattle.buffer.proofs.Rules.{each}
use Rattle.frames.specs.Frame.{is_letter}
use Rattle.frames.specs.declared.HeadV1.{HeadV1}
use Rattle.frames.specs.declared.HeadV2.{HeadV2}
use Rattle.error_texts.specs.Texts.{error_bytes}
use Rattle.frame_writer.specs.Error.{error_head_v2, error_letter_v1, error_data_v1, error_head_v1}
use Rattle.error_texts.specs.declared.ErrorText.{ErrorText}
use Rattle.error_texts.specs.declared.ErrorText.TheVariants.{Logic, Range}
use Rattle.frame_writer.specs.Sendable.{SendableV2, SendableV1}
use Rattle.requests.specs.declared.Command.{Command}
use Rattle.requests.specs.declared.Command.TheVariants.{MV, T2, FN, FS, Of}
use Rattle.requests.specs.declared.RequestV2.{RequestV2}
use Rattle.requests.specs.declared.RequestV2.TheVariants.{Read, Restore, Set}
use Rattle.requests.specs.declared.RequestV1.{RequestV1}
use Rattle.requests.specs.declared.RequestV1.TheVariants.{Measure, ReadFactor, Unlock, SetFactor, ReadUnit, SetUnit}
use Rattle.settings.specs.Units.{unit_code}
use Rattle.printed_facts.proofs.Printed.{digit_printed, digits6_printed, read_printed, pressure_printed, temperature_printed, measure_printed, error_printed}
use Rattle.printed_facts.proofs.Fits.{error_le}
use Rattle.gauge_rules.specs.State.{State}
use Rattle.gauge_rules.specs.RulesV2.{answer_code, sent_text, text_v2}
use Rattle.gauge_rules_v1.specs.RulesV1.{text_v1}
use Rattle.gauge_table.specs.Reply.{answer_head}

none : Printed []
unfolding every
none = refl

-- ---- V2

sent_printed : (g : State) (c : Command) → Printed (sent_text g c)
unfolding sent_text
sent_printed g MV = pressure_printed g.readings.p0
sent_printed g T2 = temperature_printed g.readings.t2
sent_printed g FN = digit_printed _ [] none
sent_printed g FS = digit_printed _ [] none
sent_printed g (Of key) = read_printed key g.settings

pub text_printed : (g : State) (r : RequestV2) → Printed (text_v2 g r)
unfolding text_v2
text_printed g (Read c) = sent_printed g c
text_printed g (Restore c) = none
text_printed g (Set x) = none

-- "read 0 is answered by 1, write 2 by 3, factory default 4 by 5"
pub code_digit : (r : RequestV2) → is_digit (answer_code r) ≡ true
unfolding answer_code within
code_digit (Read c) = refl
code_digit (Restore c) = refl
code_digit (Set x) = refl

-- a head that can be sent, with a code and data of its own
pub answer_sendable : (h : HeadV2) (code : ℕ) (s : List ℕ) → SendableV2 h [] → is_digit code ≡ true → Printed s → length s ≤ 99 → SendableV2 (answer_head h code) s
answer_sendable h code s ok c p n =
    record { address_in = ok.address_in; access_in = c; first_in = ok.first_in; second_in = ok.second_in; bytes_in = p; few = n }

pub error_sendable_v2 : (h : HeadV2) (e : ErrorText) → SendableV2 h [] → SendableV2 (error_head_v2 h) (error_bytes e)
unfolding error_head_v2 within
error_sendable_v2 h e ok = answer_sendable h 55 (error_bytes e) ok refl (error_printed e) (omega (arith, error_le e))

-- ---- V1

pub text_printed_v1 : (g : State) (r : RequestV1) → Printed (text_v1 g r)
unfolding text_v1
text_printed_v1 g Measure = measure_printed g.readings.p0
text_printed_v1 g ReadFactor = digits6_printed g.settings.factor
text_printed_v1 g Unlock = none
text_printed_v1 g (SetFactor n) = none
text_printed_v1 g ReadUnit = digits6_printed (unit_code g.settings.unit)
text_printed_v1 g (SetUnit u) = none

-- data that a V1 frame can carry
abbrev Six : List ℕ → Type 0
Six s = Printed s × (length s ≤ 6)

error_six : (e : ErrorText) → Six (error_bytes e)
error_six e = (error_printed e, error_le e)

error_data_v1_lem : (k : ℕ) → Six (error_data_v1 k)
unfolding error_data_v1 every within
error_data_v1_lem k = each Six _ _ _ (λ _. (refl, omega arith)) (λ _. each Six _ _ _ (λ _. error_six Range) (λ _. each Six _ _ _ (λ _. (refl, omega arith)) (λ _. error_six Logic)))

error_letter_v1_lem : (k l : ℕ) → is_letter l ≡ true → is_letter (error_letter_v1 k l) ≡ true
unfolding error_letter_v1 is_letter within
error_letter_v1_lem k l e = each (λ (x : ℕ). is_letter x ≡ true) _ _ _ (λ _. refl) (λ _. each (λ (x : ℕ). is_letter x ≡ true) _ _ _ (λ _. refl) (λ _. e))

-- a head that can be sent, with data of its own
pub data_sendable_v1 : (h : HeadV1) (s : List ℕ) → SendableV1 h [] → Printed s → length s ≤ 6 → SendableV1 h s
data_sendable_v1 h s ok p n = record { address_in = ok.address_in; letter_in = ok.letter_in; bytes_in = p; few = n }

pub error_sendable_v1 : (k : ℕ) (h : HeadV1) → SendableV1 h [] → SendableV1 (error_head_v1 k h) (error_data_v1 k)
unfolding error_head_v1
error_sendable_v1 k h ok =
    let d = error_data_v1_lem k in
    record { address_in = ok.address_in; letter_in = error_letter_v1_lem k h.letter ok.letter_in; bytes_in = d.0; few = d.1 }
