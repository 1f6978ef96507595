-- What the text gauge answers to a V1 request is read by the master as the value, or the error, that the gauge holds.
use mathlib.Core.Path.{◌≡◌, refl, ◌∙◌}
use mathlib.Core.Bool.{Bool, true, false, not, false≢true, true≢false}
use mathlib.Core.List.{List, [], ◌∷◌}
use mathlib.Core.Logic.{◌⊎◌, inl, inr}
use Prim.Native.Nat.{ℕ, ◌+◌, ◌/◌, ◌≤◌}
use native.Mathlib.Omega.{arith}
use borrow.Author.Tests.{eq-eqb, eqb-true, eqb-false, le-ltb}
use lib.Dec.{eqb}
use Rattle.std.specs.Prelude.{Ok, Result}
use Rattle.buffer.specs.First.{pick}
use Rattle.buffer.specs.Byte.{at, within, every, same_text}
use Rattle.buffer.proofs.Laws.{within_in}
use Rattle.buffer.proofs.Rules.{each}
use Rattle.frames.specs.Frame.{is_letter, data_from, head_v1, frame_of}
use Rattle.frames.specs.declared.Frame.TheVariants.{V1}
use Rattle.frame_writer.specs.Written.{frame_v1}
use Rattle.error_texts.specs.Texts.{error_bytes}
use Rattle.frame_writer.specs.Error.{error_letter_v1, error_data_v1, error_head_v1}
use Rattle.error_texts.specs.declared.ErrorText.{ErrorText}
use Rattle.error_texts.specs.declared.ErrorText.TheVariants.{Logic, NoDef, Range, Error1}
use Rattle.readings.specs.Reading.{faulty_pressure}
use Rattle.readings.specs.Measure.{measure_text}
use Rattle.requests.specs.AskV1.{ask_v1}
use Rattle.requests.specs.declared.RequestV1.{RequestV1}
use Rattle.requests.specs.declared.RequestV1.TheVariants.{Measure, ReadFactor, Unlock, SetFactor, ReadUnit, SetUnit}
use Rattle.request_texts.specs.RequestText.{digits6, letter_v1, data_v1, head_for_v1}
use Rattle.settings.specs.Units.{unit_code}
use Rattle.printed_facts.proofs.Sendable as printed
use Rattle.printed_facts.proofs.Sendable as printed
use Rattle.replies_v1.specs.ReplyV1.{value_v1, read_v1}
use Rattle.replies_v1.specs.declared.ReplyV1.TheVariants.{Reads, Done, Error}
use Rattle.gauge_rules.specs.State.{State}
use Rattle.gauge_rules_v1.specs.RulesV1.{factor_number, grant_v1, text_v1, repeats}
use Rattle.gauge_table.specs.Reply.{error_v1, accepted_v1, reply_of}
use Rattle.gauge_table.specs.Decided.{decided_v1}
use Rattle.gauge_table.proofs.Numbers.{number_v1}
use Rattle.gauge_table.specs.Table.{number_of}
use Rattle.gauge_table.specs.After.{answer_of}
use Rattle.gauge_facts.specs.Sound.{SoundState}
use Rattle.exchange_v1_facts.specs.HeldV1.{rounded_v1, held_v1, error_text_v1, expected_v1}
use Rattle.exchange_v1_facts.specs.Theorems.{NearestHeld, AnswerReadV1}
use Rattle.exchange_v1_facts.proofs.Lemmas.Rows.{Seen, seen, frame_read, digits_read}
use Rattle.exchange_v1_facts.proofs.Lemmas.Values.{six_are, echo_held, factor_held, unit_held, fault_held, measure_digits, pressure_held_lem}
use Rattle.refusals.specs.declared.Refusal.{Refusal}
use Rattle.replies_v1.specs.declared.ReplyV1.{ReplyV1}
use Rattle.decimal.specs.declared.Number.{Number}

-- ---- a set's reply

-- "Set replies repeat the request.": the repeated request is read as done
pub echo_read_v1 : (a : ℕ) (r : RequestV1) → within 1 999 a ≡ true → repeats r ≡ true → read_v1 a r (frame_v1 (head_for_v1 a r) (data_v1 r)) ≡ Ok Done
unfolding repeats data_v1 value_v1 every within
echo_read_v1 a Measure i e = absurd (false≢true e)
echo_read_v1 a ReadFactor i e = absurd (false≢true e)
echo_read_v1 a Unlock i e = digits_read a Unlock (49 ∷ []) i refl (omega arith) ∙ echo_held Unlock
echo_read_v1 a (SetFactor n) i e = digits_read a (SetFactor n) (digits6 n) i (six_are n) (omega arith) ∙ echo_held (SetFactor n)
echo_read_v1 a ReadUnit i e = absurd (false≢true e)
echo_read_v1 a (SetUnit u) i e = digits_read a (SetUnit u) (digits6 (unit_code u)) i (six_are (unit_code u)) (omega arith) ∙ echo_held (SetUnit u)

-- ---- errors

module _ (a : ℕ) (r : RequestV1) (i : within 1 999 a ≡ true) where
  -- "V1's 13 sends `M` with the data `1`."
  fault_read : r ≡ Measure → read_v1 a r (error_v1 13 (head_for_v1 a r)) ≡ Ok (Error Error1)
  unfolding error_head_v1 error_letter_v1 error_data_v1 value_v1 every within letter_v1 pick
  fault_read e = rw e (digits_read a Measure (49 ∷ []) i refl (omega arith) ∙ fault_held)

  -- `NO_DEF` for letter and data, whatever was asked
  no_def_read : read_v1 a r (error_v1 8 (head_for_v1 a r)) ≡ Ok (Error NoDef)
  unfolding error_head_v1 error_letter_v1 error_data_v1 error_bytes is_letter every within same_text pick
  no_def_read = frame_read a 78 r (79 ∷ 95 ∷ 68 ∷ 69 ∷ 70 ∷ []) (record { address_in = i; letter_in = refl; bytes_in = refl; few = omega arith })

  -- the letter and `_RANGE`
  range_read : read_v1 a r (error_v1 11 (head_for_v1 a r)) ≡ Ok (Error Range)
  unfolding error_head_v1 error_letter_v1 error_data_v1 error_bytes every within same_text pick
  range_read =
      frame_read a (letter_v1 r) r (95 ∷ 82 ∷ 65 ∷ 78 ∷ 71 ∷ 69 ∷ []) (record { address_in = i; letter_in = printed.letter_in r; bytes_in = refl; few = omega arith })
      ∙ rw (eq-eqb (letter_v1 r) (letter_v1 r) refl)

  -- any other number: the letter and `_LOGIC`
  logic_read : (k : ℕ) → eqb k 13 ≡ false → eqb k 11 ≡ false → eqb k 8 ≡ false → read_v1 a r (error_v1 k (head_for_v1 a r)) ≡ Ok (Error Logic)
  unfolding error_head_v1 error_letter_v1 error_data_v1 error_bytes every within same_text pick
  logic_read k p q z =
      rw (p, q, z)
      (frame_read a (letter_v1 r) r (95 ∷ 76 ∷ 79 ∷ 71 ∷ 73 ∷ 67 ∷ []) (record { address_in = i; letter_in = printed.letter_in r; bytes_in = refl; few = omega arith })
      ∙ rw (eq-eqb (letter_v1 r) (letter_v1 r) refl))

  -- an error's reply is read as its error, whatever the number; 13 answers a measurement only
  pub error_read_v1 : (k : ℕ) → (k ≡ 13 → r ≡ Measure) → read_v1 a r (error_v1 k (head_for_v1 a r)) ≡ Ok (Error (error_text_v1 k))
  unfolding error_text_v1
  error_read_v1 k m =
      each Reads-as (eqb k 13) _ _ (λ e. let z = eqb-true k 13 e in rw z (fault_read (m z)))
      (λ p. each Reads-as (eqb k 11) _ _ (λ e. rw (eqb-true k 11 e) range_read)
      (λ q. each Reads-as (eqb k 8) _ _ (λ e. rw (eqb-true k 8 e) no_def_read) (λ z. logic_read k p q z)))
    where
      Reads-as : ErrorText → Type 0
      Reads-as t = read_v1 a r (error_v1 k (head_for_v1 a r)) ≡ Ok (Error t)

-- ---- values

-- the pressure is told as the nearest four digits, the upper of two that are as near, with its exponent plus 20; 10000 is told as 1000 with the
-- exponent one higher
pub nearest_held : NearestHeld
unfolding rounded_v1 pick
nearest_held n f = (q, record { low = omega arith; high = omega arith }, go (eqb q 10000) refl)
  where
    q : ℕ
    q = (n.mantissa + 50) / 100

    go : (b : Bool) → eqb q 10000 ≡ b → ((q ≤ 9999) × (rounded_v1 n ≡ Reads q (n.place + 11))) ⊎ ((q ≡ 10000) × (rounded_v1 n ≡ Reads 1000 (n.place + 12)))
    go true h = inr (eqb-true q 10000 h, rw h)
    go false h = inl (omega (arith, eqb-false q 10000 h, f.high), rw h)

-- the reply to a request that reads is read as what the gauge holds
pub reply_read_v1 : (g : State) (a : ℕ) (r : RequestV1) → SoundState g → within 1 999 a ≡ true → repeats r ≡ false → read_v1 a r (frame_v1 (head_for_v1 a r) (text_v1 g r)) ≡ Ok (held_v1 g r)
unfolding repeats text_v1 held_v1 value_v1
reply_read_v1 g a Measure f i e =
    let d = measure_digits g.readings.p0 in
    digits_read a Measure (measure_text g.readings.p0) i d.0 d.1 ∙ pressure_held_lem g.readings.p0 f.readings.p0
reply_read_v1 g a ReadFactor f i e =
    digits_read a ReadFactor (digits6 g.settings.factor) i (six_are g.settings.factor) (omega arith)
    ∙ factor_held g.settings.factor f.settings.factor.0 f.settings.factor.1
reply_read_v1 g a ReadUnit f i e =
    digits_read a ReadUnit (digits6 (unit_code g.settings.unit)) i (six_are (unit_code g.settings.unit)) (omega arith) ∙ unit_held g.settings.unit
reply_read_v1 g a Unlock f i e = absurd (true≢false e)
reply_read_v1 g a (SetFactor n) f i e = absurd (true≢false e)
reply_read_v1 g a (SetUnit u) f i e = absurd (true≢false e)

-- ---- the whole way

-- the gauge is not silent on a request; it refuses only a measurement with 13
abbrev Number-of : RequestV1 → ℕ → Type 0
Number-of r k = (within 1 5 k ≡ false) × (k ≡ 13 → r ≡ Measure)

grant_number : (g : State) (r : RequestV1) → Number-of r (grant_v1 g r)
unfolding grant_v1 factor_number within
grant_number g Measure = each (Number-of Measure) (faulty_pressure g.readings.p0) 13 0 (λ _. (refl, λ _. refl)) (λ _. (refl, λ _. refl))
grant_number g ReadFactor = (refl, λ e. absurd (omega arith))
grant_number g Unlock = (refl, λ e. absurd (omega arith))
grant_number g (SetFactor n) =
    each (Number-of (SetFactor n)) (not g.unlocked) 12 _ (λ _. (refl, λ e. absurd (omega arith)))
    (λ _. each (Number-of (SetFactor n)) _ 11 0 (λ _. (refl, λ e. absurd (omega arith))) (λ _. (refl, λ e. absurd (omega arith))))
grant_number g ReadUnit = (refl, λ e. absurd (omega arith))
grant_number g (SetUnit u) = (refl, λ e. absurd (omega arith))

done_held : (g : State) (r : RequestV1) → repeats r ≡ true → held_v1 g r ≡ Done
unfolding repeats held_v1
done_held g Measure e = absurd (false≢true e)
done_held g ReadFactor e = absurd (false≢true e)
done_held g Unlock e = refl
done_held g (SetFactor n) e = refl
done_held g ReadUnit e = absurd (false≢true e)
done_held g (SetUnit u) e = refl

-- a request r that was sent to the gauge's own address a as the bytes s, which the gauge reads as that request
module _
    (g : State) (room a : ℕ) (r : RequestV1) (s : List ℕ)
    (sound : SoundState g)
    (own : a ≡ g.settings.address)
    (enough : 64 ≤ room)
    (sent : s ≡ frame_v1 (head_for_v1 a r) (data_v1 r))
    (framed : frame_of s ≡ Ok (V1 (head_for_v1 a r)))
    (asked : ask_v1 (letter_v1 r) (data_from 4 s) ≡ Ok r)
  where
    inside : within 1 999 a ≡ true
    inside = let h = sound.settings.address in within_in 1 999 a (omega (arith, own, h.0)) (omega (arith, own, h.1))

    was-seen : Seen a (letter_v1 r) s
    was-seen = seen a (letter_v1 r) s framed

    asks : ask_v1 (at s 3) (data_from 4 s) ≡ Ok r
    asks = rw was-seen.letter asked

    number_is : number_of g room s ≡ grant_v1 g r
    unfolding decided_v1
    number_is =
        number_v1 s g room (le-ltb room 64 enough) was-seen.framed (rw (was-seen.address, own, eq-eqb g.settings.address g.settings.address refl)) was-seen.letter_in
        ∙ rw asks

    head_is : head_v1 s ≡ head_for_v1 a r
    unfolding head_v1
    head_is = rw (was-seen.address, was-seen.letter)

    accepted : eqb (grant_v1 g r) 0 ≡ true → reply_of g s (grant_v1 g r) ≡ pick (repeats r) s (frame_v1 (head_for_v1 a r) (text_v1 g r))
    unfolding reply_of accepted_v1 pick
    accepted e = rw ((grant_number g r).0, was-seen.letter_in, e, asks, head_is)

    refused : eqb (grant_v1 g r) 0 ≡ false → reply_of g s (grant_v1 g r) ≡ error_v1 (grant_v1 g r) (head_for_v1 a r)
    unfolding reply_of pick
    refused e = rw ((grant_number g r).0, was-seen.letter_in, e, head_is)

    accepted_read : read_v1 a r (pick (repeats r) s (frame_v1 (head_for_v1 a r) (text_v1 g r))) ≡ Ok (held_v1 g r)
    accepted_read =
        each (λ (t : List ℕ). read_v1 a r t ≡ Ok (held_v1 g r)) (repeats r) _ _
        (λ e. rw (sent, done_held g r e) (echo_read_v1 a r inside e))
        (λ e. reply_read_v1 g a r sound inside e)

-- a request that was sent, answered with at least 64 bytes lent and read again
pub answer_read_v1 : AnswerReadV1
unfolding answer_of expected_v1
answer_read_v1 g room a r s sound own enough sent framed asked =
    rw (number_is g room a r s sound own enough sent framed asked)
    (each (λ (x : Result ReplyV1 Refusal). read_v1 a r (reply_of g s (grant_v1 g r)) ≡ x) (eqb (grant_v1 g r) 0) _ _
    (λ e. rw (accepted g room a r s sound own enough sent framed asked e) (accepted_read g room a r s sound own enough sent framed asked))
    (λ e. rw (refused g room a r s sound own enough sent framed asked e) (error_read_v1 a r (inside g room a r s sound own enough sent framed asked) (grant_v1 g r) (grant_number g r).1)))
