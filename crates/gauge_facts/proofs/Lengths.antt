-- "lent answer memory below 64 bytes" is ROOM: no reply is longer than that.
use mathlib.Core.Path.{◌≡◌, refl}
use mathlib.Core.Bool.{Bool, true, false, true≢false, and-eq-true_iff}
use mathlib.Core.List.{List}
use Prim.Native.Nat.{ℕ, ◌+◌, ◌≤◌}
use native.Mathlib.Omega.{arith}
use borrow.Author.Tests.{ltb-false, not-false}
use lib.Dec.{eqb, ltb}
use lib.ListN.{length, length-append}
use Rattle.std.specs.Prelude.{Err, Ok, Result}
use Rattle.buffer.specs.First.{pick}
use Rattle.buffer.specs.Byte.{at, within, is_digit}
use Rattle.buffer.proofs.Laws.{within_true, within_above}
use Rattle.buffer.proofs.Rules.{each}
use Rattle.frames.specs.Checksum.{end_of, closed}
use Rattle.frames.specs.Frame.{is_letter, length_fits, misshapen}
use Rattle.frames.specs.declared.HeadV1.{HeadV1}
use Rattle.frames.specs.declared.HeadV2.{HeadV2}
use Rattle.frame_writer.specs.Written.{frame_v1, frame_v2}
use Rattle.error_texts.specs.Texts.{error_of}
use Rattle.frame_writer.specs.Error.{error_data_v1}
use Rattle.error_texts.specs.declared.ErrorText.TheVariants.{Logic, Range}
use Rattle.forms_facts.proofs.Lemmas.Lists.{at_most_entries}
use Rattle.sources.specs.Source.{capacity}
use Rattle.printed_facts.proofs.Fits.{error_le, read_le}
use Rattle.readings.specs.Reading.{value_text}
use Rattle.readings.specs.Measure.{six_of, rounded_text, measure_text}
use Rattle.readings.specs.declared.Pressure.{Pressure}
use Rattle.readings.specs.declared.Pressure.TheVariants.{Measured, UnderRange, OverRange, Faulty}
use Rattle.readings.proofs.Laws.{value_le}
use Rattle.requests.specs.declared.Command.{Command}
use Rattle.requests.specs.declared.Command.TheVariants.{MV, T2, FN, FS, Of}
use Rattle.requests.specs.declared.RequestV2.{RequestV2}
use Rattle.requests.specs.declared.RequestV2.TheVariants.{Read, Restore, Set}
use Rattle.requests.specs.declared.RequestV1.{RequestV1}
use Rattle.requests.specs.declared.RequestV1.TheVariants.{Measure, ReadFactor, Unlock, SetFactor, ReadUnit, SetUnit}
use Rattle.gauge_rules.specs.State.{State}
use Rattle.gauge_rules.specs.RulesV2.{sent_text, text_v2}
use Rattle.gauge_rules_v1.specs.RulesV1.{text_v1}
use Rattle.gauge_table.specs.Asked.{is_v1}
use Rattle.gauge_table.specs.Table.{answer_room, number_of}
use Rattle.gauge_table.proofs.DecidedV2.{by}
use Rattle.gauge_table.specs.Reply.{accepted_v2, accepted_v1, reply_of}
use Rattle.gauge_facts.specs.Sound.{SoundState}
use Rattle.gauge_facts.specs.Theorems.{ReplyFits, WithinLent}
use Rattle.gauge_facts.proofs.Lemmas.Rows.{past_row}
use Rattle.refusals.specs.declared.Refusal.{Refusal}

length_v2 : (h : HeadV2) (d : List ℕ) → length (frame_v2 h d) ≡ length d + 10
unfolding frame_v2 closed end_of
length_v2 h d = simp length-append (omega arith)

length_v1 : (h : HeadV1) (d : List ℕ) → length (frame_v1 h d) ≡ length d + 6
unfolding frame_v1 closed end_of
length_v1 h d = simp length-append (omega arith)

-- ---- errors

abbrev Short : List ℕ → Type 0
Short d = length d ≤ 6

error_v1_le : (k : ℕ) → Short (error_data_v1 k)
unfolding error_data_v1
error_v1_le k =
    each Short (eqb k 8) _ _ (λ _. omega arith)
    (λ _. each Short (eqb k 11) _ _ (λ _. error_le Range)
    (λ _. each Short (eqb k 13) _ _ (λ _. omega arith) (λ _. error_le Logic)))

-- ---- V1's data

measure_le : (p : Pressure) → Short (measure_text p)
unfolding measure_text rounded_text six_of
measure_le (Measured n) = each Short _ _ _ (λ _. omega arith) (λ _. omega arith)
measure_le UnderRange = omega arith
measure_le OverRange = omega arith
measure_le Faulty = omega arith

text_v1_le : (g : State) (r : RequestV1) → Short (text_v1 g r)
unfolding text_v1
text_v1_le g Measure = measure_le g.readings.p0
text_v1_le g ReadFactor = omega arith
text_v1_le g Unlock = omega arith
text_v1_le g (SetFactor n) = omega arith
text_v1_le g ReadUnit = omega arith
text_v1_le g (SetUnit u) = omega arith

-- ---- V2's data; few says that a list has at most seven sources, as many as its array

module _ (g : State) (few : length g.settings.list ≤ capacity) where
  sent_le : (c : Command) → length (sent_text g c) ≤ 24
  unfolding sent_text value_text pick
  sent_le MV = omega (arith, value_le 0 g.readings)
  sent_le T2 = omega (arith, value_le 8 g.readings)
  sent_le FN = omega arith
  sent_le FS = omega arith
  sent_le (Of key) = read_le g.settings few key

  pub text_v2_le : (r : RequestV2) → length (text_v2 g r) ≤ 24
  unfolding text_v2
  text_v2_le (Read c) = sent_le c
  text_v2_le (Restore c) = omega arith
  text_v2_le (Set x) = omega arith

-- ---- a V1 request, which set replies repeat

no_digit : (b : ℕ) → is_letter b ≡ true → is_digit b ≡ false
unfolding is_letter
no_digit b e = go (within 65 90 b) refl
  where
    go : (t : Bool) → within 65 90 b ≡ t → is_digit b ≡ false
    go true h = let k = within_true 65 90 b h in within_above 48 57 b (omega (arith, k.0))
    go false h = let k = within_true 97 122 b (rw h at e) in within_above 48 57 b (omega (arith, k.0))

letter_le : (s : List ℕ) → is_v1 s ≡ true → length_fits s ≡ true → length s ≤ 12
unfolding length_fits pick
letter_le s l e = (within_true 6 12 (length s) (rw (no_digit (at s 3) l, l) at e)).1

v1_le : (s : List ℕ) → is_v1 s ≡ true → misshapen s ≡ false → length s ≤ 12
unfolding misshapen
v1_le s l = each (λ (x : Bool). x ≡ false → length s ≤ 12) _ _ _ (λ _ e. absurd (true≢false e)) (λ t _. letter_le s l (not-false _ t))

-- ---- replies

abbrev Fits : List ℕ → Type 0
Fits reply = length reply ≤ 64

module _ (g : State) (few : length g.settings.list ≤ capacity) where
  accepted_v2_le : (h : HeadV2) (a : Result RequestV2 Refusal) → Fits (accepted_v2 g h a)
  unfolding accepted_v2
  accepted_v2_le h (Ok r) = rw length_v2 (omega (arith, text_v2_le g few r))
  accepted_v2_le h (Err k) = omega arith

  accepted_v1_le : (s : List ℕ) (h : HeadV1) (a : Result RequestV1 Refusal) → length s ≤ 12 → Fits (accepted_v1 g s h a)
  unfolding accepted_v1
  accepted_v1_le s h (Ok r) k = each Fits _ _ _ (λ _. omega arith) (λ _. rw length_v1 (omega (arith, text_v1_le g r)))
  accepted_v1_le s h (Err n) k = omega arith

  shape_of : (room : ℕ) (s : List ℕ) → eqb (number_of g room s) 0 ≡ true → misshapen s ≡ false
  unfolding number_of
  shape_of room s e = (past_row (misshapen s) 2 _ refl (past_row _ 1 _ refl e).1).0

-- for any bytes and any memory lent
pub reply_fits : ReplyFits
unfolding reply_of
reply_fits g few room s =
    each Fits _ _ _ (λ _. omega arith)
    (λ _. each Fits _ _ _ (λ e. let h = (and-eq-true_iff (is_v1 s) _).0 e in accepted_v1_le g few s _ _ (v1_le s h.0 (shape_of g few room s h.1)))
    (λ _. each Fits _ _ _ (λ _. rw length_v1 (omega (arith, error_v1_le (number_of g room s))))
    (λ _. each Fits _ _ _ (λ _. accepted_v2_le g few _ _) (λ _. rw length_v2 (omega (arith, error_le (error_of (number_of g room s))))))))

-- in every state that calls reach
pub sound_fits : (g : State) → SoundState g → (room : ℕ) (s : List ℕ) → length (reply_of g s (number_of g room s)) ≤ 64
sound_fits g f = reply_fits g (omega (arith, at_most_entries g.limits f.proper g.settings.list f.settings.list, f.proper.few))

-- and it lies within the memory lent: below 64 bytes there is none
pub within_lent : WithinLent
unfolding number_of reply_of pick within
within_lent g f room s =
    by (ltb room answer_room)
    (λ e. rw e (omega arith))
    (λ e. omega (arith, sound_fits g f room s, ltb-false room answer_room e))
