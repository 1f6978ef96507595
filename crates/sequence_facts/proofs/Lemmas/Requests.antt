-- What an accepted request enters is what its bytes write.
use mathlib.Core.Path.{◌≡◌, refl, sym, ap, ◌∙◌}
use mathlib.Core.Bool.{true, false, true≢false, or-false, and-eq-true_iff}
use mathlib.Core.List.{List, [], ◌∷◌}
use mathlib.Core.Option.{none, some}
use Prim.Native.Nat.{ℕ}
use borrow.Author.Tests.{ne_eqb, eqb-true, not-false}
use lib.Dec.{eqb}
use lib.ListN.{length}
use Rattle.std.specs.Prelude.{Err, None, Ok, Option, Result, Some}
use Rattle.buffer.specs.First.{pick}
use Rattle.buffer.specs.Byte.{at, within, is_digit, every, same_text, numeral}
use Rattle.buffer.proofs.Rules.{each}
use Rattle.frames.specs.Frame.{is_letter, data_from, head_v2}
use Rattle.settings.specs.Limits.{ProfileLimits}
use Rattle.settings.specs.Settings.{Held, factory, factory_of, restore_of}
use Rattle.settings.specs.declared.Key.{Key}
use Rattle.settings.specs.declared.Key.TheVariants.{DA, DU, C1, CM, CC, FC, ST, SM}
use Rattle.settings.specs.declared.PressureUnit.{PressureUnit}
use Rattle.settings.specs.declared.PressureUnit.TheVariants.{Mbar, Torr, HPa}
use Rattle.settings.specs.declared.Setting.{Setting}
use Rattle.settings.specs.declared.Setting.TheVariants.{PressureIn, Factor}
use Rattle.forms.specs.Forms.{digit_data}
use Rattle.forms.specs.Judged.{verdict_of, list_in}
use Rattle.forms_facts.specs.Sound.{Proper}
use Rattle.forms_facts.proofs.Exactly.{accepted_exactly}
use Rattle.requests.specs.Command.{command_of, command_text, is_access, can_write, can_restore, lacks_access}
use Rattle.requests.specs.AskV2.{set_of, write_of, ask_known, ask_named, ask_v2, write_list, named_list, ask_list}
use Rattle.requests.specs.AskV1.{six_digits, bare_of, digit_one, one_of, unit_at, ask_v1}
use Rattle.requests.specs.declared.Command.{Command}
use Rattle.requests.specs.declared.Command.TheVariants.{MV, T2, FN, FS, Of}
use Rattle.requests.specs.declared.RequestV2.TheVariants.{Read, Restore}
use Rattle.requests.specs.declared.RequestV1.{RequestV1}
use Rattle.requests.specs.declared.RequestV1.TheVariants.{Measure, ReadFactor, Unlock, SetFactor, ReadUnit, SetUnit}
use Rattle.requests_facts.proofs.Commands.{named_exactly}
use Rattle.gauge_rules.specs.State.{State}
use Rattle.gauge_rules.specs.RulesV2.{enter_v2}
use Rattle.gauge_rules_v1.specs.RulesV1.{enter_v1}
use Rattle.gauge_table.specs.Asked.{is_v1, asked_v2, asked_v1}
use Rattle.gauge_table.specs.After.{entered_v2, entered_v1}
use Rattle.gauge_table.proofs.DecidedV2.{by}
use Rattle.gauge_table.specs.Decided.{decided_v2, decided_v1}
use Rattle.history.specs.Latest.{or_else}
use Rattle.sequence_facts.specs.Writes.{holding, unit_numbered, written_v2, written_v1, name_of, asks_for, writes}
use Rattle.sequence_facts.proofs.Lemmas.Settings.{every_key, beside_of, for_key, put_says, restore_says, wrote}
use Rattle.refusals.specs.declared.Refusal.{Refusal}
use Rattle.refusals.specs.Number.{refusal_number}
use native.Mathlib.Omega.{arith}
use Rattle.gauge_table.proofs.Numbers.{some_number}
use Rattle.requests.specs.declared.RequestV2.{RequestV2}

-- V1 writes with the letters `c` and `u` only
abbrev Quiet : ℕ → List ℕ → Key → Type 0
Quiet l d key = written_v1 key l d ≡ none

quiet : (l : ℕ) (d : List ℕ) (key : Key) → eqb l 117 ≡ false → eqb l 99 ≡ false → Quiet l d key
unfolding written_v1 pick
quiet l d key u c = every_key (Quiet l d) refl (rw u) (rw c) refl refl refl refl refl key

-- ---- V2

spelled : (k : Key) → command_text (Of k) ≡ name_of k
unfolding command_text name_of
spelled DA = refl
spelled DU = refl
spelled C1 = refl
spelled CM = refl
spelled CC = refl
spelled FC = refl
spelled ST = refl
spelled SM = refl

-- by the access code
module _ (limits : ProfileLimits) (key : Key) (s : List ℕ) where
  read_writes : at s 3 ≡ 48 → writes limits key s ≡ none
  unfolding writes asks_for pick
  read_writes e = rw e (quiet 48 (data_from 4 s) key refl refl)

  write_writes : (k : Key) → at s 3 ≡ 50 → at s 4 ∷ at s 5 ∷ [] ≡ name_of k
      → writes limits key s ≡ pick (same_text (name_of k) (name_of key)) (written_v2 key (data_from 8 s)) none
  unfolding writes asks_for pick
  write_writes k e n = rw (e, n, quiet 50 (data_from 4 s) key refl refl)

  restore_writes : (k : Key) → at s 3 ≡ 52 → at s 4 ∷ at s 5 ∷ [] ≡ name_of k
      → writes limits key s ≡ pick (same_text (name_of k) (name_of key)) (some (holding key (factory limits))) none
  unfolding writes asks_for pick
  restore_writes k e n = rw (e, n, quiet 52 (data_from 4 s) key refl refl)

module _ (m : State) (ok : Proper m.limits) (key : Key) (h : Held) (s : List ℕ) where
  abbrev Enters : Result RequestV2 Refusal → List ℕ → Type 0
  Enters a list = eqb (decided_v2 m a) 0 ≡ true → holding key (entered_v2 m.limits h list a) ≡ or_else (writes m.limits key s) (holding key h)

  refused : (k : Refusal) (list : List ℕ) → Enters (Err k) list
  unfolding decided_v2
  refused k list e = absurd (omega (arith, eqb-true (refusal_number k) 0 e, some_number k))

  reading : (c : Command) (list : List ℕ) → at s 3 ≡ 48 → Enters (Ok (Read c)) list
  unfolding entered_v2 enter_v2 or_else
  reading c list e _ = rw (read_writes m.limits key s e)

  module _ (k : Key) (name : at s 4 ∷ at s 5 ∷ [] ≡ name_of k) where
    restoring : (list : List ℕ) → at s 3 ≡ 52 → Enters (Ok (Restore (Of k))) list
    unfolding entered_v2 enter_v2 restore_of
    restoring list e _ = put_says key h (factory_of m.limits k) [] ∙ rw (restore_says m.limits k key, restore_writes m.limits key s k e name)

    writing : at s 3 ≡ 50 → (v : Result Setting Refusal) → verdict_of m.limits k (data_from 8 s) ≡ v → Enters (set_of v) (list_in m.limits k (data_from 8 s))
    unfolding set_of entered_v2 enter_v2
    writing e (Ok x) f =
        let w = (accepted_exactly m.limits ok k (data_from 8 s) x).0 f in
        let b = rw w.0 at (wrote m.limits ok key (data_from 8 s) x w.1 w.2) in
        λ _. put_says key h x (list_in m.limits k (data_from 8 s)) ∙ rw (b, write_writes m.limits key s k e name)
    writing e (Err n) f = refused n (list_in m.limits k (data_from 8 s))

  -- a write of a command that has it
  writes_it : (c : Command) → lacks_access (at s 3) c ≡ false → at s 4 ∷ at s 5 ∷ [] ≡ command_text c → at s 3 ≡ 50 → Enters (write_of m.limits c (data_from 8 s)) (write_list m.limits c (data_from 8 s))
  unfolding lacks_access can_write write_of write_list pick
  writes_it MV l n e = absurd (true≢false (rw e at l))
  writes_it T2 l n e = absurd (true≢false (rw e at l))
  writes_it FN l n e = absurd (true≢false (rw e at l))
  writes_it FS l n e = absurd (true≢false (rw e at l))
  writes_it (Of k) l n e = writing k (n ∙ spelled k) e (verdict_of m.limits k (data_from 8 s)) refl

  restores_it : (c : Command) (list : List ℕ) → lacks_access (at s 3) c ≡ false → at s 4 ∷ at s 5 ∷ [] ≡ command_text c → at s 3 ≡ 52 → Enters (Ok (Restore c)) list
  unfolding lacks_access can_restore pick
  restores_it MV list l n e = absurd (true≢false (rw e at l))
  restores_it T2 list l n e = absurd (true≢false (rw e at l))
  restores_it FN list l n e = absurd (true≢false (rw e at l))
  restores_it FS list l n e = absurd (true≢false (rw e at l))
  restores_it (Of k) list l n e = restoring k (n ∙ spelled k) list e

  -- the third access code
  read_code_lem : is_access (at s 3) ≡ true → eqb (at s 3) 50 ≡ false → eqb (at s 3) 52 ≡ false → at s 3 ≡ 48
  unfolding is_access
  read_code_lem a w r = eqb-true (at s 3) 48 (simp (w, r, or-false) at a)

  known : is_access (at s 3) ≡ true → (c : Command) → at s 4 ∷ at s 5 ∷ [] ≡ command_text c → Enters (ask_known m.limits (at s 3) c (data_from 8 s)) (named_list m.limits (at s 3) (Some c) (data_from 8 s))
  unfolding ask_known named_list pick
  known a c n =
      by (lacks_access (at s 3) c) (λ l. rw l (refused Refusal.Access []))
      (λ l. by (eqb (at s 3) 50) (λ w. rw (l, w) (writes_it c l n (eqb-true (at s 3) 50 w)))
      (λ w. by (eqb (length (data_from 8 s)) 0)
      (λ z. by (eqb (at s 3) 52) (λ r. rw (l, w, z, r) (restores_it c [] l n (eqb-true (at s 3) 52 r))) (λ r. rw (l, w, z, r) (reading c [] (read_code_lem a w r))))
      (λ z. rw (l, w, z) (refused Refusal.Syntax []))))

-- an accepted V2 request enters what its bytes write
module _ (m : State) (ok : Proper m.limits) (key : Key) (h : Held) (s : List ℕ) where
  named : is_access (at s 3) ≡ true → (n : Option Command) → command_of (at s 4) (at s 5) ≡ n → Enters m ok key h s (ask_named m.limits (at s 3) n (data_from 8 s)) (named_list m.limits (at s 3) n (data_from 8 s))
  unfolding ask_named named_list
  named a None e = refused m ok key h s Refusal.NoDef []
  named a (Some c) e = known m ok key h s a c ((named_exactly (at s 4) (at s 5) c).0 e)

  pub v2_says : eqb (decided_v2 m (asked_v2 m.limits s)) 0 ≡ true → holding key (entered_v2 m.limits h (ask_list m.limits (head_v2 s) (data_from 8 s)) (asked_v2 m.limits s)) ≡ or_else (writes m.limits key s) (holding key h)
  unfolding ask_v2 ask_list head_v2 pick
  v2_says = by (is_access (at s 3)) (λ a. rw a (named a (command_of (at s 4) (at s 5)) refl)) (λ a. rw a (refused m ok key h s Refusal.Code []))

-- ---- V1

module _ (limits : ProfileLimits) (key : Key) (s : List ℕ) (l : is_v1 s ≡ true) where
  no_code : (k : ℕ) → is_letter k ≡ false → eqb (at s 3) k ≡ false
  no_code k e = ne_eqb (at s 3) k (λ (z : at s 3 ≡ k). true≢false (sym l ∙ ap is_letter z ∙ e))

  letter_writes : writes limits key s ≡ written_v1 key (at s 3) (data_from 4 s)
  unfolding writes asks_for is_letter within pick
  letter_writes = rw (no_code 50 refl, no_code 52 refl)

module _ (m : State) (key : Key) (h : Held) (l : ℕ) (d : List ℕ) where
  abbrev EntersV1 : Result RequestV1 Refusal → Type 0
  EntersV1 a = eqb (decided_v1 m a) 0 ≡ true → holding key (entered_v1 h a) ≡ or_else (written_v1 key l d) (holding key h)

  denied : (k : Refusal) → EntersV1 (Err k)
  unfolding decided_v1
  denied k e = absurd (omega (arith, eqb-true (refusal_number k) 0 e, some_number k))

  -- a request that enters nothing, with another letter
  other : (r : RequestV1) → enter_v1 h r ≡ h → written_v1 key l d ≡ none → EntersV1 (Ok r)
  unfolding entered_v1 or_else
  other r e n _ = rw (e, n)

  bare_says : (r : RequestV1) → enter_v1 h r ≡ h → written_v1 key l d ≡ none → EntersV1 (bare_of d r)
  unfolding bare_of
  bare_says r e n = each EntersV1 _ _ _ (λ _. denied Refusal.Syntax) (λ _. other r e n)

  one_says : (r : RequestV1) → enter_v1 h r ≡ h → (length d ≡ 1 → written_v1 key l d ≡ none) → EntersV1 (one_of d r)
  unfolding one_of digit_data digit_one
  one_says r e n =
      each P _ _ _ (λ _. denied Refusal.Syntax) (λ a.
      each P _ _ _ (λ _. denied Refusal.Syntax) (λ _.
      each P _ _ _ (λ _. denied Refusal.Range) (λ _.
      each EntersV1 _ _ _ (λ _. denied Refusal.Range) (λ _. other r e (n (eqb-true (length d) 1 (not-false _ a)))))))
    where
      P : Result ℕ Refusal → Type 0
      P g = EntersV1 (digit_one g r)

-- the value that `c` and `u` put
abbrev Puts : ℕ → List ℕ → Setting → Key → Type 0
Puts l d x key = for_key key x [] ≡ written_v1 key l d

factor_put : (d : List ℕ) (key : Key) → length d ≡ 6 → Puts 99 d (Factor (numeral d)) key
unfolding for_key name_of same_text beside_of written_v1 pick
factor_put d key e = every_key (Puts 99 d (Factor (numeral d))) refl refl (rw e) refl refl refl refl refl key

unit_put : (d : List ℕ) (u : PressureUnit) (key : Key) → unit_numbered (numeral d) ≡ some (PressureIn u, []) → Puts 117 d (PressureIn u) key
unfolding for_key name_of same_text beside_of written_v1 pick
unit_put d u key e = every_key (Puts 117 d (PressureIn u)) refl (rw e) refl refl refl refl refl refl key

module _ (m : State) (key : Key) (h : Held) (d : List ℕ) where
  factor_says : six_digits d ≡ true → EntersV1 m key h 99 d (Ok (SetFactor (numeral d)))
  unfolding entered_v1 enter_v1 six_digits
  factor_says s _ =
      let n = eqb-true (length d) 6 ((and-eq-true_iff (eqb (length d) 6) (every is_digit d)).0 s).0 in
      put_says key h (Factor (numeral d)) [] ∙ rw (factor_put d key n)

  unit_set : (u : PressureUnit) → unit_numbered (numeral d) ≡ some (PressureIn u, []) → EntersV1 m key h 117 d (Ok (SetUnit u))
  unfolding entered_v1 enter_v1
  unit_set u e = λ _. put_says key h (PressureIn u) [] ∙ rw (unit_put d u key e)

  unit_says : EntersV1 m key h 117 d (unit_at (numeral d))
  unfolding unit_at unit_numbered pick
  unit_says =
      by (eqb (numeral d) 0) (λ e. rw e (unit_set Mbar (rw e))) (λ a.
      by (eqb (numeral d) 1) (λ e. rw (a, e) (unit_set Torr (rw (a, e)))) (λ b.
      by (eqb (numeral d) 2) (λ e. rw (a, b, e) (unit_set HPa (rw (a, b, e)))) (λ e. rw (a, b, e) (denied m key h 117 d Refusal.Range))))

  -- `c` with one digit writes nothing
  one_quiet : length d ≡ 1 → Quiet 99 d key
  unfolding written_v1 pick
  one_quiet e = every_key (Quiet 99 d) refl refl (rw e) refl refl refl refl refl key

  letter_c : EntersV1 m key h 99 d (ask_v1 99 d)
  unfolding ask_v1 enter_v1 pick
  letter_c = each (EntersV1 m key h 99 d) (six_digits d) _ _ factor_says (λ _. one_says m key h 99 d Unlock refl one_quiet)

  letter_u : EntersV1 m key h 117 d (ask_v1 117 d)
  unfolding ask_v1 pick
  letter_u = each (EntersV1 m key h 117 d) (six_digits d) _ _ (λ _. unit_says) (λ _. denied m key h 117 d Refusal.Syntax)

  other_letter_lem : (l : ℕ) → eqb l 99 ≡ false → eqb l 117 ≡ false → EntersV1 m key h l d (ask_v1 l d)
  unfolding ask_v1 enter_v1
  other_letter_lem l c u =
      let n : Quiet l d key = quiet l d key u c in
      each (EntersV1 m key h l d) _ _ _ (λ _. bare_says m key h l d Measure refl n) (λ _.
      each (EntersV1 m key h l d) _ _ _ (λ _. one_says m key h l d ReadFactor refl (λ _. n)) (λ _.
      each (EntersV1 m key h l d) _ _ _ (λ e. absurd (true≢false (sym e ∙ c))) (λ _.
      each (EntersV1 m key h l d) _ _ _ (λ _. bare_says m key h l d ReadUnit refl n) (λ _.
      each (EntersV1 m key h l d) _ _ _ (λ e. absurd (true≢false (sym e ∙ u))) (λ _. denied m key h l d Refusal.NoDef)))))

  any_letter : (l : ℕ) → EntersV1 m key h l d (ask_v1 l d)
  any_letter l =
      by (eqb l 99) (λ e. rw (eqb-true l 99 e) letter_c)
      (λ c. by (eqb l 117) (λ e. rw (eqb-true l 117 e) letter_u) (other_letter_lem l c))

-- an accepted V1 request enters what its bytes write
pub v1_says : (m : State) (key : Key) (h : Held) (s : List ℕ) → is_v1 s ≡ true → eqb (decided_v1 m (asked_v1 s)) 0 ≡ true
    → holding key (entered_v1 h (asked_v1 s)) ≡ or_else (writes m.limits key s) (holding key h)
v1_says m key h s l e = rw (letter_writes m.limits key s l) (any_letter m key h (data_from 4 s) (at s 3) e)
