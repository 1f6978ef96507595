-- From a typed request, decided, to the table: the same answer and the same state afterwards.
use mathlib.Core.Path.{◌≡◌, refl, sym}
use mathlib.Core.Bool.{Bool, true, false, cond, ◌&&◌, and-false}
use mathlib.Core.List.{List}
use mathlib.Core.Logic.{◌⊎◌, inl, inr}
use Prim.Native.Nat.{ℕ, ◌≤◌}
use native.Mathlib.Omega.{arith}
use borrow.Author.Tests.{ne_eqb}
use lib.Dec.{eqb}
use Rattle.std.specs.Prelude.{Err, None, Ok, Option, Result, Some}
use Rattle.buffer.specs.First.{pick}
use Rattle.buffer.specs.Byte.{at, within}
use Rattle.buffer.specs.Answer.{Answer, silent}
use Rattle.buffer.proofs.Laws.{within_true, within_above, within_below}
use Rattle.buffer.proofs.Rules.{each}
use Rattle.frames.specs.Frame.{is_letter, data_from, head_v1, head_v2}
use Rattle.frames.specs.declared.HeadV2.{HeadV2}
use Rattle.settings.specs.Limits.{ProfileLimits}
use Rattle.forms.specs.Judged.{verdict_of}
use Rattle.forms.specs.Forms.{digit_data}
use Rattle.requests.specs.Command.{command_of}
use Rattle.requests.specs.AskV2.{set_of, write_of, ask_known, ask_named, ask_v2, ask_list}
use Rattle.requests.specs.AskV1.{bare_of, digit_one, one_of, unit_at, ask_v1}
use Rattle.requests.specs.declared.Command.{Command}
use Rattle.requests.specs.declared.Command.TheVariants.{MV, T2, FN, FS, Of}
use Rattle.requests.specs.declared.RequestV2.{RequestV2}
use Rattle.requests.specs.declared.RequestV1.{RequestV1}
use Rattle.requests.specs.declared.RequestV1.TheVariants.{Measure, ReadFactor, Unlock, SetFactor, ReadUnit, SetUnit}
use Rattle.requests_facts.proofs.Data.{refused_data}
use Rattle.gauge_rules.specs.State.{State, settled, unlocked_as}
use Rattle.gauge_rules.specs.RulesV2.{grant_v2}
use Rattle.gauge_rules_v1.specs.RulesV1.{factor_number, grant_v1}
use Rattle.gauge_table.specs.Asked.{asked_v2, asked_v1}
use Rattle.gauge_table.specs.Table.{number_of}
use Rattle.gauge_table.specs.Reply.{error_v2, accepted_v2, accepted_v1, reply_of}
use Rattle.gauge_table.specs.After.{answer_of, entered_v2, entered_v1, asks_unlock, afterwards, next_of}
use Rattle.gauge_table.specs.Decided.{decided_v2, decided_v1}
use Rattle.text_gauge.specs.Inner.{answer_v2, next_v2, answer_v1, next_v1}
use Rattle.refusals.specs.declared.Refusal.{Refusal}
use Rattle.refusals.specs.Number.{refusal_number}
use Rattle.settings.specs.declared.Setting.{Setting}
use Rattle.settings.specs.Settings.{Held}

-- ---- what is not silent: 0, or 6 and above

Loud : ℕ → Type 0
Loud k = (k ≡ 0) ⊎ (6 ≤ k)

loud_within : (k : ℕ) → Loud k → within 1 5 k ≡ false
unfolding Loud
loud_within k (inl e) = within_below 1 5 k (omega arith)
loud_within k (inr h) = within_above 1 5 k h

grant_v2_loud : (g : State) (r : RequestV2) → Loud (grant_v2 g r)
unfolding grant_v2 Loud
grant_v2_loud g r = each Loud _ _ _ (λ _. inr (omega arith)) (λ _. each Loud _ _ _ (λ _. inr (omega arith)) (λ _. inl refl))

grant_v1_loud : (g : State) (r : RequestV1) → Loud (grant_v1 g r)
unfolding grant_v1 factor_number Loud
grant_v1_loud g Measure = each Loud _ _ _ (λ _. inr (omega arith)) (λ _. inl refl)
grant_v1_loud g ReadFactor = inl refl
grant_v1_loud g Unlock = inl refl
grant_v1_loud g (SetFactor n) = each Loud _ _ _ (λ _. inr (omega arith)) (λ _. each Loud _ _ _ (λ _. inr (omega arith)) (λ _. inl refl))
grant_v1_loud g ReadUnit = inl refl
grant_v1_loud g (SetUnit u) = inl refl

-- a refusal of what a frame asks is 6 or above
abbrev Late : {A : Type 0} → Result A Refusal → Type 0
Late (Ok r) = Unit {0}
Late (Err k) = 6 ≤ refusal_number k

late_set : (v : Result Setting Refusal) → ((k : Refusal) → v ≡ Err k → (k ≡ Refusal.Syntax) ⊎ ((k ≡ Refusal.Range) ⊎ (k ≡ Refusal.Logic))) → Late (set_of v)
unfolding set_of
late_set (Ok x) f = tt
late_set (Err k) f = go (f k refl)
  where
    go : (k ≡ Refusal.Syntax) ⊎ ((k ≡ Refusal.Range) ⊎ (k ≡ Refusal.Logic)) → 6 ≤ refusal_number k
    go (inl e) = rw e (omega arith)
    go (inr (inl e)) = rw e (omega arith)
    go (inr (inr e)) = rw e (omega arith)

late_write : (limits : ProfileLimits) (c : Command) (d : List ℕ) → Late (write_of limits c d)
unfolding write_of
late_write limits MV d = omega arith
late_write limits T2 d = omega arith
late_write limits FN d = omega arith
late_write limits FS d = omega arith
late_write limits (Of key) d = late_set (verdict_of limits key d) (refused_data limits key d)

late_known : (limits : ProfileLimits) (a : ℕ) (c : Command) (d : List ℕ) → Late (ask_known limits a c d)
unfolding ask_known
late_known limits a c d = each Late _ _ _ (λ _. omega arith) (λ _. each Late _ _ _ (λ _. late_write limits c d) (λ _. each Late _ _ _ (λ _. omega arith) (λ _. each Late _ _ _ (λ _. tt) (λ _. tt))))

late_named : (limits : ProfileLimits) (a : ℕ) (n : Option Command) (d : List ℕ) → Late (ask_named limits a n d)
unfolding ask_named
late_named limits a None d = omega arith
late_named limits a (Some c) d = late_known limits a c d

late_v2 : (limits : ProfileLimits) (h : HeadV2) (d : List ℕ) → Late (ask_v2 limits h d)
unfolding ask_v2
late_v2 limits h d = each Late _ _ _ (λ _. omega arith) (λ _. late_named limits h.access (command_of h.first h.second) d)

late_bare : (d : List ℕ) (r : RequestV1) → Late (bare_of d r)
unfolding bare_of
late_bare d r = each Late _ _ _ (λ _. omega arith) (λ _. tt)

late_digit : (d : List ℕ) → Late (digit_data 9 d)
unfolding digit_data
late_digit d = each Late _ _ _ (λ _. omega arith) (λ _. each Late _ _ _ (λ _. omega arith) (λ _. each Late _ _ _ (λ _. omega arith) (λ _. tt)))

late_one : (v : Result ℕ Refusal) (r : RequestV1) → Late v → Late (digit_one v r)
unfolding digit_one
late_one (Ok v) r h = each Late _ _ _ (λ _. omega arith) (λ _. tt)
late_one (Err k) r h = h

late_unit : (n : ℕ) → Late (unit_at n)
unfolding unit_at
late_unit n = each Late _ _ _ (λ _. tt) (λ _. each Late _ _ _ (λ _. tt) (λ _. each Late _ _ _ (λ _. tt) (λ _. omega arith)))

late_v1 : (l : ℕ) (d : List ℕ) → Late (ask_v1 l d)
unfolding ask_v1 one_of
late_v1 l d =
    each Late _ _ _ (λ _. late_bare d Measure) (λ _.
    each Late _ _ _ (λ _. late_one (digit_data 9 d) ReadFactor (late_digit d)) (λ _.
    each Late _ _ _ (λ _. each Late _ _ _ (λ _. tt) (λ _. late_one (digit_data 9 d) Unlock (late_digit d))) (λ _.
    each Late _ _ _ (λ _. late_bare d ReadUnit) (λ _.
    each Late _ _ _ (λ _. each Late _ _ _ (λ _. late_unit _) (λ _. omega arith)) (λ _. omega arith)))))

-- so what is decided is not silent
loud_v2 : (g : State) (ask : Result RequestV2 Refusal) → Late ask → Loud (decided_v2 g ask)
unfolding decided_v2 Loud
loud_v2 g (Ok r) h = grant_v2_loud g r
loud_v2 g (Err k) h = inr h

loud_v1 : (g : State) (ask : Result RequestV1 Refusal) → Late ask → Loud (decided_v1 g ask)
unfolding decided_v1 Loud
loud_v1 g (Ok r) h = grant_v1_loud g r
loud_v1 g (Err k) h = inr h

-- ---- silence

pub quiet : (g : State) (room : ℕ) (s : List ℕ) (k : ℕ) → number_of g room s ≡ k → within 1 5 k ≡ true → (answer_of g room s ≡ silent k) × (next_of g room s ≡ g)
unfolding answer_of reply_of next_of afterwards pick
quiet g room s k n w =
    let z : eqb k 0 ≡ false = ne_eqb k 0 (λ e. let h = within_true 1 5 k w in omega arith) in
    (rw (n, w), rw (n, w, z, and-false (is_letter (at s 3))))

-- an answer by its number and its reply
whole : (a : Answer) (k : ℕ) (t : List ℕ) → a.number ≡ k → t ≡ a.reply → ◌≡◌ {A = Answer} (record { number = k; reply = t }) a
whole a k t e f = rw (sym e, f)

-- ---- V2

module _ (g : State) (s : List ℕ) (l : is_letter (at s 3) ≡ false) where
  table_reply_v2 : (ask : Result RequestV2 Refusal) → Loud (decided_v2 g ask) → asked_v2 g.limits s ≡ ask → reply_of g s (decided_v2 g ask) ≡ (answer_v2 g (head_v2 s) ask).reply
  unfolding reply_of answer_v2 pick
  table_reply_v2 ask h e = rw (loud_within (decided_v2 g ask) h, l, e)

  after_v2 : (ask : Result RequestV2 Refusal) → asked_v2 g.limits s ≡ ask → afterwards g s (decided_v2 g ask) ≡ next_v2 g (ask_list g.limits (head_v2 s) (data_from 8 s)) ask
  unfolding afterwards next_v2 pick
  after_v2 ask e = rw (l, e) (go (eqb (decided_v2 g ask) 0))
    where
      h : Held
      h = entered_v2 g.limits g.settings (ask_list g.limits (head_v2 s) (data_from 8 s)) ask

      go : (b : Bool) → ◌≡◌ {A = State} (settled g (cond b h g.settings)) (pick b (settled g h) g)
      go true = refl
      go false = refl

  pub table_v2 : (room : ℕ) → number_of g room s ≡ decided_v2 g (asked_v2 g.limits s) → (answer_of g room s ≡ answer_v2 g (head_v2 s) (asked_v2 g.limits s)) × (next_of g room s ≡ next_v2 g (ask_list g.limits (head_v2 s) (data_from 8 s)) (asked_v2 g.limits s))
  unfolding answer_of next_of answer_v2
  table_v2 room n =
      let ask = asked_v2 g.limits s in
      let h = loud_v2 g ask (late_v2 g.limits (head_v2 s) (data_from 8 s)) in
      (rw n (whole _ _ _ (answer_number_v2 ask) (table_reply_v2 ask h refl)), rw n (after_v2 ask refl))
    where
      answer_number_v2 : (ask : Result RequestV2 Refusal) → (answer_v2 g (head_v2 s) ask).number ≡ decided_v2 g ask
      answer_number_v2 ask = refl

  -- a wrong LEN
  pub table_length : (room : ℕ) → number_of g room s ≡ 6 → (answer_of g room s ≡ record { number = 6; reply = error_v2 6 (head_v2 s) }) × (next_of g room s ≡ g)
  unfolding answer_of next_of reply_of afterwards within pick
  table_length room n = (rw (n, l), rw (n, l))

-- ---- V1

module _ (g : State) (s : List ℕ) (l : is_letter (at s 3) ≡ true) where
  table_reply_v1 : (ask : Result RequestV1 Refusal) → Loud (decided_v1 g ask) → asked_v1 s ≡ ask → reply_of g s (decided_v1 g ask) ≡ (answer_v1 g s (head_v1 s) ask).reply
  unfolding reply_of answer_v1 pick
  table_reply_v1 ask h e = rw (loud_within (decided_v1 g ask) h, l, e)

  after_v1 : (ask : Result RequestV1 Refusal) → Loud (decided_v1 g ask) → asked_v1 s ≡ ask → afterwards g s (decided_v1 g ask) ≡ next_v1 g ask
  unfolding afterwards next_v1 pick
  after_v1 ask h e = rw (l, e, loud_within (decided_v1 g ask) h) (go (eqb (decided_v1 g ask) 0))
    where
      go : (b : Bool)
          → ◌≡◌ {A = State} (unlocked_as (settled g (cond b (entered_v1 g.settings ask) g.settings)) (b && asks_unlock ask))
          (pick b (unlocked_as (settled g (entered_v1 g.settings ask)) (asks_unlock ask)) (unlocked_as g false))
      go true = refl
      go false = refl

  pub table_v1 : (room : ℕ) → number_of g room s ≡ decided_v1 g (asked_v1 s) → (answer_of g room s ≡ answer_v1 g s (head_v1 s) (asked_v1 s)) × (next_of g room s ≡ next_v1 g (asked_v1 s))
  unfolding answer_of next_of answer_v1
  table_v1 room n =
      let ask = asked_v1 s in
      let h = loud_v1 g ask (late_v1 (at s 3) (data_from 4 s)) in
      (rw n (whole _ _ _ (answer_number_v1 ask) (table_reply_v1 ask h refl)), rw n (after_v1 ask h refl))
    where
      answer_number_v1 : (ask : Result RequestV1 Refusal) → (answer_v1 g s (head_v1 s) ask).number ≡ decided_v1 g ask
      answer_number_v1 ask = refl
