-- A V1 request, decoded and then decided, has the number that the table's rows give it.
use mathlib.Core.Path.{◌≡◌, refl, sym, ◌∙◌}
use mathlib.Core.Bool.{Bool, true, false, not, ◌&&◌, true≢false}
use mathlib.Core.List.{List}
use Prim.Native.Nat.{ℕ, zero, suc, ◌-◌}
use native.Mathlib.Omega.{arith}
use borrow.Author.Tests.{le-ltb, le-leb, leb-true, ne_eqb, eqb-true}
use lib.Dec.{eqb, ltb, leb}
use lib.ListN.{length}
use Rattle.std.specs.Prelude.{Err, Ok, Result}
use Rattle.buffer.specs.First.{pick}
use Rattle.buffer.specs.Byte.{at, is_digit, numeral}
use Rattle.buffer.proofs.Laws.{within_true}
use Rattle.forms.specs.Forms.{digit_data}
use Rattle.requests.specs.AskV1.{six_digits, bare_of, digit_one, one_of, unit_at, ask_v1}
use Rattle.requests.specs.declared.RequestV1.{RequestV1}
use Rattle.requests.specs.declared.RequestV1.TheVariants.{Measure, ReadFactor, Unlock, ReadUnit}
use Rattle.gauge_rules.specs.State.{State}
use Rattle.gauge_rules_v1.specs.RulesV1.{factor_number, grant_v1}
use Rattle.gauge_table.specs.Asked.{one_digit, unknown_letter, bad_form_v1, locked_write, outside_v1, measures_faulty}
use Rattle.gauge_table.specs.Decided.{decided_v1}
use Rattle.gauge_table.specs.Letters.{rows_v1}
use Rattle.gauge_table.proofs.DecidedV2.{by}
use Rattle.refusals.specs.declared.Refusal.{Refusal}

module _ (g : State) where
  either : (b : Bool) (x y : Result RequestV1 Refusal) → decided_v1 g (pick b x y) ≡ pick b (decided_v1 g x) (decided_v1 g y)
  unfolding pick
  either true x y = refl
  either false x y = refl

  -- a request with no data
  bare_is : (d : List ℕ) (r : RequestV1) → decided_v1 g (bare_of d r) ≡ pick (not (eqb (length d) 0)) 10 (grant_v1 g r)
  unfolding bare_of decided_v1
  bare_is d r = either (not (eqb (length d) 0)) (Err Refusal.Syntax) (Ok r)

  -- a request with one digit, which is 1; p says that there is one byte, q that it is a digit
  digit_is : (v : ℕ) (r : RequestV1) (p q : Bool) → (q ≡ true → ltb 9 v ≡ false)
      → decided_v1 g (digit_one (pick (not p) (Err Refusal.Syntax) (pick (not q) (Err Refusal.Syntax) (pick (ltb 9 v) (Err Refusal.Range) (Ok v)))) r) ≡ pick (not (p && q)) 10 (pick (not (eqb v 1)) 11 (grant_v1 g r))
  unfolding digit_one decided_v1 pick
  digit_is v r false q h = refl
  digit_is v r true false h = refl
  digit_is v r true true h = rw (h refl) (either (not (eqb v 1)) (Err Refusal.Range) (Ok r))

  one_is : (d : List ℕ) (r : RequestV1) → decided_v1 g (one_of d r) ≡ pick (not (one_digit d)) 10 (pick (not (eqb (at d 0 - 48) 1)) 11 (grant_v1 g r))
  unfolding one_of digit_data
  one_is d r = digit_is (at d 0 - 48) r (eqb (length d) 1) (is_digit (at d 0)) (λ e. let h = within_true 48 57 (at d 0) e in le-ltb 9 (at d 0 - 48) (omega (arith, h.1)))

  -- the number of a unit
  unit_out : (n : ℕ) → leb 3 n ≡ true → decided_v1 g (unit_at n) ≡ pick (leb 3 n) 11 0
  unfolding unit_at decided_v1 pick
  unit_out n e =
      let h = leb-true 3 n e in
      rw (e, ne_eqb n 0 (λ z. omega arith), ne_eqb n 1 (λ z. omega arith), ne_eqb n 2 (λ z. omega arith))

  unit_in : (n : ℕ) → leb 3 n ≡ false → decided_v1 g (unit_at n) ≡ pick (leb 3 n) 11 0
  unfolding unit_at decided_v1 grant_v1 pick
  unit_in zero e = refl
  unit_in (suc zero) e = refl
  unit_in (suc (suc zero)) e = refl
  unit_in (suc (suc (suc n))) e = absurd (true≢false (sym (le-leb 3 (suc (suc (suc n))) (omega arith)) ∙ e))

  unit_is : (n : ℕ) → decided_v1 g (unit_at n) ≡ pick (leb 3 n) 11 0
  unit_is n = by (leb 3 n) (unit_out n) (unit_in n)

  at_m : (d : List ℕ) → rows_v1 g 77 d ≡ decided_v1 g (ask_v1 77 d)
  unfolding unknown_letter bad_form_v1 locked_write outside_v1 measures_faulty ask_v1 grant_v1 pick
  at_m d = sym (bare_is d Measure)

  at_c : (d : List ℕ) → rows_v1 g 67 d ≡ decided_v1 g (ask_v1 67 d)
  unfolding unknown_letter bad_form_v1 locked_write outside_v1 measures_faulty ask_v1 grant_v1 pick
  at_c d = sym (one_is d ReadFactor)

  at_u : (d : List ℕ) → rows_v1 g 85 d ≡ decided_v1 g (ask_v1 85 d)
  unfolding unknown_letter bad_form_v1 locked_write outside_v1 measures_faulty ask_v1 grant_v1 pick
  at_u d = sym (bare_is d ReadUnit)

  -- `c` with six digits, and with other data
  six_c : (d : List ℕ) → six_digits d ≡ true → rows_v1 g 99 d ≡ decided_v1 g (ask_v1 99 d)
  unfolding unknown_letter bad_form_v1 locked_write outside_v1 measures_faulty ask_v1 decided_v1 grant_v1 factor_number pick
  six_c d e = rw e

  other_c : (d : List ℕ) → six_digits d ≡ false → rows_v1 g 99 d ≡ decided_v1 g (ask_v1 99 d)
  unfolding unknown_letter bad_form_v1 locked_write outside_v1 measures_faulty ask_v1 grant_v1 pick
  other_c d e = rw e (sym (one_is d Unlock))

  -- `u` with six digits, and with other data
  six_u : (d : List ℕ) → six_digits d ≡ true → rows_v1 g 117 d ≡ decided_v1 g (ask_v1 117 d)
  unfolding unknown_letter bad_form_v1 locked_write outside_v1 measures_faulty ask_v1 pick
  six_u d e = rw e (sym (unit_is (numeral d)))

  other_u : (d : List ℕ) → six_digits d ≡ false → rows_v1 g 117 d ≡ decided_v1 g (ask_v1 117 d)
  unfolding unknown_letter bad_form_v1 locked_write outside_v1 measures_faulty ask_v1 decided_v1 pick
  other_u d e = rw e

  -- any other letter
  at_other : (l : ℕ) (d : List ℕ) → eqb l 77 ≡ false → eqb l 67 ≡ false → eqb l 99 ≡ false → eqb l 85 ≡ false → eqb l 117 ≡ false → rows_v1 g l d ≡ decided_v1 g (ask_v1 l d)
  unfolding unknown_letter ask_v1 decided_v1 pick
  at_other l d a b c e f = rw (a, b, c, e, f)

  letter : (l : ℕ) (d : List ℕ) (k : ℕ) → rows_v1 g k d ≡ decided_v1 g (ask_v1 k d) → eqb l k ≡ true → rows_v1 g l d ≡ decided_v1 g (ask_v1 l d)
  letter l d k h e = rw (eqb-true l k e) h

  -- a V1 request, decoded and then decided, has the table's number
  pub decided_v1_lem : (l : ℕ) (d : List ℕ) → rows_v1 g l d ≡ decided_v1 g (ask_v1 l d)
  decided_v1_lem l d =
      by (eqb l 77) (letter l d 77 (at_m d)) (λ a.
      by (eqb l 67) (letter l d 67 (at_c d)) (λ b.
      by (eqb l 99) (letter l d 99 (by (six_digits d) (six_c d) (other_c d))) (λ c.
      by (eqb l 85) (letter l d 85 (at_u d)) (λ e.
      by (eqb l 117) (letter l d 117 (by (six_digits d) (six_u d) (other_u d))) (λ f.
      at_other l d a b c e f)))))
