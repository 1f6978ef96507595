-- The bytes of an unlock are those that the rules take for one.
use mathlib.Core.Path.{◌≡◌, refl, sym, ◌∙◌}
use mathlib.Core.Bool.{Bool, true, false, not, ◌&&◌, true≢false, and-eq-true_iff}
use mathlib.Core.List.{List, [], ◌∷◌}
use Prim.Native.Nat.{ℕ, ◌-◌}
use native.Mathlib.Omega.{arith}
use borrow.Author.Tests.{eq-eqb, ne_eqb, eqb-true, eqb-false, ltb-true, not-true, not-false}
use lib.Dec.{eqb, ltb}
use lib.ListN.{length}
use Rattle.std.specs.Prelude.{Err, Ok, Result}
use Rattle.buffer.specs.First.{pick}
use Rattle.buffer.specs.Byte.{is_digit, every, same_text, numeral}
use Rattle.buffer.proofs.Laws.{within_true, within_in, same_lengths}
use Rattle.buffer.proofs.Rules.{each}
use Rattle.forms.specs.Forms.{digit_data}
use Rattle.requests.specs.AskV1.{six_digits, bare_of, digit_one, one_of, unit_at, ask_v1}
use Rattle.requests.specs.declared.RequestV1.{RequestV1}
use Rattle.requests.specs.declared.RequestV1.TheVariants.{Measure, ReadFactor, Unlock, SetFactor, ReadUnit}
use Rattle.gauge_rules_v1.specs.RulesV1.{unlocks}
use Rattle.gauge_table.proofs.DecidedV2.{by}
use Rattle.gauge_table.specs.After.{asks_unlock}
use Rattle.refusals.specs.declared.Refusal.{Refusal}

-- a request that is no unlock
abbrev Other : Result RequestV1 Refusal → Type 0
Other a = asks_unlock a ≡ false

bare_other : (d : List ℕ) (r : RequestV1) → unlocks r ≡ false → Other (bare_of d r)
unfolding bare_of asks_unlock
bare_other d r h = each Other _ _ _ (λ _. refl) (λ _. h)

digit_other : (g : Result ℕ Refusal) (r : RequestV1) → unlocks r ≡ false → Other (digit_one g r)
unfolding digit_one asks_unlock
digit_other (Ok d) r h = each Other _ _ _ (λ _. refl) (λ _. h)
digit_other (Err k) r h = refl

unit_other : (n : ℕ) → Other (unit_at n)
unfolding unit_at asks_unlock unlocks
unit_other n = each Other _ _ _ (λ _. refl) (λ _. each Other _ _ _ (λ _. refl) (λ _. each Other _ _ _ (λ _. refl) (λ _. refl)))

-- the digit 1 and nothing else
no_one : (x : ℕ) → (x ≡ 49 → ⊥) → false ≡ eqb x 49
no_one x h = sym (ne_eqb x 49 h)

is_one : (x : ℕ) → is_digit x ≡ true → asks_unlock (digit_one (Ok (x - 48)) Unlock) ≡ eqb x 49
unfolding digit_one asks_unlock unlocks pick
is_one x d =
    let w = within_true 48 57 x d in
    by (eqb x 49)
    (λ e. let z : x - 48 ≡ 1 = omega (arith, eqb-true x 49 e) in rw (e, eq-eqb (x - 48) 1 z))
    (λ e. rw (e, ne_eqb (x - 48) 1 (λ (z : x - 48 ≡ 1). eqb-false x 49 e (omega (arith, w.0)))))

one_digit_lem : (d : List ℕ) → asks_unlock (one_of d Unlock) ≡ same_text d (49 ∷ [])
unfolding one_of digit_data same_text asks_unlock digit_one pick
one_digit_lem [] = refl
one_digit_lem (x ∷ []) =
    each P (not (is_digit x)) (Err Refusal.Syntax) _ (λ e. no_one x (λ (z : x ≡ 49). no_digit e z))
    (λ e. each P (ltb 9 (x - 48)) (Err Refusal.Range) (Ok (x - 48)) (λ f. no_one x (λ (z : x ≡ 49). omega (arith, ltb-true 9 (x - 48) f))) (λ _. is_one x (not-false (is_digit x) e)))
  where
    P : Result ℕ Refusal → Type 0
    P g = asks_unlock (digit_one g Unlock) ≡ eqb x 49

    no_digit : not (is_digit x) ≡ true → x ≡ 49 → ⊥
    no_digit e z = true≢false (sym (within_in 48 57 x (omega arith) (omega arith)) ∙ not-true (is_digit x) e)
one_digit_lem (x ∷ y ∷ d) = rw (ne_eqb (length (x ∷ y ∷ d)) 1 (λ (e : length (x ∷ y ∷ d) ≡ 1). omega arith))

-- six digits are not one
six_other : (d : List ℕ) → six_digits d ≡ true → false ≡ same_text d (49 ∷ [])
unfolding six_digits
six_other d e =
    let n : length d ≡ 6 = eqb-true (length d) 6 ((and-eq-true_iff (eqb (length d) 6) (every is_digit d)).0 e).0 in
    sym (same_lengths d (49 ∷ []) (λ (z : length d ≡ 1). omega arith))

letter_c : (d : List ℕ) → asks_unlock (ask_v1 99 d) ≡ same_text d (49 ∷ [])
unfolding ask_v1 asks_unlock unlocks pick
letter_c d = each' (six_digits d) refl
  where
    each' : (b : Bool) → six_digits d ≡ b → asks_unlock (pick b (Ok (SetFactor (numeral d))) (one_of d Unlock)) ≡ same_text d (49 ∷ [])
    each' true e = six_other d e
    each' false e = one_digit_lem d

other_letter_lem : (l : ℕ) (d : List ℕ) → eqb l 99 ≡ false → Other (ask_v1 l d)
unfolding ask_v1 asks_unlock unlocks one_of
other_letter_lem l d e =
    each Other (eqb l 77) _ _ (λ _. bare_other d Measure refl)
    (λ _. each Other (eqb l 67) _ _ (λ _. digit_other (digit_data 9 d) ReadFactor refl)
    (λ _. each Other (eqb l 99) _ _ (λ t. absurd (true≢false (sym t ∙ e)))
    (λ _. each Other (eqb l 85) _ _ (λ _. bare_other d ReadUnit refl)
    (λ _. each Other (eqb l 117) _ _ (λ _. each Other (six_digits d) _ _ (λ _. unit_other (numeral d)) (λ _. refl)) (λ _. refl)))))

pub unlock_is : (l : ℕ) (d : List ℕ) → asks_unlock (ask_v1 l d) ≡ (eqb l 99 && same_text d (49 ∷ []))
unlock_is l d =
    by (eqb l 99)
    (λ e. rw (eqb-true l 99 e) (letter_c d))
    (λ e. rw e (other_letter_lem l d e))
