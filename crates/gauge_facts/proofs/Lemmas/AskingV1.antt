-- What a V1 frame asks, exactly, and exactly when the state allows it.
use mathlib.Core.Path.{◌≡◌, refl}
use mathlib.Core.Bool.{true, not, and-eq-true_iff}
use mathlib.Core.List.{List, [], ◌∷◌}
use mathlib.Core.Logic.{◌↔◌}
use Prim.Native.Nat.{ℕ, ◌≤◌}
use native.Mathlib.Omega.{arith}
use borrow.Author.Tests.{eqb-true, eq-eqb, not-false}
use lib.Dec.{eqb}
use lib.ListN.{length}
use Rattle.std.specs.Prelude.{Err, Ok, Result}
use Rattle.buffer.specs.First.{pick}
use Rattle.buffer.specs.Byte.{within, is_digit, every, numeral}
use Rattle.buffer.proofs.Rules.{each}
use Rattle.frames.specs.Frame.{is_letter}
use Rattle.settings.specs.Limits.{is_factor}
use Rattle.settings.specs.declared.PressureUnit.{PressureUnit}
use Rattle.settings.specs.declared.PressureUnit.TheVariants.{Mbar, Torr, HPa}
use Rattle.readings.specs.Reading.{faulty_pressure}
use Rattle.forms.specs.Forms.{digit_data}
use Rattle.forms_facts.proofs.Digit.{digit_exactly}
use Rattle.requests.specs.AskV1.{six_digits, bare_of, digit_one, one_of, unit_at, ask_v1}
use Rattle.requests.specs.declared.RequestV1.{RequestV1}
use Rattle.requests.specs.declared.RequestV1.TheVariants.{Measure, ReadFactor, Unlock, SetFactor, ReadUnit, SetUnit}
use Rattle.settings.specs.Units.{unit_code}
use Rattle.request_texts.specs.RequestText.{letter_v1, head_for_v1}
use Rattle.frame_writer.specs.Sendable.{SendableV1}
use Rattle.gauge_rules.specs.State.{State}
use Rattle.gauge_rules_v1.specs.RulesV1.{factor_number, grant_v1}
use Rattle.settings.proofs.Laws.{factor_is, factor_true}
use Rattle.gauge_facts.specs.Request.{SixDigits, DataForV1, AllowedV1}
use Rattle.gauge_facts.proofs.Lemmas.Rows.{past_row}
use Rattle.gauge_facts.proofs.Lemmas.Asking.{no_data}
use Rattle.gauge_facts.proofs.Lemmas.Carried.{digits_printed}
use Rattle.refusals.specs.declared.Refusal.{Refusal}

-- ---- what is asked

-- a request that is asked by this letter and these data
abbrev Told : ℕ → List ℕ → Result RequestV1 Refusal → Type 0
Told l d (Ok r) = (l ≡ letter_v1 r) × DataForV1 r d
Told l d (Err k) = Unit {0}

module _ (l : ℕ) (d : List ℕ) where
  bare : (r : RequestV1) → l ≡ letter_v1 r → (d ≡ [] → DataForV1 r d) → Told l d (bare_of d r)
  unfolding bare_of
  bare r e f = each (Told l d) (not (eqb (length d) 0)) (Err Refusal.Syntax) (Ok r) (λ _. tt) (λ z. (e, f (no_data d (not-false _ z))))

  one : (r : RequestV1) → l ≡ letter_v1 r → (d ≡ 49 ∷ [] → DataForV1 r d) → Told l d (one_of d r)
  unfolding one_of digit_one
  one r e f = go (digit_data 9 d) refl
    where
      go : (x : Result ℕ Refusal) → digit_data 9 d ≡ x → Told l d (digit_one x r)
      go (Ok v) h =
          each (Told l d) (not (eqb v 1)) (Err Refusal.Range) (Ok r) (λ _. tt)
          (λ z. let n : v ≡ 1 = eqb-true v 1 (not-false _ z) in (e, f (rw n at ((digit_exactly 9 d v).0 h).0)))
      go (Err k) h = tt

  six : (n : ℕ) → numeral d ≡ n → six_digits d ≡ true → SixDigits n d
  unfolding six_digits
  six n e h = let w = (and-eq-true_iff (eqb (length d) 6) (every is_digit d)).0 h in (eqb-true (length d) 6 w.0, w.1, e)

  unit : l ≡ 117 → six_digits d ≡ true → Told l d (unit_at (numeral d))
  unfolding unit_at unit_code letter_v1
  unit e h =
      each (Told l d) (eqb (numeral d) 0) (Ok (SetUnit Mbar)) _ (λ z. (e, six 0 (eqb-true _ 0 z) h))
      (λ _. each (Told l d) (eqb (numeral d) 1) (Ok (SetUnit Torr)) _ (λ z. (e, six 1 (eqb-true _ 1 z) h))
      (λ _. each (Told l d) (eqb (numeral d) 2) (Ok (SetUnit HPa)) (Err Refusal.Range) (λ z. (e, six 2 (eqb-true _ 2 z) h)) (λ _. tt)))

  asked_told : Told l d (ask_v1 l d)
  unfolding ask_v1 letter_v1
  asked_told =
      each (Told l d) (eqb l 77) (bare_of d Measure) _ (λ a. bare Measure (eqb-true l 77 a) (λ e. e))
      (λ _. each (Told l d) (eqb l 67) (one_of d ReadFactor) _ (λ a. one ReadFactor (eqb-true l 67 a) (λ e. e))
      (λ _. each (Told l d) (eqb l 99) _ _
      (λ a. each (Told l d) (six_digits d) (Ok (SetFactor (numeral d))) (one_of d Unlock) (λ h. (eqb-true l 99 a, six (numeral d) refl h)) (λ _. one Unlock (eqb-true l 99 a) (λ e. e)))
      (λ _. each (Told l d) (eqb l 85) (bare_of d ReadUnit) _ (λ a. bare ReadUnit (eqb-true l 85 a) (λ e. e))
      (λ _. each (Told l d) (eqb l 117) _ (Err Refusal.NoDef)
      (λ a. each (Told l d) (six_digits d) (unit_at (numeral d)) (Err Refusal.Syntax) (λ h. unit (eqb-true l 117 a) h) (λ _. tt))
      (λ _. tt)))))

  told_asked : (r : RequestV1) → l ≡ letter_v1 r → DataForV1 r d → ask_v1 l d ≡ Ok r
  unfolding ask_v1 letter_v1 bare_of one_of digit_one digit_data six_digits unit_at unit_code within every pick
  told_asked Measure e f = rw (e, f)
  told_asked ReadFactor e f = rw (e, f)
  told_asked Unlock e f = rw (e, f)
  told_asked (SetFactor n) e f = rw (e, f.0, f.1, f.2)
  told_asked ReadUnit e f = rw (e, f)
  told_asked (SetUnit u) e f = rw (e, f.0, f.1, f.2) (again u)
    where
      again : (u : PressureUnit) → unit_at (unit_code u) ≡ Ok (SetUnit u)
      again Mbar = refl
      again Torr = refl
      again HPa = refl

  -- a frame asks a request exactly if its letter and its data are those of the request
  pub asked_v1_exactly : (r : RequestV1) → (ask_v1 l d ≡ Ok r) ↔ ((l ≡ letter_v1 r) × DataForV1 r d)
  asked_v1_exactly r = (λ e. rw e at asked_told, λ w. told_asked r w.0 w.1)

-- ---- what can be sent

letter_in : (r : RequestV1) → is_letter (letter_v1 r) ≡ true
unfolding letter_v1 is_letter within
letter_in Measure = refl
letter_in ReadFactor = refl
letter_in Unlock = refl
letter_in (SetFactor n) = refl
letter_in ReadUnit = refl
letter_in (SetUnit u) = refl

data_fits_lem : (r : RequestV1) (d : List ℕ) → DataForV1 r d → (every (within 32 126) d ≡ true) × (length d ≤ 6)
unfolding every within
data_fits_lem Measure d f = rw f (refl, omega arith)
data_fits_lem ReadFactor d f = rw f (refl, omega arith)
data_fits_lem Unlock d f = rw f (refl, omega arith)
data_fits_lem (SetFactor n) d f = (digits_printed d f.1, omega (arith, f.0))
data_fits_lem ReadUnit d f = rw f (refl, omega arith)
data_fits_lem (SetUnit u) d f = (digits_printed d f.1, omega (arith, f.0))

pub carried_v1 : (a : ℕ) (r : RequestV1) (d : List ℕ) → within 1 999 a ≡ true → DataForV1 r d → SendableV1 (head_for_v1 a r) d
carried_v1 a r d e f = let w = data_fits_lem r d f in record { address_in = e; letter_in = letter_in r; bytes_in = w.0; few = w.1 }

-- ---- what the state allows

module _ (g : State) where
  may_write : (n : ℕ) → factor_number g.unlocked n ≡ 0 → AllowedV1 g (SetFactor n)
  unfolding factor_number
  may_write n e =
      let a = past_row (not g.unlocked) 12 _ refl (eq-eqb _ 0 e) in
      let b = past_row (not (is_factor n)) 11 0 refl a.1 in
      (not-false _ a.0, factor_true n (not-false _ b.0))

  -- V1's rules are kept exactly if the state allows the request
  pub granted_v1_exactly : (r : RequestV1) → (grant_v1 g r ≡ 0) ↔ AllowedV1 g r
  unfolding grant_v1 factor_number pick
  granted_v1_exactly Measure = (λ e. (past_row (faulty_pressure g.readings.p0) 13 0 refl (eq-eqb (grant_v1 g Measure) 0 e)).0, λ a. rw a)
  granted_v1_exactly ReadFactor = (λ _. tt, λ _. refl)
  granted_v1_exactly Unlock = (λ _. tt, λ _. refl)
  granted_v1_exactly (SetFactor n) = (may_write n, λ a. rw (a.0, factor_is n a.1.0 a.1.1))
  granted_v1_exactly ReadUnit = (λ _. tt, λ _. refl)
  granted_v1_exactly (SetUnit u) = (λ _. tt, λ _. refl)
