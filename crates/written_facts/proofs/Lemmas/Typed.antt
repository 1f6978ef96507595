-- A typed write that is accepted: its setting lies within the limits and is the one that was asked for.
use mathlib.Core.Path.{◌≡◌, refl, sym}
use mathlib.Core.Bool.{Bool, true, false, cond, not, ◌&&◌, true≢false}
use mathlib.Core.List.{List, [], ◌∷◌}
use mathlib.Core.Logic.{◌⊎◌, inl, inr}
use Prim.Native.Nat.{ℕ, ◌+◌, ◌*◌, ◌^◌, ◌≤◌}
use native.Mathlib.Nat.{zero-mul}
use native.Mathlib.Omega.{arith}
use borrow.Author.Tests.{eq-eqb, eqb-true, eqb-false, ltb-false, not-false}
use lib.Dec.{eqb, ltb, leb}
use lib.ListN.{length}
use Rattle.std.specs.Prelude.{Err, Ok, Result, Some}
use Rattle.buffer.proofs.Laws.{within_true}
use Rattle.buffer.proofs.Rules.{each}
use Rattle.decimal.specs.Exact.{units, normal_of}
use Rattle.decimal.specs.Number.{plus, minus, below_of, same_value}
use Rattle.decimal.specs.declared.Number.{Number}
use Rattle.decimal_facts.specs.Canonical.{Exactly}
use Rattle.decimal_facts.proofs.Value.{exact}
use Rattle.sources.specs.Source.{all_differ, list_of}
use Rattle.sources.specs.declared.Sources.{Sources}
use Rattle.settings.specs.Limits.{ProfileLimits, standard}
use Rattle.settings.specs.declared.Transition.{Transition}
use Rattle.settings.specs.declared.Transition.TheVariants.{Direct, Between}
use Rattle.settings.specs.declared.Setting.{Setting}
use Rattle.settings.specs.declared.Setting.TheVariants.{Address, PressureIn, Factor, Control, Cathode, Filament, Switch, Stream}
use Rattle.forms.specs.Forms.{factor_in, limited_of, direct_of, earlier, between_of, transition_of}
use Rattle.forms.specs.declared.Ends.{Ends}
use Rattle.forms.specs.declared.Ends.TheVariants.{None, Two}
use Rattle.forms_facts.specs.Codes.{GoodList}
use Rattle.forms_facts.specs.Sound.{InLimits, Sound}
use Rattle.forms_facts.proofs.Lemmas.Lists.{once_good}
use Rattle.request_writer.specs.Typed.{exactly, limited_number, ends_in, typed_digit, judged_digit, typed_address, typed_stream, typed_verdict}
use Rattle.written_facts.specs.Same.{SameNumber, SameSetting}
use Rattle.decimal.specs.declared.NumberError.{NumberError}
use Rattle.refusals.specs.Number.{refusal_number}
use Rattle.refusals.specs.declared.Refusal.{Refusal}

-- the list beside SM's mode: a good one, and none with mode 0
abbrev pub ListFits : ProfileLimits → Setting → List ℕ → Type 0
ListFits limits (Stream on) list = GoodList limits.source_codes list × (on ≡ false → list ≡ [])
ListFits limits (Address v) list = Unit {0}
ListFits limits (PressureIn v) list = Unit {0}
ListFits limits (Factor v) list = Unit {0}
ListFits limits (Control v) list = Unit {0}
ListFits limits (Cathode v) list = Unit {0}
ListFits limits (Filament v) list = Unit {0}
ListFits limits (Switch v) list = Unit {0}

-- what is told of a setting that is accepted for x, and of a refusal's number
abbrev pub Told : ProfileLimits → Setting → List ℕ → Result Setting Refusal → Type 0
Told limits x list (Ok y) = Sound limits y × SameSetting x y × ListFits limits y list
Told limits x list (Err k) = 10 ≤ refusal_number k

-- ---- numbers

size_is : (n m : Number) → Exactly (exactly n) m → units m * 10 ^ 14 ≡ units n * 10 ^ 14
unfolding units
size_is n m h = h.size

-- sizes in 10^-14
sizes : (n m : Number) → Exactly (exactly n) m → units m ≡ units n
sizes n m h = cancel (units m) (units n) (size_is n m h)
  where
    cancel : (a b : ℕ) → a * 10 ^ 14 ≡ b * 10 ^ 14 → a ≡ b
    cancel a b e = omega arith

-- a number without digits has no size
no_size : (n : Number) → n.mantissa ≡ 0 → units n ≡ 0
unfolding units
no_size n e = rw e (zero-mul (10 ^ n.place))

-- the canonical number of a value has that value
signed : (a b : Bool) (u v : ℕ) → u ≡ v → (u ≡ 0) ⊎ (b ≡ a) → eqb (cond a 0 u + cond b v 0) (cond b 0 v + cond a u 0) ≡ true
signed true true u v e s = eq-eqb (0 + v) (0 + u) (omega arith)
signed false false u v e s = eq-eqb (u + 0) (v + 0) (omega arith)
signed true false u v e (inl z) = eq-eqb (0 + 0) (v + u) (omega arith)
signed true false u v e (inr f) = absurd (true≢false (sym f))
signed false true u v e (inl z) = eq-eqb (u + v) (0 + 0) (omega arith)
signed false true u v e (inr f) = absurd (true≢false f)

same_number : (n m : Number) → Exactly (exactly n) m → SameNumber n m
unfolding same_value plus minus
same_number n m h = signed n.negative m.negative (units n) (units m) (sym (sizes n m h)) (go (eqb n.mantissa 0) refl)
  where
    go : (b : Bool) → eqb n.mantissa 0 ≡ b → (units n ≡ 0) ⊎ (m.negative ≡ n.negative)
    go true e = inl (no_size n (eqb-true n.mantissa 0 e))
    go false e = inr (h.sign (omega (arith, eqb-false n.mantissa 0 e)))

-- a number of ST that passes: within the limits, and of the value that was asked for
abbrev Passed : ProfileLimits → Number → Result Number Refusal → Type 0
Passed limits n (Ok m) = InLimits limits m × SameNumber n m
Passed limits n (Err k) = 10 ≤ refusal_number k

passed : (limits : ProfileLimits) (n : Number) → Passed limits n (limited_number limits n)
unfolding limited_number limited_of
passed limits n = go (normal_of (exactly n)) refl
  where
    go : (p : Result Number NumberError) → normal_of (exactly n) ≡ p → Passed limits n (limited_of limits p)
    go (Err NumberError.Syntax) e = omega arith
    go (Err NumberError.Range) e = omega arith
    go (Ok m) e =
        let x = (exact (exactly n) m).0 e in
        each (Passed limits n) (below_of m limits.transition_low) (Err Refusal.Range) _ (λ _. omega arith)
        (λ l. each (Passed limits n) (below_of limits.transition_high m) (Err Refusal.Range) (Ok m) (λ _. omega arith)
        (λ u. (record { canonical = x.canonical; low = l; high = u }, same_number n m x)))

-- ---- settings

module _ (limits : ProfileLimits) (list : List ℕ) where
  address_told : (a : ℕ) → Told limits (Address a) list (typed_address a)
  unfolding typed_address
  address_told a = each (Told limits (Address a) list) _ (Err Refusal.Range) (Ok (Address a)) (λ _. omega arith) (λ e. (within_true _ _ a (not-false _ e), refl, tt))

  factor_told : (h : ℕ) → Told limits (Factor h) list (factor_in (Some h))
  unfolding factor_in
  factor_told h = each (Told limits (Factor h) list) _ (Err Refusal.Range) (Ok (Factor h)) (λ _. omega arith) (λ e. (within_true _ _ h (not-false _ e), refl, tt))

  direct_told : (n : Number) (r : Result Number Refusal) → Passed limits n r → Told limits (Switch (Direct n)) list (direct_of r)
  unfolding direct_of
  direct_told n (Ok m) h = (h.0, h.1, tt)
  direct_told n (Err k) h = h

  between_told : (a b : Number) (r s : Result Number Refusal) → limits.between_form ≡ true → Passed limits a r → Passed limits b s → Told limits (Switch (Between a b)) list (between_of r s)
  unfolding between_of earlier
  between_told a b (Ok c) (Ok d) f h k =
      each (Told limits (Switch (Between a b)) list) (not (below_of c d)) (Err Refusal.Logic) (Ok (Switch (Between c d))) (λ _. omega arith) (λ e. ((f, h.0, k.0, not-false _ e), (h.1, k.1), tt))
  between_told a b (Ok c) (Err k) f h l = l
  between_told a b (Err j) (Ok d) f h l = h
  between_told a b (Err j) (Err k) f h l = each (λ (k : Refusal). 10 ≤ refusal_number k) _ j k (λ _. h) (λ _. l)

  transition_told : (t : Transition) → Told limits (Switch t) list (transition_of (ends_in limits t))
  unfolding transition_of ends_in
  transition_told (Direct n) = direct_told n (limited_number limits n) (passed limits n)
  transition_told (Between a b) =
      each (λ (e : Ends Refusal). Told limits (Switch (Between a b)) list (transition_of e)) limits.between_form (Two (limited_number limits a) (limited_number limits b)) None
      (λ f. between_told a b (limited_number limits a) (limited_number limits b) f (passed limits a) (passed limits b)) (λ _. omega arith)

  -- one digit, over the largest
  digit_told : (x : Setting) (most d : ℕ) → (d ≤ most → Told limits x list (Ok x)) → Told limits x list (judged_digit x (typed_digit most d))
  unfolding judged_digit typed_digit
  digit_told x most d f =
      each P (leb 10 d) (Err Refusal.Syntax) _ (λ _. omega arith) (λ _. each P (ltb most d) (Err Refusal.Range) (Ok d) (λ _. omega arith) (λ e. f (ltb-false most d e)))
    where
      P : Result ℕ Refusal → Type 0
      P r = Told limits x list (judged_digit x r)

nothing : (list : List ℕ) → length list ≡ 0 → list ≡ []
nothing [] e = refl
nothing (c ∷ list) e = absurd (omega arith)

stream_told : (limits : ProfileLimits) (on : Bool) (list : List ℕ) → Told limits (Stream on) list (typed_stream limits on list)
unfolding typed_stream
stream_told limits on list =
    each (Told limits (Stream on) list) _ (Err Refusal.Syntax) _ (λ _. omega arith)
    (λ e. each (Told limits (Stream on) list) _ (Err Refusal.Range) _ (λ _. omega arith)
    (λ k. each (Told limits (Stream on) list) (not (all_differ (0 ∷ list))) (Err Refusal.Logic) (Ok (Stream on)) (λ _. omega arith)
    (λ l. (tt, refl, (once_good limits.source_codes list (not-false _ k) (not-false _ l), none on e)))))
  where
    none : (b : Bool) → (not b && not (eqb (length list) 0)) ≡ false → b ≡ false → list ≡ []
    none true e f = absurd (true≢false f)
    none false e f = nothing list (eqb-true (length list) 0 (not-false _ e))

pub told : (limits : ProfileLimits) (x : Setting) (q : Sources) → Told limits x (list_of q) (typed_verdict limits x q)
unfolding typed_verdict
told limits (Address a) q = address_told limits (list_of q) a
told limits (PressureIn u) q = (tt, refl, tt)
told limits (Factor v) q = factor_told limits (list_of q) v
told limits (Control d) q = digit_told limits (list_of q) (Control d) standard.control_high d (λ l. (l, refl, tt))
told limits (Cathode d) q = digit_told limits (list_of q) (Cathode d) standard.cathode_high d (λ l. (l, refl, tt))
told limits (Filament d) q = digit_told limits (list_of q) (Filament d) standard.filament_high d (λ l. (l, refl, tt))
told limits (Switch t) q = transition_told limits (list_of q) t
told limits (Stream on) q = stream_told limits on (list_of q)
