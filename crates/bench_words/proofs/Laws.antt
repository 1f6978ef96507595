-- FS by its size in hundredths is FS by its value.
use mathlib.Core.Path.{◌≡◌, refl, sym, ◌∙◌}
use mathlib.Core.Bool.{Bool, true, false, not}
use mathlib.Core.List.{[], ◌∷◌}
use Prim.Native.Nat.{ℕ, ◌*◌, ◌/◌, ◌%◌, ◌^◌, ◌≤◌, ◌<◌}
use native.Mathlib.Nat.{mul-mod_left}
use native.Mathlib.Omega.{arith}
use lib.Dec.{leb, eqb}
use borrow.Author.Tests.{le-leb, lt-leb, eq-eqb, leb-true, leb-false, eqb-true, eqb-false}
use Rattle.std.specs.Prelude.{Err, None, Ok, Option, Result, Some}
use Rattle.std.specs.Result.{OkIff, is_ok, result_ok}
use Rattle.buffer.specs.First.{◌⇒◌, first, pick}
use Rattle.buffer.proofs.Rules.{past, stop, each}
use Rattle.decimal.specs.Exact.{units}
use Rattle.decimal.specs.Number.{counted_of, hundredths_of}
use Rattle.decimal.specs.declared.Number.{Number}
use Rattle.decimal.specs.declared.NumberError.{NumberError}
use Rattle.readings.specs.declared.Bench.TheVariants.{Status}
use Rattle.bench_words.specs.Words.{status_of}
use Rattle.readings.specs.declared.Bench.{Bench}

-- FS, of a number's size in hundredths
unfoldable pub status_in : Option ℕ → Option Bench
status_in (Some h) = first (not (eqb (h % 100) 0) ⇒ None ∷ leb 25600 h ⇒ None ∷ []) (Some (Status (h / 100)))
status_in None = None

-- the rows of FS that are left once the value is not below zero; u is its size in 10^-14
abbrev rows_of : ℕ → Option Bench
rows_of u = first (not (eqb (u % 10 ^ 14) 0) ⇒ None ∷ leb 256 (u / 10 ^ 14) ⇒ None ∷ []) (Some (Status (u / 10 ^ 14)))

-- a whole number is a whole number of hundreds of hundredths
hundreds : (u : ℕ) → u % 10 ^ 14 ≡ 0 → u / 10 ^ 12 % 100 ≡ 0
hundreds u e =
    let q = u / 10 ^ 14 in
    let w : u / 10 ^ 12 ≡ q * 100 = omega arith in
    rw w (mul-mod_left q 100)

-- no whole number, or one that is too large
isnt_rows : (u : ℕ) → (u % 10 ^ 14 ≡ 0 → 256 ≤ u / 10 ^ 14) → rows_of u ≡ None
unfolding pick
isnt_rows u f = go (eqb (u % 10 ^ 14) 0) refl
  where
    go : (t : Bool) → eqb (u % 10 ^ 14) 0 ≡ t → rows_of u ≡ None
    go false e = rw e
    go true e = rw (e, le-leb 256 (u / 10 ^ 14) (f (eqb-true _ _ e)))

is_rows : (u h : ℕ) → u % 10 ^ 12 ≡ 0 → h ≡ u / 10 ^ 12 → h % 100 ≡ 0 → h < 25600 → rows_of u ≡ Some (Status (h / 100))
unfolding pick
is_rows u h a b c d =
    let e : h / 100 ≡ u / 10 ^ 14 = omega arith in
    rw (eq-eqb (u % 10 ^ 14) 0 (omega arith), lt-leb 256 (u / 10 ^ 14) (omega arith), e)

by_hundredths : (n : Number) → status_in (hundredths_of n) ≡ rows_of (units n)
unfolding status_in hundredths_of counted_of pick
by_hundredths n = whole (eqb (u % 10 ^ 12) 0) refl
  where
    u : ℕ
    u = units n

    h : ℕ
    h = u / 10 ^ 12

    small : (t : Bool) → leb 25600 h ≡ t → u % 10 ^ 12 ≡ 0 → leb (2 ^ 32) h ≡ false → h % 100 ≡ 0 → status_in (hundredths_of n) ≡ rows_of u
    small true e a b c = rw (eq-eqb (u % 10 ^ 12) 0 a, b, eq-eqb (h % 100) 0 c, e) (sym (isnt_rows u (λ k. omega (arith, leb-true 25600 h e))))
    small false e a b c = rw (eq-eqb (u % 10 ^ 12) 0 a, b, eq-eqb (h % 100) 0 c, e) (sym (is_rows u h a refl c (leb-false 25600 h e)))

    hundred : (t : Bool) → eqb (h % 100) 0 ≡ t → u % 10 ^ 12 ≡ 0 → leb (2 ^ 32) h ≡ false → status_in (hundredths_of n) ≡ rows_of u
    hundred true e a b = small (leb 25600 h) refl a b (eqb-true _ _ e)
    hundred false e a b = rw (eq-eqb (u % 10 ^ 12) 0 a, b, e) (sym (isnt_rows u (λ k. absurd (eqb-false (h % 100) 0 e (hundreds u k)))))

    counted : (t : Bool) → leb (2 ^ 32) h ≡ t → u % 10 ^ 12 ≡ 0 → status_in (hundredths_of n) ≡ rows_of u
    counted true e a = rw (eq-eqb (u % 10 ^ 12) 0 a, e) (sym (isnt_rows u (λ k. omega (arith, leb-true (2 ^ 32) h e))))
    counted false e a = hundred (eqb (h % 100) 0) refl a e

    whole : (t : Bool) → eqb (u % 10 ^ 12) 0 ≡ t → status_in (hundredths_of n) ≡ rows_of u
    whole true e = counted (leb (2 ^ 32) h) refl (eqb-true _ _ e)
    whole false e = rw e (sym (isnt_rows u (λ k. absurd (eqb-false (u % 10 ^ 12) 0 e (omega arith)))))

-- FS of a number that was read and is not below zero goes by its hundredths
pub status_by : (p : Result Number NumberError) (n : Number) (h : Option ℕ) → Some n ≡ result_ok p → n.negative ≡ false → hundredths_of n ≡ h → status_of p ≡ status_in h
unfolding status_of pick
status_by (Ok m) n h e f g = let k : m ≡ n = cc in rw k (sym (past _ _ _ _ f (rw (← g) (by_hundredths n))))
status_by (Err x) n h e f g = absurd (cc)

-- 256 and more are no setting, whole or not
pub over_none : (h : ℕ) → 25600 ≤ h → status_in (Some h) ≡ None
unfolding status_in
over_none h f = each (λ (r : Option Bench). r ≡ None) _ _ _ (λ _. refl) (λ _. sym (stop _ _ _ _ (le-leb 25600 h f) refl))

-- what fits the type of FS, and what does not
pub fits : {E : Type 0} (r : Result ℕ E) (k s : ℕ) → OkIff r (k < 256) k → Some s ≡ result_ok r → (k < 256) × (s ≡ k)
fits (Ok x) k s f e = let same : s ≡ x = cc in (f.0, same ∙ f.1)
fits (Err x) k s f e = absurd (cc)

pub fits_not : {E : Type 0} (r : Result ℕ E) (k : ℕ) → OkIff r (k < 256) k → false ≡ is_ok r → 256 ≤ k
fits_not (Ok x) k f e = absurd (cc)
fits_not (Err x) k f e = omega (arith, f)
