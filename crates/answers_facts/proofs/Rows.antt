-- The number of an answer, row by row.
use mathlib.Core.Path.{◌≡◌}
use mathlib.Core.Bool.{Bool, true, false}
use Prim.Native.Nat.{ℕ}
use native.Mathlib.Omega.{arith}
use borrow.Author.Tests.{ne_eqb}
use lib.Dec.{eqb}
use Rattle.buffer.specs.First.{pick}
use Rattle.refusals.specs.Number.{refusal_number}
use Rattle.refusals.specs.declared.Refusal.{Refusal}
use Rattle.gauge_table.proofs.Numbers.{some_number}
use Rattle.answers_facts.specs.Rows.{Told}

-- what a row gives, and what the rows after it give
pub row : {A : Type 0} {number : A → ℕ} {is_read : A → Bool} {done : ℕ} (b : Bool) {x y : A} {n m : ℕ} → Told number is_read done x n → Told number is_read done y m
    → Told number is_read done (pick b x y) (pick b n m)
unfolding pick
row true s t = s
row false s t = t

-- an answer's number by another account
pub to : {A : Type 0} {number : A → ℕ} {is_read : A → Bool} {done : ℕ} {x : A} {n m : ℕ} → n ≡ m → Told number is_read done x n → Told number is_read done x m
to e t = rw e at t

-- the same where the rows choose what a function is given
pub through : {A B : Type 0} {number : A → ℕ} {is_read : A → Bool} {done : ℕ} (f : B → A) (b : Bool) (x y : B) {n m : ℕ} → Told number is_read done (f x) n
    → Told number is_read done (f y) m → Told number is_read done (f (pick b x y)) (pick b n m)
unfolding pick
through f true x y s t = s
through f false x y s t = t

-- a refusal's number is not 0
pub not_0 : (k : Refusal) → eqb (refusal_number k) 0 ≡ false
not_0 k = ne_eqb (refusal_number k) 0 (λ z. omega (arith, some_number k))
