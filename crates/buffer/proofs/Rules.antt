-- Sets of lemmas for `search`. `search rules` answers a return whose definition goes by the code's tests, in their order, with the definition
-- on the `unfolding` line; `search tests` does it where the definition goes by `cond`.
use mathlib.Core.Path.{◌≡◌, refl, sym, ap, ◌∙◌}
use mathlib.Core.Bool.{Bool, true, false, not}
use Prim.Native.Nat.{ℕ}
use lib.Dec.{eqb}
use borrow.Author.Tests.{lt-ltb, le-ltb, le-leb, lt-leb, eq-eqb, ne_eqb}
use Rattle.buffer.specs.First.{pick}

-- rows read from the front: past a test that fails, and at one that holds
pub past : {A : Type 0} (t : Bool) (a b r : A) → t ≡ false → r ≡ b → r ≡ pick t a b
unfolding pick
past t a b r e h = rw e h

pub stop : {A : Type 0} (t : Bool) (a b r : A) → t ≡ true → r ≡ a → r ≡ pick t a b
unfolding pick
stop t a b r e h = rw e h

pub same : {A : Type 0} (a : A) → a ≡ a
same a = refl

-- a test that a function made: r is its result, t what that is by its contract, v what the branch found
pub flag : (t v r : Bool) → r ≡ t → r ≡ v → t ≡ v
flag t v r e h = sym e ∙ h

-- the same where the branch is on the test's negation
pub unflag : (t v r : Bool) → r ≡ t → r ≡ v → not t ≡ not v
unflag t v r e h = ap not (sym e ∙ h)

pub not_eqb : (a b : ℕ) → a ≡ b → not (eqb a b) ≡ false
not_eqb a b e = ap not (eq-eqb a b e)

pub not_neqb : (a b : ℕ) → (a ≡ b → ⊥) → not (eqb a b) ≡ true
not_neqb a b h = ap not (ne_eqb a b h)

-- whatever the rows give has P, if each thing that they can give has it
pub each : {A : Type 0} (P : A → Type 0) (t : Bool) (a b : A) → (t ≡ true → P a) → (t ≡ false → P b) → P (pick t a b)
unfolding pick
each P true a b f g = f refl
each P false a b f g = g refl

pub ruleset tests = (lt-ltb, le-ltb, le-leb, lt-leb, eq-eqb, ne_eqb)

pub ruleset rules = (past, stop, same, lt-ltb, le-ltb, le-leb, lt-leb, eq-eqb, ne_eqb, not_eqb, not_neqb)
