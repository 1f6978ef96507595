-- `buffer::passed_by_fours` meets its contract. The invariant: the first b does not stand before place i.
use mathlib.Core.Path.{◌≡◌, refl}
use Prim.Native.Nat.{ℕ, ◌+◌, ◌<◌}
use mathlib.Core.List.{List}
use native.Mathlib.Omega.{arith}
use lib.ListN.{length, get_or}
use Rattle.buffer.proofs.Laws.{Passed, pass}
use Rattle.buffer.proofs.passed_by_fours.Goals as goal

-- one byte that is not b, two and three
one : (b : ℕ) (s : List ℕ) (i : ℕ) → Passed b s i → i + 3 < length s → (get_or s i 0 ≡ b → ⊥) → Passed b s (i + 1)
one b s i p h x = pass _ s _ _ (omega arith) x refl p

two : (b : ℕ) (s : List ℕ) (i : ℕ) → Passed b s i → i + 3 < length s → (get_or s i 0 ≡ b → ⊥) → (get_or s (i + 1) 0 ≡ b → ⊥) → Passed b s (i + 2)
two b s i p h x y = pass _ s _ _ (omega arith) y (omega arith) (one b s i p h x)

three : (b : ℕ) (s : List ℕ) (i : ℕ) → Passed b s i → i + 3 < length s → (get_or s i 0 ≡ b → ⊥) → (get_or s (i + 1) 0 ≡ b → ⊥) → (get_or s (i + 2) 0 ≡ b → ⊥)
    → Passed b s (i + 3)
three b s i p h x y z = pass _ s _ _ (omega arith) z (omega arith) (two b s i p h x y)

pub returns-then-s-i-2 : goal.returns-then-s-i-2
returns-then-s-i-2 c = one _ c.args.s.now _ c.loop-i.invariant (omega arith) c.if-s-i.false

pub returns-then-s-i-3 : goal.returns-then-s-i-3
returns-then-s-i-3 c = two _ c.args.s.now _ c.loop-i.invariant (omega arith) c.if-s-i.false c.if-s-i-2.false

pub returns-then-s-i-4 : goal.returns-then-s-i-4
returns-then-s-i-4 c = three _ c.args.s.now _ c.loop-i.invariant (omega arith) c.if-s-i.false c.if-s-i-2.false c.if-s-i-3.false

pub loop-i-preserved : goal.loop-i-preserved
loop-i-preserved c =
    pass _ c.args.s.now _ _ (omega arith) c.if-s-i-4.false (omega arith)
    (three _ c.args.s.now _ c.loop-i.invariant (omega arith) c.if-s-i.false c.if-s-i-2.false c.if-s-i-3.false)
