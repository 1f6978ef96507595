-- The part of the memory that `keep` moves, on plain values.
use mathlib.Core.Path.{◌≡◌, refl, sym, ap, ◌∙◌}
use mathlib.Core.List.{List, [], ◌∷◌}
use Prim.Native.Nat.{ℕ, zero, suc, ◌+◌, ◌-◌, ◌≤◌, min}
use native.Mathlib.Nat.{add-sub_cancel_left}
use native.Mathlib.Omega.{arith}
use lib.ListN.{length, take, drop, length-take, length-drop, drop_of_length-le}
use Rattle.std.specs.List.{copy_within}
use native.Mathlib.Nat.{zero-add}
use Rattle.buffer.specs.Answer.{over}
use Rattle.buffer.proofs.Laws.{part_middle}
use Rattle.service.specs.Served.{most_kept, kept_of, Keeps}

-- how many bytes are kept
abbrev pub count_of : List ℕ → ℕ → ℕ → ℕ
count_of memory from to = min (min to (length memory) - from) most_kept

kept_length : (memory : List ℕ) (from to : ℕ) → length (kept_of memory from to) ≡ count_of memory from to
unfolding kept_of
kept_length memory from to = simp (length-take, length-drop) (omega arith)

-- as many as a part of a part has, taken from the whole, is that part
take_twice : (m n : ℕ) (l : List ℕ) → take (length (take m (take n l))) l ≡ take m (take n l)
take_twice zero n l = refl
take_twice (suc m) zero l = refl
take_twice (suc m) (suc n) [] = refl
take_twice (suc m) (suc n) (x ∷ l) = ap (λ (r : List ℕ). x ∷ r) (take_twice m n l)

-- the bytes kept are so many from `from` on
kept_is : (memory : List ℕ) (from to : ℕ) → take (count_of memory from to) (drop from memory) ≡ kept_of memory from to
unfolding kept_of
kept_is memory from to = rw (← (kept_length memory from to), ← (part_middle from to memory)) (take_twice most_kept (to - from) (drop from memory))

-- where `to` is not past `from`, or `from` is past the end, none are
pub none_kept : (memory : List ℕ) (from to : ℕ) → min to (length memory) ≤ from → Keeps memory from to memory 0
unfolding over kept_of
none_kept memory from to h = record { len = rw e; memory = rw e }
  where
    e : kept_of memory from to ≡ []
    e = ap (take most_kept) (drop_of_length-le (take to memory) {i = from} (simp length-take h))

-- a copy of so many bytes to the front moves them
pub moved : (memory memory' : List ℕ) (from to n : ℕ) → n ≡ count_of memory from to → memory' ≡ copy_within memory from (from + n) 0 → Keeps memory from to memory' n
unfolding over
moved memory memory' from to n e g =
    let part : take n (drop from memory) ≡ kept_of memory from to = rw e (kept_is memory from to) in
    let size : n ≡ length (kept_of memory from to) = e ∙ sym (kept_length memory from to) in
    record { len = size; memory = g ∙ rw (add-sub_cancel_left, zero-add, part, size) }
