-- SM: the entries that a profile's reader read, and how their refusals are told.
use mathlib.Core.Path.{◌≡◌, refl}
use mathlib.Core.Bool.{false}
use mathlib.Core.List.{List}
use Prim.Native.Nat.{ℕ, ◌<◌, ◌≤◌}
use native.Mathlib.Omega.{arith}
use lib.Dec.{eqb}
use Rattle.std.specs.Prelude.{Err, Ok, Result}
use Rattle.refusals.specs.Number.{refusal_number}
use Rattle.refusals.specs.declared.Refusal.{Refusal}
use Rattle.buffer.specs.First.{pick}
use Rattle.buffer.proofs.Rules.{each}
use Rattle.sources.specs.Source.{sources_of}
use Rattle.sources.specs.Entries.{entries_number, Lists}
use Rattle.sources.specs.declared.Profile.{Profile}
use Rattle.sources.specs.declared.Sources.{Sources}
use Rattle.settings.specs.Limits.{limits_of}
use Rattle.settings.specs.declared.Setting.{Setting}
use Rattle.settings.proofs.Laws.{codes_are}

-- what was read of a text t for gauges of this profile was read by the profile's limits
pub listed_in : (p : Profile) {s t : List ℕ} {r : Result Sources Refusal} → t ≡ s → Lists (sources_of p) t r → Lists (limits_of p).source_codes s r
listed_in p e f = rw (codes_are p, ← e) f

abbrev Low : ℕ → Type 0
Low n = (0 < n → 10 ≤ n) × (n ≤ 12)

-- a text of entries is refused with 10 to 12
pub entries_low : (codes s : List ℕ) → Low (entries_number codes s)
unfolding entries_number
entries_low codes s =
    each Low _ 10 _ (λ _. ten)
    (λ _. each Low _ 10 _ (λ _. ten) (λ _. each Low _ 11 _ (λ _. (λ _. omega arith, omega arith)) (λ _. each Low _ 12 0 (λ _. (λ _. omega arith, omega arith)) (λ _. (λ h. absurd (omega arith), omega arith)))))
  where
    ten : Low 10
    ten = (λ _. omega arith, omega arith)

-- past SYNTAX such a refusal is told as it is
pub refused_as : (k : Refusal) (x : Setting) (codes s : List ℕ) → refusal_number k ≡ entries_number codes s → eqb (refusal_number k) 10 ≡ false
    → pick (eqb (refusal_number k) 11) (Err Refusal.Range) (pick (eqb (refusal_number k) 12) (Err Refusal.Logic) (Ok x)) ≡ Err k
unfolding pick
refused_as k x codes s f g = go k (rw (← f) at (entries_low codes s)) g
  where
    go : (k : Refusal) → Low (refusal_number k) → eqb (refusal_number k) 10 ≡ false → pick (eqb (refusal_number k) 11) (Err Refusal.Range) (pick (eqb (refusal_number k) 12) (Err Refusal.Logic) (Ok x)) ≡ Err k
    go Refusal.Room h e = absurd (omega arith)
    go Refusal.Shape h e = absurd (omega arith)
    go Refusal.Checksum h e = absurd (omega arith)
    go Refusal.Address h e = absurd (omega arith)
    go Refusal.Other h e = absurd (omega arith)
    go Refusal.Length h e = absurd (omega arith)
    go Refusal.Code h e = absurd (omega arith)
    go Refusal.NoDef h e = absurd (omega arith)
    go Refusal.Access h e = absurd (omega arith)
    go Refusal.Syntax h e = absurd (cc)
    go Refusal.Range h e = refl
    go Refusal.Logic h e = refl
    go Refusal.Fault h e = absurd (omega arith)
    go Refusal.Mismatch h e = absurd (omega arith)
    go Refusal.Bench h e = absurd (omega arith)
