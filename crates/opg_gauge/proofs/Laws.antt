-- Laws of what a request asks of the gauge.
use mathlib.Core.Path.{◌≡◌, refl}
use mathlib.Core.Bool.{Bool, true, false}
use mathlib.Core.List.{List, [], ◌∷◌, ◌++◌}
use Rattle.std.proofs.Common.{Ok}
use Prim.Native.Nat.{ℕ, ◌≤◌}
use borrow.Author.Tests.{le-ltb}
use Rattle.buffer.specs.First.{Row, ◌⇒◌, first, pick}
use Rattle.opg_frames.specs.declared.ErrorByte.TheVariants as byte
use Rattle.opg_request_reader.specs.Asked.{Asked, error, refusals, meaning, asked_of}
use Rattle.opg_gauge.specs.Judged.{unavailable, judgement}
use Rattle.opg_gauge.specs.Inner.{judged}
use Rattle.opg_gauge.specs.declared.Gauge.{Gauge}

-- rows that give what f keeps, and then others: f of what the rows give
abbrev Kept : (Asked → Asked) → List (Row Asked) → Type 0
Kept f [] = true ≡ true
Kept f ((t ⇒ a) ∷ rows) = (a ≡ f a) × Kept f rows

kept : (f : Asked → Asked) (rows more : List (Row Asked)) (d e : Asked) → Kept f rows → first more e ≡ f d → first (rows ++ more) e ≡ f (first rows d)
unfolding pick
kept f [] more d e h k = k
kept f ((t ⇒ a) ∷ rows) more d e h k = go t (kept f rows more d e h.1 k)
  where
    go : (b : Bool) → first (rows ++ more) e ≡ f (first rows d) → pick b a (first (rows ++ more) e) ≡ f (pick b a (first rows d))
    go true r = h.0
    go false r = r

-- with room enough, the request as it was read is held against the pressure
pub judged_is : (room : ℕ) (g : Gauge) (s : List ℕ) → 32 ≤ room → judgement room g s ≡ judged g (asked_of s)
unfolding judgement judged asked_of pick
judged_is room g s h =
    rw (le-ltb room 32 h)
    (kept (judged g) (refusals s) (unavailable g (meaning s) ⇒ error byte.Unavailable ∷ []) (Ok (meaning s)) (Ok (meaning s)) (refl, (refl, (refl, (refl, (refl, (refl, (refl, (refl, (refl, (refl, (refl, refl))))))))))) refl)
