-- `sources::Sources::as_slice` meets its contract.
use Rattle.std.proofs.Common.{◌≡◌, ℕ, rules, length, take, subst}
use Prim.Native.Nat.{min}
use Rattle.std.proofs.lemmas.List.{take_min}
use Rattle.sources.specs.Source.{list_of}
use Rattle.sources.proofs.Sources.as_slice.Goals as goal

pub returns : goal.returns
unfolding list_of
returns c =
    let q = c.args.self.now in
    let h : length q.codes ≡ 7 = search rules in
    rw c.min.ensures (subst (λ (m : ℕ). take (min q.count m) q.codes ≡ take q.count q.codes) h (take_min q.count q.codes))
