-- The call k that stands next is made where there is memory for it, and nothing changes where there is not.
use mathlib.Core.Path.{◌≡◌}
use mathlib.Core.List.{List}
use Prim.Native.Nat.{ℕ, ◌+◌, ◌<◌, ◌≤◌}
use borrow.Author.Tests.{lt-ltb, le-ltb}
use lib.ListN.{length}
use Rattle.buffer.specs.First.{pick}
use Rattle.script.specs.Script.{call_at, room_of}
use Rattle.script.specs.declared.Call.{Call}
use Rattle.std.specs.Prelude.{Option}
use Rattle.sources.specs.declared.Profile.{Profile}
use Rattle.player.specs.Played.{Standing, made, advance}

pub advances : (profile : Profile) (script : List ℕ) (p : Standing) (k : Option Call) → call_at script p.at ≡ k → p.used + room_of k ≤ length p.memory → advance profile script p ≡ made profile script p k
unfolding advance pick
advances profile script p k e fits = rw (e, le-ltb (length p.memory) (p.used + room_of k) fits)

pub stands : (profile : Profile) (script : List ℕ) (p : Standing) (k : Option Call) → call_at script p.at ≡ k → length p.memory < p.used + room_of k → advance profile script p ≡ p
unfolding advance pick
stands profile script p k e small = rw (e, lt-ltb (length p.memory) (p.used + room_of k) small)
