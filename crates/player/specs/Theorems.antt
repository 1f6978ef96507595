-- What is proved here, each statement as a type; proofs/ has the proofs.
use Rattle.std.specs.Prelude.{◌≡◌, List, ℕ, ◌≤◌, length}
use Rattle.sources.specs.declared.Profile.{Profile}
use Rattle.player.specs.Played.{in_order, ends}
use Rattle.player.specs.Encoded.{Fed, fed, script_of, lent_to_all, Every, Bytes, Sendable}

-- every sequence of calls whose lengths fit two bytes, and whose numbers are those of their types, has a script
abbrev pub ScriptBytes : Type 0
ScriptBytes = (fs : List Fed) → Every Sendable fs → Bytes (script_of fs)

-- "any sequence of calls": with memory for all of them and places for their answers, the calls that its play makes are the sequence
abbrev pub PlaysAll : Type 0
PlaysAll = (profile : Profile) (fs : List Fed) (memory numbers lens : List ℕ) → lent_to_all fs ≤ length memory → length fs ≤ length numbers → length fs ≤ length lens
    → in_order fed (ends profile (script_of fs) memory numbers lens).history ≡ fs
