-- What a V2 frame asks: a typed request, or the first refusal that applies whatever the state, 7 to 12.
use Rattle.std.specs.Prelude.{not, List, [], ◌∷◌, ℕ, eqb, length, Err, None, Ok, Option, Result, Some}
use Rattle.buffer.specs.First.{◌⇒◌, first}
use Rattle.frames.specs.declared.HeadV2.{HeadV2}
use Rattle.sources.specs.Beside.{Beside}
use Rattle.sources.specs.declared.WithSources.{WithSources}
use Rattle.settings.specs.Limits.{ProfileLimits}
use Rattle.settings.specs.declared.Setting.{Setting}
use Rattle.forms.specs.Judged.{verdict_of, list_in}
use Rattle.requests.specs.Command.{command_of, write_code, restore_code, is_access, lacks_access}
use Rattle.requests.specs.declared.Command.{Command}
use Rattle.requests.specs.declared.Command.TheVariants.{MV, T2, FN, FS, Of}
use Rattle.requests.specs.declared.RequestV2.{RequestV2}
use Rattle.requests.specs.declared.RequestV2.TheVariants.{Read, Restore, Set}
use Rattle.refusals.specs.declared.Refusal.{Refusal}

-- the data of a write, as they are judged
unfoldable pub set_of : Result Setting Refusal → Result RequestV2 Refusal
set_of (Ok x) = Ok (Set x)
set_of (Err k) = Err k

-- a write to a gauge of these limits; a command that has none is refused with 9 before its data are looked at
unfoldable pub write_of : ProfileLimits → Command → List ℕ → Result RequestV2 Refusal
write_of limits MV s = Err Refusal.Access
write_of limits T2 s = Err Refusal.Access
write_of limits FN s = Err Refusal.Access
write_of limits FS s = Err Refusal.Access
write_of limits (Of key) s = set_of (verdict_of limits key s)

-- a known command, with this access code and these data; "data with a read or default" is SYNTAX
unfoldable pub ask_known : ProfileLimits → ℕ → Command → List ℕ → Result RequestV2 Refusal
ask_known limits access c s =
    first
    (lacks_access access c ⇒ Err Refusal.Access
    ∷ eqb access write_code ⇒ write_of limits c s
    ∷ not (eqb (length s) 0) ⇒ Err Refusal.Syntax
    ∷ eqb access restore_code ⇒ Ok (Restore c)
    ∷ [])
    (Ok (Read c))

unfoldable pub ask_named : ProfileLimits → ℕ → Option Command → List ℕ → Result RequestV2 Refusal
ask_named limits access None s = Err Refusal.NoDef
ask_named limits access (Some c) s = ask_known limits access c s

unfoldable pub ask_v2 : ProfileLimits → HeadV2 → List ℕ → Result RequestV2 Refusal
ask_v2 limits h s = first (not (is_access h.access) ⇒ Err Refusal.Code ∷ []) (ask_named limits h.access (command_of h.first h.second) s)

-- the sources that a write of SM lists; none beside any other request
unfoldable pub write_list : ProfileLimits → Command → List ℕ → List ℕ
write_list limits MV s = []
write_list limits T2 s = []
write_list limits FN s = []
write_list limits FS s = []
write_list limits (Of key) s = list_in limits key s

unfoldable pub named_list : ProfileLimits → ℕ → Option Command → List ℕ → List ℕ
named_list limits access None s = []
named_list limits access (Some c) s = first (lacks_access access c ⇒ [] ∷ eqb access write_code ⇒ write_list limits c s ∷ []) []

unfoldable pub ask_list : ProfileLimits → HeadV2 → List ℕ → List ℕ
ask_list limits h s = first (not (is_access h.access) ⇒ [] ∷ []) (named_list limits h.access (command_of h.first h.second) s)

-- a write, and beside it the sources that it lists
abbrev pub Writes : ProfileLimits → Command → List ℕ → WithSources (Result RequestV2 Refusal) → Type 0
Writes limits c s r = Beside (write_of limits c s) (write_list limits c s) r

-- what a frame asks, and beside it the sources of a write of SM
abbrev pub AsksV2 : ProfileLimits → HeadV2 → List ℕ → WithSources (Result RequestV2 Refusal) → Type 0
AsksV2 limits h s r = Beside (ask_v2 limits h s) (ask_list limits h s) r
