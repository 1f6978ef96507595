-- A V2 request, decoded and then decided, has the number that the table's rows give it.
use mathlib.Core.Path.{◌≡◌, refl}
use mathlib.Core.Bool.{Bool, true, false, not, true≢false}
use mathlib.Core.List.{List, [], ◌∷◌}
use mathlib.Core.Logic.{◌⊎◌, inl, inr}
use Prim.Native.Nat.{ℕ}
use lib.Dec.{eqb, eqb-suc-zero}
use lib.ListN.{length}
use Rattle.std.specs.Prelude.{Err, None, Ok, Option, Result, Some}
use Rattle.buffer.specs.First.{◌⇒◌, first, pick}
use Rattle.frames.specs.declared.HeadV2.{HeadV2}
use Rattle.settings.specs.declared.Key.{Key}
use Rattle.forms.specs.Judged.{verdict_of}
use Rattle.requests.specs.Command.{command_of, write_code, restore_code, is_access, can_write, lacks_access}
use Rattle.requests.specs.AskV2.{set_of, write_of, ask_known, ask_named, ask_v2}
use Rattle.requests.specs.declared.Command.{Command}
use Rattle.requests.specs.declared.Command.TheVariants.{MV, T2, FN, FS, Of}
use Rattle.requests.specs.declared.RequestV2.TheVariants.{Read, Restore}
use Rattle.requests_facts.proofs.Data.{refused_data, none_with_write}
use Rattle.gauge_rules.specs.State.{State}
use Rattle.gauge_rules.specs.RulesV2.{grant_v2}
use Rattle.gauge_table.specs.Decided.{decided_v2}
use Rattle.gauge_table.specs.Asked.{wrong_code, unknown_command, lacks, data_number, bad_form_v2, outside_v2, against_logic, breaks_rule, asks_faulty}
use Rattle.refusals.specs.declared.Refusal.{Refusal}
use Rattle.requests.specs.declared.RequestV2.{RequestV2}
use Rattle.settings.specs.declared.Setting.{Setting}
use Rattle.refusals.specs.Number.{refusal_number}

-- the table's rows from 8 on, and from 10 on
abbrev from10 : State → ℕ → Option Command → List ℕ → Result RequestV2 Refusal → ℕ
from10 g a n d ask =
    first
    (bad_form_v2 g.limits a n d ⇒ 10
    ∷ outside_v2 g.limits a n d ⇒ 11
    ∷ against_logic g.limits a n d ⇒ 12
    ∷ breaks_rule g ask ⇒ 12
    ∷ asks_faulty g ask ⇒ 13
    ∷ [])
    0

abbrev from8 : State → ℕ → Option Command → List ℕ → Result RequestV2 Refusal → ℕ
from8 g a n d ask = first (unknown_command n ⇒ 8 ∷ lacks a n ⇒ 9 ∷ []) (from10 g a n d ask)

-- the table's rows of V2 from 7 on
abbrev pub from7 : State → ℕ → Option Command → List ℕ → Result RequestV2 Refusal → ℕ
from7 g a n d ask = first (wrong_code a ⇒ 7 ∷ []) (from8 g a n d ask)

-- by a test, with what it says
pub by : {P : Type 0} (b : Bool) → (b ≡ true → P) → (b ≡ false → P) → P
by true f h = f refl
by false f h = h refl

module _ (g : State) (a : ℕ) (d : List ℕ) where
  -- a write's data, as they are judged
  module _ (key : Key) (w : eqb a write_code ≡ true) where
    some : (y : ℕ) (ds : List ℕ) (v : Result Setting Refusal) → verdict_of g.limits key (y ∷ ds) ≡ v → from10 g a (Some (Of key)) (y ∷ ds) (set_of v) ≡ decided_v2 g (set_of v)
    unfolding bad_form_v2 outside_v2 against_logic data_number breaks_rule asks_faulty decided_v2 grant_v2 set_of pick
    some y ds (Ok x) e = rw (w, e, eqb-suc-zero (length ds))
    some y ds (Err k) e = go (refused_data g.limits key (y ∷ ds) k e)
      where
        go : (k ≡ Refusal.Syntax) ⊎ ((k ≡ Refusal.Range) ⊎ (k ≡ Refusal.Logic)) → from10 g a (Some (Of key)) (y ∷ ds) (Err k) ≡ refusal_number k
        go (inl n) = rw (w, e, n, eqb-suc-zero (length ds))
        go (inr (inl n)) = rw (w, e, n, eqb-suc-zero (length ds))
        go (inr (inr n)) = rw (w, e, n, eqb-suc-zero (length ds)) refl

    judged : (s : List ℕ) → from10 g a (Some (Of key)) s (set_of (verdict_of g.limits key s)) ≡ decided_v2 g (set_of (verdict_of g.limits key s))
    unfolding bad_form_v2 decided_v2 set_of pick
    judged [] = rw (w, none_with_write g.limits key)
    judged (y ∷ ds) = some y ds (verdict_of g.limits key (y ∷ ds)) refl

  -- a write of a command that has it
  written : (c : Command) → lacks_access a c ≡ false → eqb a write_code ≡ true → from10 g a (Some c) d (write_of g.limits c d) ≡ decided_v2 g (write_of g.limits c d)
  unfolding lacks_access can_write write_of pick
  written MV e w = absurd (true≢false (rw w at e))
  written T2 e w = absurd (true≢false (rw w at e))
  written FN e w = absurd (true≢false (rw w at e))
  written FS e w = absurd (true≢false (rw w at e))
  written (Of key) e w = judged key w d

  -- a read or a restore; z says that there are no data, t that it is a restore
  unwritten : (c : Command) (z t : Bool)
      → pick (not z) 10 (pick (breaks_rule g (pick (not z) (Err Refusal.Syntax) (pick t (Ok (Restore c)) (Ok (Read c))))) 12 (pick (asks_faulty g (pick (not z) (Err Refusal.Syntax) (pick t (Ok (Restore c)) (Ok (Read c))))) 13 0))
      ≡ decided_v2 g (pick (not z) (Err Refusal.Syntax) (pick t (Ok (Restore c)) (Ok (Read c))))
  unfolding breaks_rule asks_faulty decided_v2 grant_v2 pick
  unwritten c false t = refl
  unwritten c true true = refl
  unwritten c true false = refl

  lacking : (c : Command) → lacks_access a c ≡ true → from8 g a (Some c) d (ask_known g.limits a c d) ≡ decided_v2 g (ask_known g.limits a c d)
  unfolding unknown_command lacks ask_known decided_v2 pick
  lacking c e = rw e refl

  writing : (c : Command) → lacks_access a c ≡ false → eqb a write_code ≡ true → from8 g a (Some c) d (ask_known g.limits a c d) ≡ decided_v2 g (ask_known g.limits a c d)
  unfolding unknown_command lacks ask_known pick
  writing c e w = rw (e, w) (written c e w)

  reading : (c : Command) → lacks_access a c ≡ false → eqb a write_code ≡ false → from8 g a (Some c) d (ask_known g.limits a c d) ≡ decided_v2 g (ask_known g.limits a c d)
  unfolding unknown_command lacks ask_known bad_form_v2 outside_v2 against_logic pick
  reading c e w = rw (e, w) (unwritten c (eqb (length d) 0) (eqb a restore_code))

  known : (c : Command) → from8 g a (Some c) d (ask_known g.limits a c d) ≡ decided_v2 g (ask_known g.limits a c d)
  known c = by (lacks_access a c) (lacking c) (λ e. by (eqb a write_code) (writing c e) (reading c e))

  named : (n : Option Command) → from8 g a n d (ask_named g.limits a n d) ≡ decided_v2 g (ask_named g.limits a n d)
  unfolding ask_named unknown_command decided_v2 pick
  named None = refl
  named (Some c) = known c

-- an access code of the table, or not
coded : (g : State) (a : ℕ) (n : Option Command) (d : List ℕ) (ask : Result RequestV2 Refusal) (b : Bool) → from8 g a n d ask ≡ decided_v2 g ask
    → pick (not b) 7 (from8 g a n d (pick (not b) (Err Refusal.Code) ask)) ≡ decided_v2 g (pick (not b) (Err Refusal.Code) ask)
unfolding decided_v2 pick
coded g a n d ask true e = e
coded g a n d ask false e = refl

-- a V2 request, decoded and then decided, has the table's number
pub decided_v2_lem : (g : State) (h : HeadV2) (d : List ℕ) → from7 g h.access (command_of h.first h.second) d (ask_v2 g.limits h d) ≡ decided_v2 g (ask_v2 g.limits h d)
unfolding ask_v2
decided_v2_lem g h d =
    let n = command_of h.first h.second in
    coded g h.access n d (ask_named g.limits h.access n d) (is_access h.access) (named g h.access d n)
