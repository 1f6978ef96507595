-- The table for V2, each row on the bytes' access code, command and data alone: CC's rule and the faulty sensor without what the decoder
-- makes of them.
use mathlib.Core.Path.{◌≡◌, refl, sym}
use mathlib.Core.Bool.{Bool, true, false, not, ◌&&◌}
use mathlib.Core.List.{List, [], ◌∷◌}
use Prim.Native.Nat.{ℕ}
use lib.Dec.{eqb}
use Rattle.std.specs.Prelude.{Err, Ok, Result}
use Rattle.buffer.specs.First.{pick}
use Rattle.buffer.specs.Byte.{same_text}
use Rattle.buffer.specs.Quoted.{bytes}
use Rattle.frames.specs.Frame.{data_from, head_v2}
use Rattle.frames.specs.declared.HeadV2.{HeadV2}
use Rattle.settings.specs.declared.Key.TheVariants.{DA, DU, C1, CM, CC, FC, ST, SM}
use Rattle.settings.specs.declared.Setting.TheVariants.{Address, PressureIn, Factor, Control, Cathode, Filament, Switch, Stream}
use Rattle.readings.specs.declared.Readings.{Readings}
use Rattle.requests.specs.Command.{command_of, command_text, read_code}
use Rattle.requests.specs.AskV2.{ask_v2, ask_list}
use Rattle.requests.specs.declared.Command.TheVariants.{MV, T2, FN, FS, Of}
use Rattle.requests.specs.declared.RequestV2.{RequestV2}
use Rattle.requests.specs.declared.RequestV2.TheVariants.{Read, Restore, Set}
use Rattle.request_texts.specs.RequestText.{access_of, command_in}
use Rattle.gauge_rules.specs.State.{State}
use Rattle.gauge_rules.specs.RulesV2.{changes_cathode, reads_faulty}
use Rattle.gauge_table.specs.Asked.{wrong_code, unknown_command, lacks, bad_form_v2, outside_v2, against_logic, breaks_rule, asks_faulty}
use Rattle.gauge_table.specs.Table.{number_of}
use Rattle.gauge_table.specs.Decided.{decided_v2}
use Rattle.gauge_table.proofs.DecidedV2.{decided_v2_lem}
use Rattle.gauge_facts.specs.Columns.{cathode_held, sensor_faulty}
use Rattle.gauge_facts.specs.Theorems.{NumberOnBytes}
use Rattle.gauge_table.proofs.Numbers.{some_number}
use Rattle.gauge_facts.proofs.Lemmas.Asking.{asked_form}
use Rattle.refusals.specs.declared.Refusal.{Refusal}
use native.Mathlib.Omega.{arith}

changes_is : (r : RequestV2) → changes_cathode r ≡ (same_text (command_text (command_in r)) (bytes "CC") && not (eqb (access_of r) read_code))
unfolding changes_cathode command_text command_in access_of same_text
changes_is (Read MV) = refl
changes_is (Read T2) = refl
changes_is (Read FN) = refl
changes_is (Read FS) = refl
changes_is (Read (Of DA)) = refl
changes_is (Read (Of DU)) = refl
changes_is (Read (Of C1)) = refl
changes_is (Read (Of CM)) = refl
changes_is (Read (Of CC)) = refl
changes_is (Read (Of FC)) = refl
changes_is (Read (Of ST)) = refl
changes_is (Read (Of SM)) = refl
changes_is (Restore MV) = refl
changes_is (Restore T2) = refl
changes_is (Restore FN) = refl
changes_is (Restore FS) = refl
changes_is (Restore (Of DA)) = refl
changes_is (Restore (Of DU)) = refl
changes_is (Restore (Of C1)) = refl
changes_is (Restore (Of CM)) = refl
changes_is (Restore (Of CC)) = refl
changes_is (Restore (Of FC)) = refl
changes_is (Restore (Of ST)) = refl
changes_is (Restore (Of SM)) = refl
changes_is (Set (Address v)) = refl
changes_is (Set (PressureIn v)) = refl
changes_is (Set (Factor v)) = refl
changes_is (Set (Control v)) = refl
changes_is (Set (Cathode v)) = refl
changes_is (Set (Filament v)) = refl
changes_is (Set (Switch v)) = refl
changes_is (Set (Stream v)) = refl

faulty_is : (d : Readings) (r : RequestV2) → reads_faulty d r ≡ sensor_faulty d (access_of r) (command_text (command_in r))
unfolding reads_faulty command_text command_in access_of same_text pick
faulty_is d (Read MV) = refl
faulty_is d (Read T2) = refl
faulty_is d (Read FN) = refl
faulty_is d (Read FS) = refl
faulty_is d (Read (Of DA)) = refl
faulty_is d (Read (Of DU)) = refl
faulty_is d (Read (Of C1)) = refl
faulty_is d (Read (Of CM)) = refl
faulty_is d (Read (Of CC)) = refl
faulty_is d (Read (Of FC)) = refl
faulty_is d (Read (Of ST)) = refl
faulty_is d (Read (Of SM)) = refl
faulty_is d (Restore c) = refl
faulty_is d (Set x) = refl

-- past a row that two tables share
skip : (t : Bool) (k m n : ℕ) → (t ≡ false → m ≡ n) → pick t k m ≡ pick t k n
unfolding pick
skip true k m n e = refl
skip false k m n e = e refl

-- V1's lock is no row of V2
unlocked : (k m n : ℕ) → m ≡ n → pick false k m ≡ n
unfolding pick
unlocked k m n e = e

module _ (g : State) (h : HeadV2) (d : List ℕ) where
  abbrev theCommand : List ℕ
  theCommand = h.first ∷ h.second ∷ []

  -- bytes that pass the rows up to LOGIC in the data ask a typed request
  typed : wrong_code h.access ≡ false → unknown_command (command_of h.first h.second) ≡ false → lacks h.access (command_of h.first h.second) ≡ false
      → bad_form_v2 g.limits h.access (command_of h.first h.second) d ≡ false → outside_v2 g.limits h.access (command_of h.first h.second) d ≡ false
      → against_logic g.limits h.access (command_of h.first h.second) d ≡ false → (r : RequestV2) × (ask_v2 g.limits h d ≡ Ok r)
  unfolding pick breaks_rule asks_faulty decided_v2
  typed c u l f o e = go (ask_v2 g.limits h d) (rw (c, u, l, f, o, e) at (decided_v2_lem g h d))
    where
      go : (ask : Result RequestV2 Refusal) → pick (breaks_rule g ask) 12 (pick (asks_faulty g ask) 13 0) ≡ decided_v2 g ask → (r : RequestV2) × (ask ≡ Ok r)
      go (Ok r) z = (r, refl)
      go (Err k) z = absurd (omega (arith, some_number k))

  last : (r : RequestV2) → ask_v2 g.limits h d ≡ Ok r
      → ◌≡◌ {A = ℕ} (pick (breaks_rule g (ask_v2 g.limits h d)) 12 (pick (asks_faulty g (ask_v2 g.limits h d)) 13 0)) (pick (cathode_held g h.access theCommand) 12 (pick (sensor_faulty g.readings h.access theCommand) 13 0))
  unfolding breaks_rule asks_faulty
  last r e =
      let w = asked_form g.limits h d r (ask_list g.limits h d) e refl in
      rw (e, w.0, w.1, changes_is r, faulty_is g.readings r)

-- the table's number of V2 bytes
pub number_on_bytes : NumberOnBytes
unfolding number_of head_v2
number_on_bytes g room s l =
    rw l
    (skip _ 1 _ _ (λ _. skip _ 2 _ _ (λ _. skip _ 3 _ _ (λ _. skip _ 4 _ _ (λ _. skip _ 5 _ _ (λ _. skip _ 6 _ _
    (λ _. skip _ 7 _ _ (λ c. skip _ 8 _ _ (λ u. skip _ 9 _ _ (λ k. skip _ 10 _ _ (λ f. unlocked 12 _ _ (skip _ 11 _ _ (λ o. skip _ 12 _ _
    (λ e. let w = typed g (head_v2 s) (data_from 8 s) c u k f o e in last g (head_v2 s) (data_from 8 s) w.0 w.1))))))))))))))
