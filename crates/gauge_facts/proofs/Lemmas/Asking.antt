-- What a V2 frame asks, exactly, and exactly when the state allows it.
use mathlib.Core.Path.{◌≡◌, refl, sym, ap}
use mathlib.Core.Bool.{Bool, true, false, not, ◌&&◌, ◌||◌}
use mathlib.Core.List.{List, [], ◌∷◌}
use mathlib.Core.Logic.{◌↔◌, ◌⊎◌, inl, inr}
use Prim.Native.Nat.{ℕ}
use native.Mathlib.Omega.{arith}
use borrow.Author.Tests.{eqb-true, eq-eqb, not-false}
use lib.Dec.{eqb}
use lib.ListN.{length}
use Rattle.std.specs.Prelude.{Err, None, Ok, Option, Result, Some}
use Rattle.buffer.specs.First.{pick}
use Rattle.buffer.proofs.Rules.{each}
use Rattle.frames.specs.declared.HeadV2.{HeadV2}
use Rattle.settings.specs.Limits.{ProfileLimits}
use Rattle.settings.specs.Settings.{key_of}
use Rattle.settings.specs.declared.Key.{Key}
use Rattle.settings.specs.declared.Key.TheVariants.{DA, DU, C1, CM, CC, FC, ST, SM}
use Rattle.settings.specs.declared.Setting.{Setting}
use Rattle.settings.specs.declared.Setting.TheVariants.{Address, PressureIn, Factor, Control, Cathode, Filament, Switch, Stream}
use Rattle.readings.specs.Reading.{faulty_pressure, faulty_temperature}
use Rattle.forms.specs.Judged.{verdict_of, list_in}
use Rattle.forms_facts.specs.Sound.{Proper}
use Rattle.forms_facts.proofs.Exactly.{accepted_form, accepted_with_list}
use Rattle.requests.specs.Command.{command_of, command_text, read_code, write_code, restore_code, is_access, can_write, lacks_access}
use Rattle.requests.specs.AskV2.{set_of, write_of, ask_known, ask_named, ask_v2, write_list, named_list, ask_list}
use Rattle.requests.specs.declared.Command.{Command}
use Rattle.requests.specs.declared.Command.TheVariants.{MV, T2, FN, FS, Of}
use Rattle.requests.specs.declared.RequestV2.{RequestV2}
use Rattle.requests.specs.declared.RequestV2.TheVariants.{Read, Restore, Set}
use Rattle.requests_facts.proofs.Commands.{named_exactly}
use Rattle.request_texts.specs.RequestText.{access_of, command_in}
use Rattle.gauge_rules.specs.State.{State}
use Rattle.gauge_rules.specs.RulesV2.{changes_cathode, reads_faulty, grant_v2}
use Rattle.gauge_table.proofs.DecidedV2.{by}
use Rattle.gauge_facts.specs.Request.{DataFor, Allowed}
use Rattle.gauge_facts.proofs.Lemmas.Rows.{past_row}
use Rattle.refusals.specs.declared.Refusal.{Refusal}

-- ---- what is asked

pub no_data : (d : List ℕ) → eqb (length d) 0 ≡ true → d ≡ []
no_data [] e = refl
no_data (x ∷ d) e = absurd (let z = eqb-true (length (x ∷ d)) 0 e in omega arith)

-- a list and a request that go by the same test
both : (P : List ℕ → Result RequestV2 Refusal → Type 0) (t : Bool) (a c : List ℕ) (b d : Result RequestV2 Refusal) → (t ≡ true → P a b) → (t ≡ false → P c d) → P (pick t a c) (pick t b d)
unfolding pick
both P true a c b d k l = k refl
both P false a c b d k l = l refl

-- a request that is asked by this access code, command and data, with this list
abbrev Told : ProfileLimits → ℕ → Option Command → List ℕ → List ℕ → Result RequestV2 Refusal → Type 0
Told limits a n d list (Ok r) = (a ≡ access_of r) × (n ≡ Some (command_in r)) × DataFor limits r list d
Told limits a n d list (Err k) = Unit {0}

module _ (limits : ProfileLimits) (a : ℕ) (d : List ℕ) where
  set_told : (key : Key) (v : Result Setting Refusal) → a ≡ write_code → verdict_of limits key d ≡ v → Told limits a (Some (Of key)) d (list_in limits key d) (set_of v)
  unfolding set_of access_of command_in
  set_told key (Ok x) w e =
      let h = accepted_form limits key d x (list_in limits key d) e refl in
      (w, ap (λ (k : Key). Some (Of k)) (sym h.0), (h.1, h.2, h.3))
  set_told key (Err k) w e = tt

  written : (c : Command) → a ≡ write_code → Told limits a (Some c) d (write_list limits c d) (write_of limits c d)
  unfolding write_list write_of
  written MV w = tt
  written T2 w = tt
  written FN w = tt
  written FS w = tt
  written (Of key) w = set_told key (verdict_of limits key d) w refl

  restored : (c : Command) → lacks_access a c ≡ false → d ≡ [] → a ≡ restore_code → Told limits a (Some c) d [] (Ok (Restore c))
  unfolding lacks_access access_of command_in pick
  restored c l e w = (w, refl, (not-false _ (rw w at l), e, refl))

  taken : (c : Command) → is_access a ≡ true → eqb a write_code ≡ false → eqb a restore_code ≡ false → d ≡ [] → Told limits a (Some c) d [] (Ok (Read c))
  unfolding is_access access_of command_in
  taken c i w t e = (eqb-true a read_code (only (eqb a read_code) (eqb a write_code) (eqb a restore_code) i w t), refl, (e, refl))
    where
      only : (x y z : Bool) → (x || y || z) ≡ true → y ≡ false → z ≡ false → x ≡ true
      only true y z h p q = refl
      only false true z h p q = sym p
      only false false true h p q = sym q
      only false false false h p q = h

  unwritten : (c : Command) → is_access a ≡ true → lacks_access a c ≡ false → eqb a write_code ≡ false
      → Told limits a (Some c) d [] (pick (not (eqb (length d) 0)) (Err Refusal.Syntax) (pick (eqb a restore_code) (Ok (Restore c)) (Ok (Read c))))
  unwritten c i l w =
      each (Told limits a (Some c) d []) (not (eqb (length d) 0)) (Err Refusal.Syntax) _ (λ _. tt)
      (λ e. let z = no_data d (not-false _ e) in each (Told limits a (Some c) d []) (eqb a restore_code) (Ok (Restore c)) (Ok (Read c)) (λ t. restored c l z (eqb-true a restore_code t)) (λ t. taken c i w t z))

  named_told : (n : Option Command) → is_access a ≡ true → Told limits a n d (named_list limits a n d) (ask_named limits a n d)
  unfolding named_list ask_named ask_known
  named_told None i = tt
  named_told (Some c) i =
      both (Told limits a (Some c) d) (lacks_access a c) _ _ _ _ (λ _. tt)
      (λ l. both (Told limits a (Some c) d) (eqb a write_code) _ _ _ _ (λ w. written c (eqb-true a write_code w)) (λ w. unwritten c i l w))

asked_told : (limits : ProfileLimits) (h : HeadV2) (d : List ℕ) → Told limits h.access (command_of h.first h.second) d (ask_list limits h d) (ask_v2 limits h d)
unfolding ask_list ask_v2
asked_told limits h d =
    both (Told limits h.access (command_of h.first h.second) d) (not (is_access h.access)) _ _ _ _ (λ _. tt)
    (λ i. named_told limits h.access d (command_of h.first h.second) (not-false _ i))

-- what a frame asks has its access code, its command's text and its data
pub asked_form : (limits : ProfileLimits) (h : HeadV2) (d : List ℕ) (r : RequestV2) (list : List ℕ) → ask_v2 limits h d ≡ Ok r → ask_list limits h d ≡ list
    → (h.access ≡ access_of r) × (h.first ∷ h.second ∷ [] ≡ command_text (command_in r)) × DataFor limits r list d
asked_form limits h d r list e f =
    let t : Told limits h.access (command_of h.first h.second) d list (Ok r) = rw (e, f) at (asked_told limits h d) in
    (t.0, (named_exactly h.first h.second (command_in r)).0 t.1, t.2)

module _ (limits : ProfileLimits) (ok : Proper limits) (h : HeadV2) (d : List ℕ) where
  read_asked : (c : Command) (list : List ℕ) → h.access ≡ read_code → command_of h.first h.second ≡ Some c → DataFor limits (Read c) list d
      → (ask_v2 limits h d ≡ Ok (Read c)) × (ask_list limits h d ≡ list)
  unfolding ask_v2 ask_list is_access pick ask_named named_list ask_known lacks_access
  read_asked c list a n e = rw (a, n, e.0, e.1) (refl, refl)

  restore_asked : (c : Command) (list : List ℕ) → h.access ≡ restore_code → command_of h.first h.second ≡ Some c → DataFor limits (Restore c) list d
      → (ask_v2 limits h d ≡ Ok (Restore c)) × (ask_list limits h d ≡ list)
  unfolding ask_v2 ask_list is_access pick ask_named named_list ask_known lacks_access
  restore_asked c list a n e = rw (a, n, e.0, e.1, e.2) (refl, refl)

  set_asked : (x : Setting) (list : List ℕ) → h.access ≡ write_code → command_of h.first h.second ≡ Some (Of (key_of x)) → DataFor limits (Set x) list d
      → (ask_v2 limits h d ≡ Ok (Set x)) × (ask_list limits h d ≡ list)
  unfolding ask_v2 ask_list is_access pick ask_named named_list ask_known lacks_access can_write write_of write_list set_of
  set_asked x list a n e =
      let w = (accepted_with_list limits ok (key_of x) d x list).1 (refl, e.0, e.1, e.2) in
      rw (a, n, w.0, w.1) (refl, refl)

  told_asked : (r : RequestV2) (list : List ℕ) → h.access ≡ access_of r → command_of h.first h.second ≡ Some (command_in r) → DataFor limits r list d
      → (ask_v2 limits h d ≡ Ok r) × (ask_list limits h d ≡ list)
  unfolding access_of command_in
  told_asked (Read c) list a n e = read_asked c list a n e
  told_asked (Restore c) list a n e = restore_asked c list a n e
  told_asked (Set x) list a n e = set_asked x list a n e

  -- a frame asks a request, with a list of sources beside it, exactly if its access code, its command's text and its data are those of the request
  pub asked_exactly : (r : RequestV2) (list : List ℕ)
      → ((ask_v2 limits h d ≡ Ok r) × (ask_list limits h d ≡ list)) ↔ ((h.access ≡ access_of r) × (h.first ∷ h.second ∷ [] ≡ command_text (command_in r)) × DataFor limits r list d)
  asked_exactly r list = (λ w. asked_form limits h d r list w.0 w.1, λ w. told_asked r list w.0 ((named_exactly h.first h.second (command_in r)).1 w.1) w.2)

-- ---- what the state allows

-- a request of CC is a read, or changes it
of_cathode : (r : RequestV2) → command_in r ≡ Of CC → (access_of r ≡ read_code) ⊎ (changes_cathode r ≡ true)
unfolding command_in access_of changes_cathode
of_cathode (Read c) e = inl refl
of_cathode (Restore c) e = inr (rw e refl)
of_cathode (Set x) e = inr (go x e)
  where
    go : (x : Setting) → ◌≡◌ {A = Command} (Of (key_of x)) (Of CC) → changes_cathode (Set x) ≡ true
    go (Cathode v) e = refl
    go (Address v) e = absurd (let z : ◌≡◌ {A = ℕ} 0 1 = cc in omega arith)
    go (PressureIn v) e = absurd (let z : ◌≡◌ {A = ℕ} 0 1 = cc in omega arith)
    go (Factor v) e = absurd (let z : ◌≡◌ {A = ℕ} 0 1 = cc in omega arith)
    go (Control v) e = absurd (let z : ◌≡◌ {A = ℕ} 0 1 = cc in omega arith)
    go (Filament v) e = absurd (let z : ◌≡◌ {A = ℕ} 0 1 = cc in omega arith)
    go (Switch v) e = absurd (let z : ◌≡◌ {A = ℕ} 0 1 = cc in omega arith)
    go (Stream v) e = absurd (let z : ◌≡◌ {A = ℕ} 0 1 = cc in omega arith)

-- and what changes it is one of CC, and no read
abbrev Cathodic : RequestV2 → Type 0
Cathodic r = (command_in r ≡ Of CC) × (access_of r ≡ read_code → ⊥)

cathode_of : (r : RequestV2) → changes_cathode r ≡ true → Cathodic r
unfolding command_in access_of changes_cathode
cathode_of (Restore (Of CC)) e = (refl, λ z. omega arith)
cathode_of (Set (Cathode v)) e = (refl, λ z. omega arith)
cathode_of (Read c) e = absurd (let z : ◌≡◌ {A = ℕ} 0 1 = cc in omega arith)
cathode_of (Restore MV) e = absurd (let z : ◌≡◌ {A = ℕ} 0 1 = cc in omega arith)
cathode_of (Restore T2) e = absurd (let z : ◌≡◌ {A = ℕ} 0 1 = cc in omega arith)
cathode_of (Restore FN) e = absurd (let z : ◌≡◌ {A = ℕ} 0 1 = cc in omega arith)
cathode_of (Restore FS) e = absurd (let z : ◌≡◌ {A = ℕ} 0 1 = cc in omega arith)
cathode_of (Restore (Of DA)) e = absurd (let z : ◌≡◌ {A = ℕ} 0 1 = cc in omega arith)
cathode_of (Restore (Of DU)) e = absurd (let z : ◌≡◌ {A = ℕ} 0 1 = cc in omega arith)
cathode_of (Restore (Of C1)) e = absurd (let z : ◌≡◌ {A = ℕ} 0 1 = cc in omega arith)
cathode_of (Restore (Of CM)) e = absurd (let z : ◌≡◌ {A = ℕ} 0 1 = cc in omega arith)
cathode_of (Restore (Of FC)) e = absurd (let z : ◌≡◌ {A = ℕ} 0 1 = cc in omega arith)
cathode_of (Restore (Of ST)) e = absurd (let z : ◌≡◌ {A = ℕ} 0 1 = cc in omega arith)
cathode_of (Restore (Of SM)) e = absurd (let z : ◌≡◌ {A = ℕ} 0 1 = cc in omega arith)
cathode_of (Set (Address v)) e = absurd (let z : ◌≡◌ {A = ℕ} 0 1 = cc in omega arith)
cathode_of (Set (PressureIn v)) e = absurd (let z : ◌≡◌ {A = ℕ} 0 1 = cc in omega arith)
cathode_of (Set (Factor v)) e = absurd (let z : ◌≡◌ {A = ℕ} 0 1 = cc in omega arith)
cathode_of (Set (Control v)) e = absurd (let z : ◌≡◌ {A = ℕ} 0 1 = cc in omega arith)
cathode_of (Set (Filament v)) e = absurd (let z : ◌≡◌ {A = ℕ} 0 1 = cc in omega arith)
cathode_of (Set (Switch v)) e = absurd (let z : ◌≡◌ {A = ℕ} 0 1 = cc in omega arith)
cathode_of (Set (Stream v)) e = absurd (let z : ◌≡◌ {A = ℕ} 0 1 = cc in omega arith)

module _ (g : State) where
  rule_kept : (r : RequestV2) → (changes_cathode r && eqb g.settings.control 1) ≡ false → command_in r ≡ Of CC → g.settings.control ≡ 1 → access_of r ≡ read_code
  rule_kept r e c m = go (of_cathode r c)
    where
      go : (access_of r ≡ read_code) ⊎ (changes_cathode r ≡ true) → access_of r ≡ read_code
      go (inl a) = a
      go (inr b) = absurd (let z : ◌≡◌ {A = ℕ} 0 1 = cc (rw (b, m) at e) in omega arith)

  no_fault : (r : RequestV2) → Allowed g r → reads_faulty g.readings r ≡ false
  unfolding reads_faulty
  no_fault (Read MV) a = a.pressure refl
  no_fault (Read T2) a = a.temperature refl
  no_fault (Read FN) a = refl
  no_fault (Read FS) a = refl
  no_fault (Read (Of key)) a = refl
  no_fault (Restore c) a = refl
  no_fault (Set x) a = refl

  rule_holds : (r : RequestV2) → Allowed g r → (changes_cathode r && eqb g.settings.control 1) ≡ false
  rule_holds r a =
      by (changes_cathode r)
      (λ e. by (eqb g.settings.control 1) (λ m. let w = cathode_of r e in absurd (w.1 (a.rule w.0 (eqb-true _ 1 m)))) (λ m. rw (e, m)))
      (λ e. rw e)

  -- rows 12 and 13 do not apply exactly if the state allows the request
  pub granted_exactly : (r : RequestV2) → (grant_v2 g r ≡ 0) ↔ Allowed g r
  unfolding grant_v2 reads_faulty pick
  granted_exactly r = (to, λ a. rw (rule_holds r a, no_fault r a))
    where
      fault-mv : reads_faulty g.readings (Read MV) ≡ false → faulty_pressure g.readings.p0 ≡ false
      fault-mv e = e

      fault-t2 : reads_faulty g.readings (Read T2) ≡ false → faulty_temperature g.readings.t2 ≡ false
      fault-t2 e = e

      to : grant_v2 g r ≡ 0 → Allowed g r
      to e =
          let a = past_row (changes_cathode r && eqb g.settings.control 1) 12 _ refl (eq-eqb (grant_v2 g r) 0 e) in
          let b = past_row (reads_faulty g.readings r) 13 0 refl a.1 in
          record { rule = rule_kept r a.0; pressure = λ m. fault-mv (rw m at b.0); temperature = λ m. fault-t2 (rw m at b.0) }
