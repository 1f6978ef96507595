-- Requests of one access and one command are granted and answered alike.
use mathlib.Core.Path.{◌≡◌, refl, ap}
use mathlib.Core.Bool.{Bool, true, false}
use Prim.Native.Nat.{ℕ}
use native.Mathlib.Omega.{arith}
use Rattle.buffer.specs.Byte.{within}
use Rattle.buffer.proofs.Rules.{each}
use Rattle.settings.specs.Settings.{key_of}
use Rattle.settings.specs.declared.Key.{Key}
use Rattle.settings.specs.declared.Key.TheVariants.{DA, DU, C1, CM, CC, FC, ST, SM}
use Rattle.settings.specs.declared.Setting.{Setting}
use Rattle.settings.specs.declared.Setting.TheVariants.{Address, PressureIn, Factor, Control, Cathode, Filament, Switch, Stream}
use Rattle.requests.specs.declared.RequestV2.{RequestV2}
use Rattle.requests.specs.declared.RequestV2.TheVariants.{Read, Restore, Set}
use Rattle.request_texts.specs.RequestText.{access_of, command_in, head_for}
use Rattle.gauge_rules.specs.State.{State}
use Rattle.gauge_rules.specs.RulesV2.{changes_cathode, reads_faulty, grant_v2, sent_text, text_v2, answer_code}

-- the same head
pub same_head : (a : ℕ) (x y : RequestV2) → command_in x ≡ command_in y → access_of x ≡ access_of y → head_for a x ≡ head_for a y
unfolding head_for
same_head a x y c e = rw (c, e)

-- the same access and data of the reply
pub same_answer : (g : State) (x y : RequestV2) → command_in x ≡ command_in y → access_of x ≡ access_of y → (answer_code x ≡ answer_code y) × (text_v2 g x ≡ text_v2 g y)
unfolding command_in access_of answer_code text_v2
same_answer g (Read c) (Read d) e h = (refl, ap (sent_text g) e)
same_answer g (Read c) (Restore d) e h = absurd (omega arith)
same_answer g (Read c) (Set x) e h = absurd (omega arith)
same_answer g (Restore c) (Read d) e h = absurd (omega arith)
same_answer g (Restore c) (Restore d) e h = (refl, refl)
same_answer g (Restore c) (Set x) e h = absurd (omega arith)
same_answer g (Set x) (Read d) e h = absurd (omega arith)
same_answer g (Set x) (Restore d) e h = absurd (omega arith)
same_answer g (Set x) (Set y) e h = (refl, refl)

-- a write is one of CC by its command
cathode : Key → Bool
cathode DA = false
cathode DU = false
cathode C1 = false
cathode CM = false
cathode CC = true
cathode FC = false
cathode ST = false
cathode SM = false

by_key : (x : Setting) → changes_cathode (Set x) ≡ cathode (key_of x)
unfolding changes_cathode cathode
by_key (Address v) = refl
by_key (PressureIn u) = refl
by_key (Factor h) = refl
by_key (Control d) = refl
by_key (Cathode d) = refl
by_key (Filament d) = refl
by_key (Switch t) = refl
by_key (Stream on) = refl

same_write : (g : State) (x y : Setting) → key_of x ≡ key_of y → grant_v2 g (Set x) ≡ grant_v2 g (Set y)
unfolding grant_v2 reads_faulty
same_write g x y k = rw (by_key x, by_key y, k)

-- the same number by the rules
pub same_grant : (g : State) (x y : RequestV2) → command_in x ≡ command_in y → access_of x ≡ access_of y → grant_v2 g x ≡ grant_v2 g y
unfolding command_in access_of
same_grant g (Read c) (Read d) e h = rw e
same_grant g (Read c) (Restore d) e h = absurd (omega arith)
same_grant g (Read c) (Set x) e h = absurd (omega arith)
same_grant g (Restore c) (Read d) e h = absurd (omega arith)
same_grant g (Restore c) (Restore d) e h = rw e
same_grant g (Restore c) (Set x) e h = absurd (omega arith)
same_grant g (Set x) (Read d) e h = absurd (omega arith)
same_grant g (Set x) (Restore d) e h = absurd (omega arith)
same_grant g (Set x) (Set y) e h = same_write g x y (cc)

-- the rules answer 0, 12 or 13: no request that they judge is left without a reply
pub never_silent : (g : State) (r : RequestV2) → within 1 5 (grant_v2 g r) ≡ false
unfolding grant_v2 within
never_silent g r = each P _ _ _ (λ _. refl) (λ _. each P _ _ _ (λ _. refl) (λ _. refl))
  where
    P : ℕ → Type 0
    P k = within 1 5 k ≡ false
