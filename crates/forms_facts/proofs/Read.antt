-- What a read of a setting sends is accepted as that setting.
use mathlib.Core.Path.{◌≡◌, refl, ap}
use mathlib.Core.Bool.{false}
use mathlib.Core.List.{List, [], ◌∷◌, append_assoc}
use Prim.Native.Nat.{ℕ, ◌+◌, ◌<◌}
use native.Mathlib.Omega.{arith}
use Rattle.buffer.specs.Byte.{digit}
use Rattle.decimal_text.specs.Written.{written_of, two_decimals}
use Rattle.decimal_facts.proofs.RoundTrip.{written_reads, hundredths_read}
use Rattle.decimal_facts.proofs.Value.{hundredths_exactly}
use Rattle.settings.specs.Limits.{ProfileLimits}
use Rattle.settings.specs.Settings.{Held, key_of}
use Rattle.settings.specs.Sent.{transition_text, stream_text, read_text}
use Rattle.settings.specs.declared.Transition.{Transition}
use Rattle.settings.specs.declared.Transition.TheVariants.{Direct, Between}
use Rattle.settings.specs.declared.Key.{Key}
use Rattle.settings.specs.declared.Key.TheVariants.{DA, DU, C1, CM, CC, FC, ST, SM}
use Rattle.settings.specs.declared.Setting.TheVariants.{Factor, Switch}
use Rattle.forms.specs.Judged.{verdict_of, if_set, list_in}
use Rattle.forms_facts.specs.Sound.{Sound, SoundSettings, setting_in}
use Rattle.forms_facts.specs.Form.{Form}
use Rattle.forms_facts.proofs.Exactly.{accepted_exactly}
use Rattle.forms_facts.proofs.Lemmas.Texts.{list_again}
use Rattle.forms_facts.specs.Theorems.{ReadAgain, ListReadAgain}

value_key : (key : Key) (s : Held) → key_of (setting_in key s) ≡ key
value_key DA s = refl
value_key DU s = refl
value_key C1 s = refl
value_key CM s = refl
value_key CC s = refl
value_key FC s = refl
value_key ST s = refl
value_key SM s = refl

value_sound : (limits : ProfileLimits) (key : Key) (s : Held) → SoundSettings limits s → Sound limits (setting_in key s)
value_sound limits DA s f = f.address
value_sound limits DU s f = tt
value_sound limits C1 s f = f.factor
value_sound limits CM s f = f.control
value_sound limits CC s f = f.cathode
value_sound limits FC s f = f.filament
value_sound limits ST s f = f.transition
value_sound limits SM s f = tt

factor_form : (limits : ProfileLimits) (h : ℕ) → Sound limits (Factor h) → Form limits (two_decimals false h) (Factor h)
factor_form limits h k =
    let w = hundredths_read false h (omega (arith, k.1)) in
    (w.0, w.1, w.3 (omega (arith, k.0)), ((hundredths_exactly w.0 _).0 w.2).0)

digit_form : (d : ℕ) → d < 10 → ◌≡◌ {A = List ℕ} (digit d ∷ []) ((d + 48) ∷ [])
digit_form d h =
    let e : digit d ≡ d + 48 = omega arith in
    rw e

transition_form : (limits : ProfileLimits) (t : Transition) → Sound limits (Switch t) → Form limits (transition_text t) (Switch t)
unfolding transition_text
transition_form limits (Direct n) h = (written_of n, refl, written_reads n h.canonical)
transition_form limits (Between a b) h =
    (written_of a, written_of b, ap (λ (l : List ℕ). 70 ∷ l) (append_assoc (written_of a) (84 ∷ []) (written_of b)), written_reads a h.1.canonical, written_reads b h.2.canonical)

value_form : (limits : ProfileLimits) (key : Key) (s : Held) → SoundSettings limits s → Form limits (read_text key s) (setting_in key s)
unfolding read_text
value_form limits DA s f = refl
value_form limits DU s f = refl
value_form limits C1 s f = factor_form limits s.factor f.factor
value_form limits CM s f = digit_form s.control (omega (arith, f.control))
value_form limits CC s f = digit_form s.cathode (omega (arith, f.cathode))
value_form limits FC s f = digit_form s.filament (omega (arith, f.filament))
value_form limits ST s f = transition_form limits s.transition f.transition
value_form limits SM s f = (s.list, f.list, refl)

-- what a read sends is accepted as the value that was read
pub read_again : ReadAgain
read_again limits ok key s f = (accepted_exactly limits ok key (read_text key s) (setting_in key s)).1 (value_key key s, value_form limits key s f, value_sound limits key s f)

-- and, while lines are sent, with the same list
pub list_read_again : ListReadAgain
unfolding list_in if_set read_text stream_text verdict_of
list_read_again limits ok s f e = rw (read_again limits ok SM s f, e) (list_again limits.source_codes ok.here s.list f.list)
