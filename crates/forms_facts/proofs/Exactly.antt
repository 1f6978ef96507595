-- Document 01, the column "Data": exactly which texts are accepted, and as what.
use mathlib.Core.Path.{◌≡◌, refl, sym, ap, ◌∙◌}
use mathlib.Core.Bool.{Bool, true, false}
use mathlib.Core.List.{List, [], ◌∷◌}
use Prim.Native.Nat.{ℕ}
use lib.ListN.{drop}
use Rattle.std.specs.Prelude.{Ok}
use Rattle.sources.specs.Entries.{source_texts, entries_of, entries_list}
use Rattle.settings.specs.Limits.{ProfileLimits}
use Rattle.settings.specs.Settings.{key_of}
use Rattle.settings.specs.Sent.{stream_text}
use Rattle.settings.specs.declared.Key.{Key}
use Rattle.settings.specs.declared.Key.TheVariants.{SM}
use Rattle.settings.specs.declared.Setting.{Setting}
use Rattle.settings.specs.declared.Setting.TheVariants.{Address, PressureIn, Factor, Control, Cathode, Filament, Switch, Stream}
use Rattle.forms.specs.Judged.{verdict_of, if_set, list_in}
use Rattle.forms_facts.specs.Codes.{GoodList}
use Rattle.forms_facts.proofs.Within.{accepted_sound, accepted_list}
use Rattle.forms_facts.specs.Sound.{Sound, Proper}
use Rattle.forms_facts.specs.Form.{Form, FormWith}
use Rattle.forms_facts.proofs.Again.{sent_as_accepted}
use Rattle.forms_facts.proofs.Lemmas.Formed.{formed, is_set}
use Rattle.forms_facts.proofs.Lemmas.Lists.{none_good}
use Rattle.forms_facts.proofs.Lemmas.Texts.{none_number, list_again}
use Rattle.forms_facts.specs.Theorems.{AcceptedExactly, AcceptedWithList}

-- data are accepted as a setting exactly where it is the command's, the text has its form, and it is within the limits
pub accepted_exactly : AcceptedExactly
accepted_exactly limits ok key s x = (λ e. let w = rw e at (formed limits key s) in (w.0, w.1, accepted_sound limits key s x e), λ w. rw w.0 at (is_set limits ok s x w.1 w.2))

-- ---- with the list of sources beside it

none_listed : (limits : ProfileLimits) → entries_list limits.source_codes [] ≡ []
unfolding entries_list entries_of source_texts
none_listed limits = rw (none_number limits.source_codes)

-- what is accepted has the form with the list that stands beside it
with_list : (limits : ProfileLimits) (s : List ℕ) (x : Setting) → verdict_of limits (key_of x) s ≡ Ok x → Form limits s x → FormWith limits s x (list_in limits (key_of x) s)
unfolding list_in if_set verdict_of stream_text
with_list limits s (Address v) e f = (f, refl)
with_list limits s (PressureIn u) e f = (f, refl)
with_list limits s (Factor h) e f = (f, refl)
with_list limits s (Control d) e f = (f, refl)
with_list limits s (Cathode d) e f = (f, refl)
with_list limits s (Filament d) e f = (f, refl)
with_list limits s (Switch t) e f = (f, refl)
with_list limits s (Stream on) e f = go on e
  where
    go : (on : Bool) → verdict_of limits SM s ≡ Ok (Stream on) → FormWith limits s (Stream on) (list_in limits SM s)
    go true e = rw e (sym (sent_as_accepted limits s true e))
    go false e =
        let z : s ≡ 48 ∷ [] = sym (sent_as_accepted limits s false e) in
        rw e (z, ap (λ (t : List ℕ). entries_list limits.source_codes (drop 1 t)) z ∙ none_listed limits)

-- a text of that form has the form, and lists the same
form_only : (limits : ProfileLimits) (s : List ℕ) (x : Setting) (list : List ℕ) → FormWith limits s x list → GoodList limits.source_codes list → Form limits s x
unfolding stream_text
form_only limits s (Address v) list f h = f.0
form_only limits s (PressureIn u) list f h = f.0
form_only limits s (Factor k) list f h = f.0
form_only limits s (Control d) list f h = f.0
form_only limits s (Cathode d) list f h = f.0
form_only limits s (Filament d) list f h = f.0
form_only limits s (Switch t) list f h = f.0
form_only limits s (Stream true) list f h = (list, h, f)
form_only limits s (Stream false) list f h = ([], none_good limits.source_codes, f.0)

listed : (limits : ProfileLimits) → Proper limits → (s : List ℕ) (x : Setting) (list : List ℕ) → FormWith limits s x list → GoodList limits.source_codes list → verdict_of limits (key_of x) s ≡ Ok x → list_in limits (key_of x) s ≡ list
unfolding list_in if_set verdict_of
listed limits ok s (Address v) list f h e = sym f.1
listed limits ok s (PressureIn u) list f h e = sym f.1
listed limits ok s (Factor k) list f h e = sym f.1
listed limits ok s (Control d) list f h e = sym f.1
listed limits ok s (Cathode d) list f h e = sym f.1
listed limits ok s (Filament d) list f h e = sym f.1
listed limits ok s (Switch t) list f h e = sym f.1
listed limits ok s (Stream true) list f h e = rw (e, f) (list_again limits.source_codes ok.here list h)
listed limits ok s (Stream false) list f h e = rw (e, f.0) (none_listed limits ∙ sym f.1)

-- what is accepted is of that form, and within the limits
pub accepted_form : (limits : ProfileLimits) (key : Key) (s : List ℕ) (x : Setting) (list : List ℕ) → verdict_of limits key s ≡ Ok x → list_in limits key s ≡ list
    → (key_of x ≡ key) × FormWith limits s x list × Sound limits x × GoodList limits.source_codes list
accepted_form limits key s x list e f =
    let w = rw e at (formed limits key s) in
    let m : verdict_of limits (key_of x) s ≡ Ok x = rw w.0 e in
    let l : list_in limits (key_of x) s ≡ list = rw w.0 f in
    (w.0, rw l at (with_list limits s x m w.1), accepted_sound limits key s x e, rw f at (accepted_list limits key s))

-- data are accepted as a setting with a list of sources exactly where it is the command's, the text has the form of the two, and both are
-- within the limits
pub accepted_with_list : AcceptedWithList
accepted_with_list limits ok key s x list = (λ w. accepted_form limits key s x list w.0 w.1, λ w. from key w.0 w.1 w.2 w.3)
  where
    from : (key : Key) → key_of x ≡ key → FormWith limits s x list → Sound limits x → GoodList limits.source_codes list → (verdict_of limits key s ≡ Ok x) × (list_in limits key s ≡ list)
    from key k f h l =
        let e : verdict_of limits (key_of x) s ≡ Ok x = (accepted_exactly limits ok (key_of x) s x).1 (refl, form_only limits s x list f l, h) in
        let m : list_in limits (key_of x) s ≡ list = listed limits ok s x list f l e in
        (rw k at e, rw k at m)
