-- What a request that was read holds, so that the writer forms it as it is.
use mathlib.Core.Path.{◌≡◌, refl, sym, ap}
use mathlib.Core.Bool.{Bool, true, false, not, ◌&&◌, true≢false}
use mathlib.Core.List.{List, [], ◌∷◌}
use Prim.Native.Nat.{ℕ, ◌<◌, ◌≤◌}
use native.Mathlib.Omega.{arith}
use borrow.Author.Tests.{eqb-true, eqb-false, lt-leb, le-ltb, not-false}
use lib.Dec.{eqb}
use lib.ListN.{length, take}
use Rattle.std.specs.Prelude.{Err, None, Ok, Option, Result, Some}
use Rattle.buffer.specs.First.{pick}
use Rattle.buffer.specs.Byte.{within, is_digit, every, numeral, numeral_from}
use Rattle.buffer.proofs.Laws.{within_true, within_in}
use Rattle.buffer.proofs.Rules.{past, each}
use Rattle.decimal.specs.Exact.{units, normal_of}
use Rattle.decimal.specs.declared.Number.{Number}
use Rattle.decimal_facts.proofs.Value.{exact}
use Rattle.frames.specs.Frame.{address_of, wrong_address}
use Rattle.frames.specs.declared.HeadV2.{HeadV2}
use Rattle.sources.specs.Source.{among, all_differ, list_of}
use Rattle.sources.specs.Entries.{source_texts, entries_of, opens, entries_number, entries_list}
use Rattle.sources.specs.declared.Sources.{Sources}
use Rattle.settings.specs.Limits.{ProfileLimits, standard}
use Rattle.settings.specs.Sent.{stream_text}
use Rattle.settings.specs.declared.Key.{Key}
use Rattle.settings.specs.declared.Key.TheVariants.{SM}
use Rattle.settings.specs.declared.Transition.{Transition}
use Rattle.settings.specs.declared.Transition.TheVariants.{Direct, Between}
use Rattle.settings.specs.declared.Setting.{Setting}
use Rattle.settings.specs.declared.Setting.TheVariants.{Address, PressureIn, Factor, Control, Cathode, Filament, Switch, Stream}
use Rattle.forms.specs.Forms.{factor_in, limited_of, direct_of, between_of, transition_of}
use Rattle.forms.specs.Judged.{verdict_of, if_set, list_in}
use Rattle.forms_facts.specs.Sound.{InLimits, Sound}
use Rattle.forms_facts.proofs.Within.{accepted_sound, accepted_list}
use Rattle.forms_facts.proofs.Exactly.{accepted_form}
use Rattle.forms_facts.proofs.Again.{sent_as_accepted}
use Rattle.forms_facts.proofs.Lemmas.Lacks.{split}
use Rattle.requests.specs.Command.{command_of, write_code, restore_code, is_access, lacks_access}
use Rattle.requests.specs.AskV2.{set_of, write_of, ask_known, ask_named, ask_v2, write_list, named_list, ask_list}
use Rattle.requests.specs.declared.Command.{Command}
use Rattle.requests.specs.declared.Command.TheVariants.{MV, T2, FN, FS, Of}
use Rattle.requests.specs.declared.RequestV2.{RequestV2}
use Rattle.requests.specs.declared.RequestV2.TheVariants.{Read, Restore, Set}
use Rattle.request_writer.specs.Typed.{exactly, limited_number, ends_in, typed_digit, judged_digit, typed_address, typed_stream, typed_verdict, formed_v2}
use Rattle.forms_facts.proofs.Lemmas.Lists.{good_once}
use Rattle.written_facts.proofs.Lemmas.Typed.{ListFits}
use Rattle.settings.proofs.Laws.{factor_is}
use Rattle.refusals.specs.declared.Refusal.{Refusal}

-- ---- what was read

-- a restore that the command has; a setting within the limits, and beside it a list that fits
abbrev pub Good : ProfileLimits → Result RequestV2 Refusal → List ℕ → Type 0
Good limits (Ok (Read c)) list = Unit {0}
Good limits (Ok (Restore c)) list = lacks_access restore_code c ≡ false
Good limits (Ok (Set x)) list = Sound limits x × ListFits limits x list
Good limits (Err k) list = Unit {0}

-- one test before two things
both : (limits : ProfileLimits) (t : Bool) (a b : Result RequestV2 Refusal) (c d : List ℕ) → (t ≡ true → Good limits a c) → (t ≡ false → Good limits b d) → Good limits (pick t a b) (pick t c d)
unfolding pick
both limits true a b c d f g = f refl
both limits false a b c d f g = g refl

-- mode 0 has no list
idle : (limits : ProfileLimits) (s : List ℕ) → verdict_of limits SM s ≡ Ok (Stream false) → list_in limits SM s ≡ []
unfolding verdict_of list_in if_set stream_text entries_list entries_number entries_of source_texts opens all_differ among every pick
idle limits s e =
    let h : s ≡ 48 ∷ [] = sym (sent_as_accepted limits s false e) in
    rw e (rw h)

fits : (limits : ProfileLimits) (key : Key) (s : List ℕ) (x : Setting) → verdict_of limits key s ≡ Ok x → ListFits limits x (list_in limits key s)
fits limits key s (Address v) e = tt
fits limits key s (PressureIn v) e = tt
fits limits key s (Factor v) e = tt
fits limits key s (Control v) e = tt
fits limits key s (Cathode v) e = tt
fits limits key s (Filament v) e = tt
fits limits key s (Switch v) e = tt
fits limits key s (Stream on) e =
    let k : SM ≡ key = (accepted_form limits key s (Stream on) (list_in limits key s) e refl).0 in
    (accepted_list limits key s, λ z. rw (← k) (idle limits s (rw (← k, z) at e)))

write_good : (limits : ProfileLimits) (c : Command) (s : List ℕ) → Good limits (write_of limits c s) (write_list limits c s)
unfolding write_of write_list set_of
write_good limits MV s = tt
write_good limits T2 s = tt
write_good limits FN s = tt
write_good limits FS s = tt
write_good limits (Of key) s = go (verdict_of limits key s) refl
  where
    go : (v : Result Setting Refusal) → verdict_of limits key s ≡ v → Good limits (set_of v) (list_in limits key s)
    go (Ok x) e = (accepted_sound limits key s x e, fits limits key s x e)
    go (Err k) e = tt

known_good : (limits : ProfileLimits) (access : ℕ) (c : Command) (s : List ℕ) → Good limits (ask_known limits access c s) (named_list limits access (Some c) s)
unfolding ask_known named_list
known_good limits access c s =
    both limits (lacks_access access c) (Err Refusal.Access) _ [] _ (λ _. tt)
    (λ l. both limits (eqb access write_code) (write_of limits c s) _ (write_list limits c s) [] (λ _. write_good limits c s)
    (λ _. each (λ (a : Result RequestV2 Refusal). Good limits a []) (not (eqb (length s) 0)) (Err Refusal.Syntax) _ (λ _. tt)
    (λ _. each (λ (a : Result RequestV2 Refusal). Good limits a []) (eqb access restore_code) (Ok (Restore c)) (Ok (Read c)) (λ e. rw (eqb-true access restore_code e) at l) (λ _. tt))))

pub asked_good : (limits : ProfileLimits) (h : HeadV2) (s : List ℕ) → Good limits (ask_v2 limits h s) (ask_list limits h s)
unfolding ask_v2 ask_list ask_named named_list
asked_good limits h s = both limits (not (is_access h.access)) (Err Refusal.Code) _ [] _ (λ _. tt) (λ _. go (command_of h.first h.second))
  where
    go : (n : Option Command) → Good limits (ask_named limits h.access n s) (named_list limits h.access n s)
    go None = tt
    go (Some c) = known_good limits h.access c s

-- ---- the writer forms it as it is

number_as : (limits : ProfileLimits) (n : Number) → InLimits limits n → limited_number limits n ≡ Ok n
unfolding limited_number limited_of units pick
number_as limits n h =
    let e : normal_of (exactly n) ≡ Ok n = (exact (exactly n) n).1 (record { canonical = h.canonical; size = refl; sign = λ _. refl }) in
    rw (e, h.low, h.high)

switch_as : (limits : ProfileLimits) (t : Transition) → Sound limits (Switch t) → transition_of (ends_in limits t) ≡ Ok (Switch t)
unfolding transition_of ends_in direct_of between_of pick
switch_as limits (Direct n) h = rw (number_as limits n h)
switch_as limits (Between a b) h = rw (number_as limits a h.1, number_as limits b h.2, h.0, h.3)

digit_as : (x : Setting) (most d : ℕ) → most < 10 → d ≤ most → judged_digit x (typed_digit most d) ≡ Ok x
unfolding judged_digit typed_digit pick
digit_as x most d h k = rw (lt-leb 10 d (omega arith), le-ltb most d k)

stream_as : (limits : ProfileLimits) (on : Bool) (list : List ℕ) → ListFits limits (Stream on) list → typed_stream limits on list ≡ Ok (Stream on)
unfolding typed_stream
stream_as limits on list h =
    sym (past _ _ _ _ (no_list on h.1) (past _ _ _ _ (ap not h.0.known) (past _ _ _ _ (ap not (good_once limits.source_codes list h.0)) refl)))
  where
    no_list : (b : Bool) → (b ≡ false → list ≡ []) → (not b && not (eqb (length list) 0)) ≡ false
    no_list true f = refl
    no_list false f = rw (f refl)

typed_as : (limits : ProfileLimits) (x : Setting) (q : Sources) → Sound limits x → ListFits limits x (list_of q) → typed_verdict limits x q ≡ Ok x
unfolding typed_verdict typed_address factor_in pick
typed_as limits (Address v) q h f = rw (within_in standard.address_low standard.address_high v h.0 h.1)
typed_as limits (PressureIn u) q h f = refl
typed_as limits (Factor v) q h f = rw (factor_is v h.0 h.1)
typed_as limits (Control d) q h f = digit_as (Control d) standard.control_high d (omega arith) h
typed_as limits (Cathode d) q h f = digit_as (Cathode d) standard.cathode_high d (omega arith) h
typed_as limits (Filament d) q h f = digit_as (Filament d) standard.filament_high d (omega arith) h
typed_as limits (Switch t) q h f = switch_as limits t h
typed_as limits (Stream on) q h f = stream_as limits on (list_of q) f

pub formed_as : (limits : ProfileLimits) (r : RequestV2) (q : Sources) → Good limits (Ok r) (list_of q) → formed_v2 limits r q ≡ Ok r
unfolding formed_v2 set_of pick
formed_as limits (Read c) q g = refl
formed_as limits (Restore c) q g = rw g
formed_as limits (Set x) q g = ap set_of (typed_as limits x q g.0 g.1)

-- ---- the address of a frame

digit_le : (x : ℕ) (s : List ℕ) → every is_digit (x ∷ s) ≡ true → x ≤ 57
unfolding every
digit_le x s e = (within_true 48 57 x (split (is_digit x) (every is_digit s) e).0).1

rest : (x : ℕ) (s : List ℕ) → every is_digit (x ∷ s) ≡ true → every is_digit s ≡ true
unfolding every
rest x s e = (split (is_digit x) (every is_digit s) e).1

three_digits : (s : List ℕ) → every is_digit (take 3 s) ≡ true → numeral (take 3 s) ≤ 999
unfolding every numeral_from
three_digits [] e = omega arith
three_digits (x ∷ []) e = omega (arith, digit_le x [] e)
three_digits (x ∷ y ∷ []) e = omega (arith, digit_le x (y ∷ []) e, digit_le y [] (rest x (y ∷ []) e))
three_digits (x ∷ y ∷ z ∷ s) e =
    let f = rest x (y ∷ z ∷ []) e in
    omega (arith, digit_le x (y ∷ z ∷ []) e, digit_le y (z ∷ []) f, digit_le z [] (rest y (z ∷ []) f))

pub address_in : (s : List ℕ) → wrong_address s ≡ false → within 1 999 (address_of s) ≡ true
unfolding wrong_address
address_in s =
    each P (not (every is_digit (take 3 s))) true _ (λ _ z. absurd (true≢false z))
    (λ e. each P (eqb (address_of s) 0) true false (λ _ z. absurd (true≢false z))
    (λ f _. within_in 1 999 (address_of s) (omega (arith, eqb-false (address_of s) 0 f)) (three_digits s (not-false _ e))))
  where
    P : Bool → Type 0
    P b = b ≡ false → within 1 999 (address_of s) ≡ true
