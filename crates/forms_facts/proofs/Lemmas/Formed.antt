-- What is accepted has the form, and the other way round, a lemma for each setting.
use mathlib.Core.Path.{◌≡◌, refl, sym, ap, ◌∙◌}
use mathlib.Core.Bool.{Bool, true, false, not, ◌&&◌}
use mathlib.Core.List.{List, [], ◌∷◌, ◌++◌}
use Prim.Native.Nat.{ℕ, ◌+◌, ◌-◌, ◌*◌, ◌/◌, ◌<◌, ◌≤◌}
use native.Mathlib.Omega.{arith}
use borrow.Author.Tests.{ne_eqb, lt-leb, eqb-true, leb-false, not-false}
use lib.Dec.{eqb, leb}
use lib.ListN.{length, take, drop, length-append}
use lib.Seq.{take_at, drop-append-add}
use Rattle.std.specs.Prelude.{Err, None, Ok, Option, Result, Some}
use Rattle.buffer.specs.First.{pick}
use Rattle.buffer.specs.Byte.{within, is_digit, every, same_text, until_of, numeral_from, numeral, digit, digits3, leading, starts_with}
use Rattle.buffer.proofs.Rules.{each}
use Rattle.buffer.proofs.Laws.{within_true, within_in, same_equal, starts_some}
use Rattle.decimal.specs.Form.{number_of}
use Rattle.decimal.specs.Number.{below_of, hundredths_of}
use Rattle.decimal.specs.declared.Number.{Number}
use Rattle.sources.specs.Source.{list_text}
use Rattle.sources.specs.Entries.{entries_number, entries_list}
use Rattle.settings.specs.Settings.{key_of}
use Rattle.settings.specs.Limits.{ProfileLimits, standard, is_factor}
use Rattle.settings.specs.Sent.{unit_text, stream_text}
use Rattle.settings.specs.declared.PressureUnit.{PressureUnit}
use Rattle.settings.specs.declared.PressureUnit.TheVariants.{Mbar, Torr, HPa}
use Rattle.settings.specs.declared.Transition.TheVariants.{Direct, Between}
use Rattle.settings.specs.declared.Key.{Key}
use Rattle.settings.specs.declared.Key.TheVariants.{DA, DU, C1, CM, CC, FC, ST, SM}
use Rattle.settings.specs.declared.Setting.{Setting}
use Rattle.settings.specs.declared.Setting.TheVariants.{Address, PressureIn, Factor, Control, Cathode, Filament, Switch, Stream}
use Rattle.decimal_facts.proofs.Value.{hundredths_exactly}
use Rattle.forms.specs.Forms.{address_data, unit_data, factor_in, factor_of, digit_data, digit_of, limited_of, direct_of, between_of, ends_of, transition_of, transition_data, idle_list, known_mode, stream_of, stream_data}
use Rattle.forms.specs.Judged.{verdict_of}
use Rattle.forms.specs.declared.Ends.{Ends}
use Rattle.forms.specs.declared.Ends.TheVariants.{One}
use Rattle.settings.proofs.Laws.{factor_is}
use Rattle.forms_facts.specs.Codes.{GoodList}
use Rattle.forms_facts.proofs.Digit.{digit_exactly}
use Rattle.forms_facts.specs.Sound.{InLimits, Sound, Proper}
use Rattle.forms_facts.proofs.Again.{sent_as_accepted}
use Rattle.forms_facts.proofs.Lemmas.Lacks.{split, both_told, until_lacks, until_split}
use Rattle.forms_facts.proofs.Lemmas.Lists.{entries_good}
use Rattle.forms_facts.proofs.Lemmas.Numbers.{read_lacks}
use Rattle.forms_facts.proofs.Lemmas.Texts.{good_number, none_number}
use Rattle.forms_facts.specs.Form.{Form}
use Rattle.decimal.specs.declared.NumberError.{NumberError}
use Rattle.refusals.specs.declared.Refusal.{Refusal}

-- ---- what is accepted is of the form

abbrev pub Formed : ProfileLimits → Key → List ℕ → Result Setting Refusal → Type 0
Formed limits key s (Ok x) = (key_of x ≡ key) × Form limits s x
Formed limits key s (Err k) = Unit {0}

last_digit : (q y : ℕ) → 48 ≤ y → y ≤ 57 → y ≡ digit (q * 10 + (y - 48))
last_digit q y h k = omega arith

-- three digits are those of the number that they spell
three_digits : (s : List ℕ) → length s ≡ 3 → every is_digit s ≡ true → s ≡ digits3 (numeral s)
unfolding every numeral_from
three_digits [] e f = absurd (omega arith)
three_digits (x ∷ []) e f = absurd (omega arith)
three_digits (x ∷ y ∷ []) e f = absurd (omega arith)
three_digits (x ∷ y ∷ z ∷ w ∷ s) e f = absurd (omega arith)
three_digits (x ∷ y ∷ z ∷ []) e f =
    let p = split (is_digit x) _ f in
    let q = split (is_digit y) _ p.1 in
    let r = split (is_digit z) true q.1 in
    let a = within_true 48 57 x p.0 in
    let b = within_true 48 57 y q.0 in
    let c = within_true 48 57 z r.0 in
    let n = numeral (x ∷ y ∷ z ∷ []) in
    let t : n / 10 ≡ (x - 48) * 10 + (y - 48) = omega (arith, c.0, c.1) in
    let h : n / 100 ≡ x - 48 = omega (arith, b.0, b.1, c.0, c.1) in
    let i : x ≡ digit (n / 100) = omega (arith, a.0, a.1) in
    let j : y ≡ digit (n / 10) = last_digit (x - 48) y b.0 b.1 ∙ ap (λ (m : ℕ). digit m) (sym t) in
    let k : z ≡ digit n = omega (arith, c.0, c.1) in
    cc

address_formed : (limits : ProfileLimits) (s : List ℕ) → Formed limits DA s (address_data s)
unfolding address_data
address_formed limits s =
    each (Formed limits DA s) (not (eqb (length s) 3)) (Err Refusal.Syntax) _ (λ _. tt)
    (λ e. each (Formed limits DA s) (not (every is_digit s)) (Err Refusal.Syntax) _ (λ _. tt)
    (λ f. each (Formed limits DA s) (not (within standard.address_low standard.address_high (numeral s))) (Err Refusal.Range) (Ok (Address (numeral s))) (λ _. tt)
    (λ _. (refl, three_digits s (eqb-true (length s) 3 (not-false _ e)) (not-false _ f)))))

unit_formed : (limits : ProfileLimits) (s : List ℕ) → Formed limits DU s (unit_data s)
unfolding unit_data
unit_formed limits s =
    each (Formed limits DU s) (same_text s (unit_text Mbar)) (Ok (PressureIn Mbar)) _ (λ e. (refl, same_equal s (unit_text Mbar) e))
    (λ _. each (Formed limits DU s) (same_text s (unit_text Torr)) (Ok (PressureIn Torr)) _ (λ e. (refl, same_equal s (unit_text Torr) e))
    (λ _. each (Formed limits DU s) (same_text s (unit_text HPa)) (Ok (PressureIn HPa)) (Err Refusal.Syntax) (λ e. (refl, same_equal s (unit_text HPa) e)) (λ _. tt)))

factor_formed : (limits : ProfileLimits) (s : List ℕ) → Formed limits C1 s (factor_of (number_of s))
unfolding factor_of factor_in
factor_formed limits s = go (number_of s) refl
  where
    whole : (n : Number) (h : Option ℕ) → number_of s ≡ Ok n → n.negative ≡ false → hundredths_of n ≡ h → Formed limits C1 s (factor_in h)
    whole n (Some h) e f g =
        each (Formed limits C1 s) (not (is_factor h)) (Err Refusal.Range) (Ok (Factor h)) (λ _. tt)
        (λ _. (refl, (n, e, f, ((hundredths_exactly n h).0 g).0)))
    whole n None e f g = tt

    go : (p : Result Number NumberError) → number_of s ≡ p → Formed limits C1 s (factor_of p)
    go (Err x) e = tt
    go (Ok n) e = each (Formed limits C1 s) n.negative (Err Refusal.Range) (factor_in (hundredths_of n)) (λ _. tt) (λ f. whole n (hundredths_of n) e f refl)

digit_formed : (limits : ProfileLimits) (key : Key) (setting : ℕ → Setting) (most : ℕ) (s : List ℕ) → ((d : ℕ) → s ≡ (d + 48) ∷ [] → (key_of (setting d) ≡ key) × Form limits s (setting d))
    → Formed limits key s (digit_of setting (digit_data most s))
unfolding digit_of
digit_formed limits key setting most s f = go (digit_data most s) refl
  where
    go : (r : Result ℕ Refusal) → digit_data most s ≡ r → Formed limits key s (digit_of setting r)
    go (Ok d) e = f d ((digit_exactly most s d).0 e).0
    go (Err k) e = tt

-- a number of ST that passes is what was read
abbrev Reads : List ℕ → Result Number Refusal → Type 0
Reads s (Ok n) = number_of s ≡ Ok n
Reads s (Err k) = Unit {0}

limited_reads : (limits : ProfileLimits) (s : List ℕ) → Reads s (limited_of limits (number_of s))
unfolding limited_of
limited_reads limits s = go (number_of s) refl
  where
    go : (p : Result Number NumberError) → number_of s ≡ p → Reads s (limited_of limits p)
    go (Err x) e = tt
    go (Ok n) e =
        each (Reads s) (below_of n limits.transition_low) (Err Refusal.Range) _ (λ _. tt)
        (λ _. each (Reads s) (below_of limits.transition_high n) (Err Refusal.Range) (Ok n) (λ _. tt) (λ _. e))

-- a text that starts with b
starts : (b : ℕ) (s : List ℕ) → starts_with b s ≡ true → 1 ≤ length s → s ≡ b ∷ drop 1 s
unfolding starts_with
starts b [] e h = absurd (omega arith)
starts b (x ∷ s) e h = rw (eqb-true x b e)

direct_formed : (limits : ProfileLimits) (s t : List ℕ) (r : Result Number Refusal) → s ≡ 68 ∷ t → Reads t r → Formed limits ST s (direct_of r)
unfolding direct_of
direct_formed limits s t (Ok n) e h = (refl, (t, e, h))
direct_formed limits s t (Err k) e h = tt

between_formed : (limits : ProfileLimits) (s t u : List ℕ) (a b : Result Number Refusal) → s ≡ 70 ∷ (t ++ 84 ∷ u) → Reads t a → Reads u b → Formed limits ST s (between_of a b)
unfolding between_of
between_formed limits s t u (Ok a) (Ok b) e h k =
    each (Formed limits ST s) (not (below_of a b)) (Err Refusal.Logic) (Ok (Switch (Between a b))) (λ _. tt) (λ _. (refl, (t, u, e, h, k)))
between_formed limits s t u (Ok a) (Err k) e h l = tt
between_formed limits s t u (Err j) (Ok b) e h l = tt
between_formed limits s t u (Err j) (Err k) e h l = tt

transition_formed : (limits : ProfileLimits) (s : List ℕ) → Formed limits ST s (transition_data limits s)
unfolding transition_data ends_of transition_of
transition_formed limits s =
    let t = drop 1 s in
    let k = until_of 84 t in
    let P : Ends Refusal → Type 0 = λ (e : Ends Refusal). Formed limits ST s (transition_of e) in
    each P (starts_with 68 s) (One (limited_of limits (number_of t))) _
    (λ e. direct_formed limits s t _ (starts 68 s e (starts_some 67 s e)) (limited_reads limits t))
    (λ _. each P (not (starts_with 70 s && limits.between_form)) Ends.None _ (λ _. tt)
    (λ e. each P (leb (length t) k) Ends.None _ (λ _. tt)
    (λ f. between_formed limits s (take k t) (drop (k + 1) t) _ _ (front (both_told (starts_with 70 s) limits.between_form e).0 (until_split 84 t (leb-false (length t) k f))) (limited_reads limits (take k t))
    (limited_reads limits (drop (k + 1) t)))))
  where
    front : {t : List ℕ} → starts_with 70 s ≡ true → drop 1 s ≡ t → s ≡ 70 ∷ t
    front e f = starts 70 s e (starts_some 69 s e) ∙ rw f

abbrev Streams : Result Setting Refusal → Type 0
Streams (Ok x) = (on : Bool) × (x ≡ Stream on)
Streams (Err k) = Unit {0}

streams : (s : List ℕ) (n : ℕ) → Streams (stream_of s n)
unfolding stream_of
streams s n =
    each Streams (eqb (leading s) 0) (Err Refusal.Syntax) _ (λ _. tt)
    (λ _. each Streams (eqb n 10) (Err Refusal.Syntax) _ (λ _. tt)
    (λ _. each Streams (idle_list s) (Err Refusal.Syntax) _ (λ _. tt)
    (λ _. each Streams (not (known_mode s)) (Err Refusal.Range) _ (λ _. tt)
    (λ _. each Streams (eqb n 11) (Err Refusal.Range) _ (λ _. tt)
    (λ _. each Streams (eqb n 12) (Err Refusal.Logic) (Ok (Stream (starts_with 52 s))) (λ _. tt) (λ _. (starts_with 52 s, refl)))))))

stream_formed : (limits : ProfileLimits) (s : List ℕ) → Formed limits SM s (stream_data limits s)
unfolding stream_data
stream_formed limits s = go (stream_data limits s) refl (streams s (entries_number limits.source_codes (drop 1 s)))
  where
    go : (v : Result Setting Refusal) → stream_data limits s ≡ v → Streams v → Formed limits SM s v
    go (Ok x) e h =
        let f : stream_data limits s ≡ Ok (Stream h.0) = e ∙ rw h.1 in
        rw h.1 (refl, (entries_list limits.source_codes (drop 1 s), entries_good limits.source_codes (drop 1 s), sym (sent_as_accepted limits s h.0 f)))
    go (Err k) e h = tt

pub formed : (limits : ProfileLimits) (key : Key) (s : List ℕ) → Formed limits key s (verdict_of limits key s)
unfolding verdict_of
formed limits DA s = address_formed limits s
formed limits DU s = unit_formed limits s
formed limits C1 s = factor_formed limits s
formed limits CM s = digit_formed limits CM Control standard.control_high s (λ d e. (refl, e))
formed limits CC s = digit_formed limits CC Cathode standard.cathode_high s (λ d e. (refl, e))
formed limits FC s = digit_formed limits FC Filament standard.filament_high s (λ d e. (refl, e))
formed limits ST s = transition_formed limits s
formed limits SM s = stream_formed limits s

-- ---- and what is of the form and within the limits is accepted

digit_is : (n : ℕ) → is_digit (digit n) ≡ true
digit_is n = within_in 48 57 (digit n) (omega arith) (omega arith)

address_set : (limits : ProfileLimits) (v : ℕ) → Sound limits (Address v) → address_data (digits3 v) ≡ Ok (Address v)
unfolding address_data every pick numeral_from
address_set limits v h =
    let e : numeral (digits3 v) ≡ v = omega (arith, h.0, h.1) in
    rw (digit_is (v / 100), digit_is (v / 10), digit_is v, e, within_in standard.address_low standard.address_high v h.0 h.1)

unit_set : (u : PressureUnit) → unit_data (unit_text u) ≡ Ok (PressureIn u)
unfolding unit_data unit_text same_text pick
unit_set Mbar = refl
unit_set Torr = refl
unit_set HPa = refl

factor_set : (limits : ProfileLimits) (s : List ℕ) (h : ℕ) (n : Number) → number_of s ≡ Ok n → n.negative ≡ false → hundredths_of n ≡ Some h → Sound limits (Factor h)
    → factor_of (number_of s) ≡ Ok (Factor h)
unfolding factor_of factor_in pick
factor_set limits s h n e f g k = rw (e, g, f, factor_is h k.0 k.1)

digit_set : (setting : ℕ → Setting) (most d : ℕ) (s : List ℕ) → s ≡ (d + 48) ∷ [] → d ≤ most → most < 10 → digit_of setting (digit_data most s) ≡ Ok (setting d)
unfolding digit_of
digit_set setting most d s e h k = rw ((digit_exactly most s d).1 (e, h, omega arith))

limited_fine : (limits : ProfileLimits) (s : List ℕ) (n : Number) → number_of s ≡ Ok n → InLimits limits n → limited_of limits (number_of s) ≡ Ok n
unfolding limited_of pick
limited_fine limits s n e h = rw (e, h.low, h.high)

direct_set : (limits : ProfileLimits) (t : List ℕ) (n : Number) → number_of t ≡ Ok n → InLimits limits n → transition_data limits (68 ∷ t) ≡ Ok (Switch (Direct n))
unfolding transition_data ends_of transition_of direct_of pick starts_with
direct_set limits t n e h = rw (limited_fine limits t n e h)

between_set : (limits : ProfileLimits) (t u : List ℕ) (a b : Number) → limits.between_form ≡ true → number_of t ≡ Ok a → number_of u ≡ Ok b → InLimits limits a → InLimits limits b → below_of a b ≡ true
    → transition_data limits (70 ∷ (t ++ 84 ∷ u)) ≡ Ok (Switch (Between a b))
unfolding transition_data ends_of transition_of between_of pick starts_with
between_set limits t u a b g e f h k l =
    let n : length t < length (t ++ 84 ∷ u) = simp length-append (omega arith) in
    rw (
      until_lacks 84 t u (read_lacks t a e),
      lt-leb (length (t ++ 84 ∷ u)) (length t) n,
      take_at t (84 ∷ u) (length t) refl,
      drop-append-add t (84 ∷ u) 1,
      limited_fine limits t a e h,
      limited_fine limits u b f k,
      g,
      l,
    )

stream_set : (limits : ProfileLimits) → Proper limits → (on : Bool) (list : List ℕ) → GoodList limits.source_codes list → stream_data limits (stream_text on list) ≡ Ok (Stream on)
unfolding stream_data stream_of stream_text leading starts_with idle_list known_mode pick within
stream_set limits ok true list h = rw (ne_eqb (leading (list_text list) + 1) 0 (λ (e : leading (list_text list) + 1 ≡ 0). omega arith), good_number limits.source_codes ok.here list h)
stream_set limits ok false list h = rw (none_number limits.source_codes)

pub is_set : (limits : ProfileLimits) → Proper limits → (s : List ℕ) (x : Setting) → Form limits s x → Sound limits x → verdict_of limits (key_of x) s ≡ Ok x
unfolding verdict_of
is_set limits ok s (Address v) f h = rw f (address_set limits v h)
is_set limits ok s (PressureIn u) f h = rw f (unit_set u)
is_set limits ok s (Factor k) f h = factor_set limits s k f.0 f.1 f.2 ((hundredths_exactly f.0 k).1 (f.3, omega (arith, h.1))) h
is_set limits ok s (Control d) f h = digit_set Control standard.control_high d s f h (omega arith)
is_set limits ok s (Cathode d) f h = digit_set Cathode standard.cathode_high d s f h (omega arith)
is_set limits ok s (Filament d) f h = digit_set Filament standard.filament_high d s f h (omega arith)
is_set limits ok s (Switch (Direct n)) f h = rw f.1 (direct_set limits f.0 n f.2 h)
is_set limits ok s (Switch (Between a b)) f h = rw f.2 (between_set limits f.0 f.1 a b h.0 f.3 f.4 h.1 h.2 h.3)
is_set limits ok s (Stream on) f h = rw f.2 (stream_set limits ok on f.0 f.1)
