-- The stream line of a sound state: it shows the readings at the sources listed, and has as many values as it shows.
use mathlib.Core.Path.{◌≡◌, refl, ap, ◌∙◌}
use mathlib.Core.Bool.{Bool, true, false, cond, not}
use mathlib.Core.List.{List, [], ◌∷◌, ◌++◌, map}
use mathlib.Core.Option.{some}
use Prim.Native.Nat.{ℕ, suc, ◌+◌, ◌-◌, ◌≤◌}
use native.Mathlib.Omega.{arith}
use lib.Dec.{eqb}
use lib.ListN.{length, take}
use lib.Seq.{take_at, take-append_seam}
use Rattle.buffer.specs.Byte.{within, every, until_of}
use Rattle.buffer.specs.Answer.{Answer, over, Sent}
use Rattle.buffer.specs.declared.Written.{Written}
use Rattle.buffer.proofs.Rules.{each}
use Rattle.frames.specs.Checksum.{end_of, closed}
use Rattle.frames.specs.Frame.{body}
use Rattle.sources.specs.Source.{known_sources, among}
use Rattle.sources.proofs.Weights.{at_most_all, line_known}
use Rattle.settings.specs.Limits.{ProfileLimits, longest_line}
use Rattle.settings.specs.Settings.{Held}
use Rattle.readings.specs.Reading.{value_text}
use Rattle.readings.specs.declared.Readings.{Readings}
use Rattle.readings.proofs.Laws.{shown, value_clean}
use Rattle.readings_facts.specs.Sound.{SoundReadings}
use Rattle.readings.specs.Place.{Place, Source0, Source1, Source2, Source6, Source7, SourceT2, SourceT6, code_of, reading_at}
use Rattle.readings.specs.There.{shown_as}
use Rattle.readings.proofs.There.{shown_there}
use Rattle.forms_facts.specs.Codes.{GoodList}
use Rattle.forms_facts.specs.Sound.{Proper}
use Rattle.forms_facts.proofs.Lemmas.Lists.{good_once}
use Rattle.forms_facts.proofs.Lemmas.Lacks.{split}
use Rattle.forms_facts.proofs.Lemmas.Texts.{of_each, all_among}
use Rattle.line.specs.Line.{tail_of, joined, line_answer}
use Rattle.line.proofs.Laws.{length_end, a_line}
use Rattle.gauge_facts.proofs.Line.{line_whole}
use Rattle.sequence_facts.specs.Shown.{Listed, shown_line, count_of, values_in}

-- what was written at the front of the memory is the reply
pub sent_bytes : {before after : List ℕ} {a : Answer} {w : Written} → Sent before a after w → take w.len after ≡ a.reply
unfolding over
sent_bytes {before} {a = a} f = rw (f.len, f.memory) (take-append_seam a.reply _)

-- ---- the places of the sources listed

abbrev Named : ℕ → Type 0
Named c = (p : Place) × (code_of p ≡ some c)

named : (c : ℕ) → among known_sources c ≡ true → Named c
unfolding code_of
named c e = of_each Named known_sources c ((Source0, refl), ((Source1, refl), ((Source2, refl), ((Source6, refl), ((Source7, refl), ((SourceT2, refl), ((SourceT6, refl), tt))))))) e

abbrev Places : List ℕ → Type 0
Places list = (places : List Place) × (map code_of places ≡ map some list)

places_of : (list : List ℕ) → every (among known_sources) list ≡ true → Places list
unfolding every
places_of [] e = ([], refl)
places_of (c ∷ list) e =
    let w = split (among known_sources c) (every (among known_sources) list) e in
    let p = named c w.0 in
    let ps = places_of list w.1 in
    (p.0 ∷ ps.0, rw (p.1, ps.1))

pub listed_places : (limits : ProfileLimits) → Proper limits → (list : List ℕ) → GoodList limits.source_codes list → (places : List Place) × Listed list places
unfolding every
listed_places limits ok list k = places_of (0 ∷ list) (all_among known_sources limits.source_codes ok.here (0 ∷ list) (rw (ok.first, k.known)))

-- what stands there is what the line shows for their codes
shows : (r : Readings) (list : List ℕ) (places : List Place) → map code_of places ≡ map some list
    → map (λ (code : ℕ). value_text code r) list ≡ map (λ (p : Place). shown_as (reading_at p r)) places
shows r [] [] e = refl
shows r [] (p ∷ places) e = absurd (let z : ◌≡◌ {A = ℕ} 0 1 = cc in omega arith)
shows r (c ∷ list) [] e = absurd (let z : ◌≡◌ {A = ℕ} 0 1 = cc in omega arith)
shows r (c ∷ list) (p ∷ places) e =
    let a : some c ≡ code_of p = cc in
    let b : map code_of places ≡ map some list = cc in
    rw (shown_there p c r a, shows r list places b)

-- while lines are sent and as much is lent as the longest line has, the line is of what stands there, each value whole
pub line_shown : (limits : ProfileLimits) (r : Readings) → SoundReadings r → (h : Held) → GoodList limits.source_codes h.list → (room : ℕ) (places : List Place) → Listed h.list places → h.streaming ≡ true → longest_line limits.source_codes ≤ room
    → line_answer limits room h r ≡ record { number = 0; reply = shown_line r places }
line_shown limits r f h g room places l s k =
    a_line limits room h r k (ap not s)
    ∙ ap (λ (ts : List (List ℕ)). record { number = 0; reply = closed (joined ts) }) (line_whole limits.source_codes h.list r g f ∙ shows r (0 ∷ h.list) places l)

-- ---- the values counted

count_append : (b : ℕ) (s t : List ℕ) → count_of b (s ++ t) ≡ count_of b s + count_of b t
unfolding count_of
count_append b [] t = omega arith
count_append b (x ∷ s) t = go (eqb x b) (count_append b s t)
  where
    go : (e : Bool) → count_of b (s ++ t) ≡ count_of b s + count_of b t
        → cond e (count_of b (s ++ t) + 1) (count_of b (s ++ t)) ≡ cond e (count_of b s + 1) (count_of b s) + count_of b t
    go true h = omega arith
    go false h = h

-- a character that does not stand there
count_none : (b : ℕ) (s : List ℕ) → until_of b s ≡ length s → count_of b s ≡ 0
unfolding count_of until_of
count_none b [] e = refl
count_none b (x ∷ s) e = go (eqb x b) e (count_none b s)
  where
    go : (t : Bool) → cond t 0 (until_of b s + 1) ≡ suc (length s) → (until_of b s ≡ length s → count_of b s ≡ 0) → cond t (count_of b s + 1) (count_of b s) ≡ 0
    go true h f = absurd (omega arith)
    go false h f = f (omega arith)

body_closed : (s : List ℕ) → body (closed s) ≡ s
unfolding closed
body_closed s = take_at s (end_of s) (length (closed s) - 2) (omega (arith, length_end s))

values_closed : (s : List ℕ) → values_in (closed s) ≡ count_of 59 s + 1
unfolding values_in
values_closed s = go (closed s) (body_closed s) (length_end s)
  where
    go : (t : List ℕ) → body t ≡ s → length t ≡ length s + 2 → values_in t ≡ count_of 59 s + 1
    go [] e n = absurd (omega arith)
    go (x ∷ t) e n = rw e

module _ (r : Readings) where
  no_mark : (c : ℕ) → count_of 59 (value_text c r) ≡ 0
  unfolding shown within
  no_mark c = count_none 59 (value_text c r) (value_clean 59 c r refl)

  tail_count : (list : List ℕ) → count_of 59 (tail_of (map (λ (code : ℕ). value_text code r) list)) ≡ length list
  unfolding tail_of count_of
  tail_count [] = refl
  tail_count (c ∷ list) = rw (count_append 59 (value_text c r), no_mark c, tail_count list) (omega arith)

  line_count : (c : ℕ) (list : List ℕ) → values_in (closed (joined (map (λ (code : ℕ). value_text code r) (c ∷ list)))) ≡ length (c ∷ list)
  unfolding joined
  line_count c list = values_closed _ ∙ rw (count_append 59 (value_text c r), no_mark c, tail_count list) (omega arith)

-- the line of a sound state has at most as many values as the profile has sources
pub line_few : (limits : ProfileLimits) → Proper limits → (room : ℕ) (h : Held) (r : Readings) → GoodList limits.source_codes h.list → SoundReadings r
    → values_in (line_answer limits room h r).reply ≤ length limits.source_codes
unfolding line_answer values_in
line_few limits ok room h r k f =
    each Few _ _ _ (λ _. nothing) (λ _. each Few _ _ _ (λ _. nothing)
    (λ _. rw (line_whole limits.source_codes h.list r k f, line_count r 0 h.list)
    (at_most_all limits.source_codes (0 ∷ h.list) (line_known limits.source_codes h.list ok.first k.known) (good_once limits.source_codes h.list k))))
  where
    Few : Answer → Type 0
    Few a = values_in a.reply ≤ length limits.source_codes

    nothing : values_in [] ≤ length limits.source_codes
    nothing = omega arith
