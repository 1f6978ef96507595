-- A text of entries, read from the front: what was read so far.
use mathlib.Core.Path.{◌≡◌, refl, sym, ◌∙◌}
use mathlib.Core.Bool.{Bool, true, false, ◌&&◌, and_assoc, and-true, and-false, or-true}
use mathlib.Core.List.{List, [], ◌∷◌, ◌++◌, map}
use Prim.Native.Nat.{ℕ, zero, suc, ◌+◌, ◌-◌, ◌<◌, ◌≤◌}
use native.Mathlib.Omega.{arith}
use borrow.Author.Tests.{eq-eqb, ne_eqb}
use lib.Dec.{eqb, eqb-suc-zero}
use lib.ListN.{length, take, drop, get_or}
use Rattle.std.specs.Prelude.{Result, Ok, Err}
use Rattle.std.specs.Result.{MatchResult, IsOkAnd}
use Rattle.std.proofs.lemmas.List.{take_more, map-append}
use Rattle.buffer.specs.First.{pick}
use Rattle.buffer.specs.Byte.{at, every}
use Rattle.buffer.proofs.Laws.{take_cut, part_rest}
use Rattle.refusals.specs.Number.{refusal_number}
use Rattle.refusals.specs.declared.Refusal.{Refusal}
use Rattle.sources.specs.Source.{source_of, capacity, stand_once, all_differ, among, list_of, Counted, Pushed}
use Rattle.sources.specs.Entries.{entries_of, source_texts, parts, is_formed, is_known, code_of, refusal_of, opens, entries_number, entries_list, Lists}
use Rattle.sources.specs.Inner.{Kept, Ran}
use Rattle.sources.specs.declared.Sources.{Sources}
use Rattle.sources.specs.declared.SourceError.{SourceError}
use Rattle.sources.proofs.Weights.{kept_whole, places_tell}
use Rattle.sources.proofs.Known.{codes_known}

every_more : {A : Type 0} (p : A → Bool) (xs : List A) (x : A) → every p (xs ++ (x ∷ [])) ≡ (every p xs && p x)
unfolding every
every_more p [] x = and-true (p x)
every_more p (y ∷ xs) x = rw (every_more p xs x, and_assoc (p y) (every p xs) (p x))

-- `read` is what was read of these entries, none of which is malformed
abbrev pub Sofar : List (Result ℕ SourceError) → Result Sources SourceError → Type 0
Sofar es (Ok q) = Kept es q
Sofar es (Err SourceError.Unknown) = (every is_formed es ≡ true) × (every is_known es ≡ false)
Sofar es (Err SourceError.Malformed) = ⊥

pub ended : (es : List (Result ℕ SourceError)) (read : Result Sources SourceError) → Sofar es read → Ran es read
ended es (Ok q) f = f
ended es (Err SourceError.Unknown) f = f
ended es (Err SourceError.Malformed) f = elim f [ ]

formed : (es : List (Result ℕ SourceError)) (read : Result Sources SourceError) → Sofar es read → every is_formed es ≡ true
formed es (Ok q) f = f.formed
formed es (Err SourceError.Unknown) f = f.0
formed es (Err SourceError.Malformed) f = elim f [ ]

pub ok_from_is_ok_and : {T E : Type 0} {P : T → Type 0} (r : Result T E) → IsOkAnd r P → (x : T) × (r ≡ Ok x) × P x
ok_from_is_ok_and (Ok x) p = (x, refl, p)
ok_from_is_ok_and (Err k) p = absurd p

-- one entry more
known_more : (es : List (Result ℕ SourceError)) (read read' : Result Sources SourceError) (c : ℕ) → Sofar es read
    → MatchResult read (λ q. (r : Sources) × (read' ≡ Ok r) × Pushed q c r) (λ k. read' ≡ Err k) → Sofar (es ++ (Ok c ∷ [])) read'
known_more es (Ok q) read' c f w =
    rw w.1 (
    record {
      formed = rw (every_more is_formed es (Ok c), f.formed);
      known = rw (every_more is_known es (Ok c), f.known);
      list = rw (w.2.list, f.list, map-append code_of es (Ok c ∷ [])) (take_cut 7 (map code_of es) (c ∷ []));
      counted = w.2.count;
    }
    )
known_more es (Err SourceError.Unknown) read' c f w = rw w (rw (every_more is_formed es (Ok c), f.0), rw (every_more is_known es (Ok c), f.1))
known_more es (Err SourceError.Malformed) read' c f w = elim f [ ]

unknown_more : (es : List (Result ℕ SourceError)) (read : Result Sources SourceError) → Sofar es read → Sofar (es ++ (Err SourceError.Unknown ∷ [])) (Err SourceError.Unknown)
unknown_more es read f =
    (rw (every_more is_formed es (Err SourceError.Unknown), formed es read f), rw (every_more is_known es (Err SourceError.Unknown)) (and-false (every is_known es)))

-- the text at place n, and what its source is
module _ (f : List ℕ → Result ℕ SourceError) (ts : List (List ℕ)) (n : ℕ) (t : List ℕ) (h : (n < length ts) × (t ≡ get_or ts n t)) where
  more : (m : ℕ) → m ≡ n + 1 → (e : Result ℕ SourceError) → f t ≡ e → map f (take m ts) ≡ map f (take n ts) ++ (e ∷ [])
  more m k e g = rw (k, take_more ts n t h.0, ← h.1, ← g) (map-append f (take n ts) (t ∷ []))

  pub known_step : (m : ℕ) (read read' : Result Sources SourceError) (c : ℕ) → m ≡ n + 1 → f t ≡ Ok c → Sofar (map f (take n ts)) read
      → MatchResult read (λ q. (r : Sources) × (read' ≡ Ok r) × Pushed q c r) (λ k. read' ≡ Err k) → Sofar (map f (take m ts)) read'
  known_step m read read' c k g s w = rw (more m k (Ok c) g) (known_more _ read read' c s w)

  pub unknown_step : (m : ℕ) (read : Result Sources SourceError) → m ≡ n + 1 → f t ≡ Err SourceError.Unknown → Sofar (map f (take n ts)) read → Sofar (map f (take m ts)) (Err SourceError.Unknown)
  unknown_step m read k g s = rw (more m k (Err SourceError.Unknown) g) (unknown_more _ read s)

pub malformed_in : (f : List ℕ → Result ℕ SourceError) (ts : List (List ℕ)) (n : ℕ) (t : List ℕ) → (n < length ts) × (t ≡ get_or ts n t) → f t ≡ Err SourceError.Malformed → every is_formed (map f ts) ≡ false
unfolding every
malformed_in f [] n t h k = absurd (omega (arith, h.0))
malformed_in f (u ∷ ts) zero t h k = rw (← h.1, k)
malformed_in f (u ∷ ts) (suc n) t h k = rw (malformed_in f ts n t (omega (arith, h.0), h.1) k) (and-false (is_formed (f u)))

-- ---- what a reader answers

denied : (codes s : List ℕ) (k : Refusal) (n : ℕ) → entries_number codes s ≡ suc n → refusal_number k ≡ suc n → Lists codes s (Err k)
unfolding entries_list
denied codes s k n e f = record { number = f ∙ sym e; list = rw (e, eqb-suc-zero); count = tt }

pub nothing_listed : (codes s : List ℕ) → length s < 1 → Lists codes s (Ok (record { codes = 0 ∷ 0 ∷ 0 ∷ 0 ∷ 0 ∷ 0 ∷ 0 ∷ []; count = 0 }))
unfolding entries_list entries_number entries_of source_texts opens every all_differ among list_of Counted pick
nothing_listed codes [] h = record { number = refl; list = refl; count = refl }
nothing_listed codes (x ∷ s) h = absurd (omega arith)

pub not_opened : (codes s : List ℕ) → 1 ≤ length s → (at s 0 ≡ 68 → ⊥) → Lists codes s (Err Refusal.Syntax)
unfolding entries_number opens pick
not_opened codes s h k = denied codes s Refusal.Syntax 9 (rw (ne_eqb (length s) 0 (omega arith), ne_eqb (at s 0) 68 k)) refl

-- a text that starts with `D`: its entries are those of what follows
module _ (codes s : List ℕ) (h : 1 ≤ length s) (d : at s 0 ≡ 68) where
  entries_are : map (source_of codes) (parts (take (length s - 1) (drop 1 s))) ≡ entries_of codes s
  unfolding entries_of source_texts
  entries_are = rw part_rest (texts s h)
    where
      texts : (s : List ℕ) → 1 ≤ length s → map (source_of codes) (parts (drop 1 s)) ≡ map (source_of codes) (source_texts s)
      texts [] h = absurd (omega arith)
      texts (x ∷ s) h = refl

  opened : opens s ≡ true
  unfolding opens
  opened = rw (eq-eqb (at s 0) 68 d) (or-true (eqb (length s) 0))

  pub run_refused : (k : SourceError) → Ran (map (source_of codes) (parts (take (length s - 1) (drop 1 s)))) (Err k) → Lists codes s (Err (refusal_of k))
  unfolding entries_number pick
  run_refused SourceError.Unknown r = let w = rw entries_are at r in denied codes s Refusal.Range 10 (rw (opened, w.0, w.1)) refl
  run_refused SourceError.Malformed r = let w = rw entries_are at r in denied codes s Refusal.Syntax 9 (rw (opened, w)) refl

  -- where the gauge's sources are `0` and others, each has a place: so whether those that found a place stand once is whether all do
  module _ (fits : length codes ≤ capacity) (zero_in : among codes 0 ≡ true) (q : Sources) (r : Ran (map (source_of codes) (parts (take (length s - 1) (drop 1 s)))) (Ok q)) where
    read : Kept (entries_of codes s) q
    read = rw entries_are at r

    places_told : (v : Bool) → stand_once (list_of q) ≡ v → stand_once (map code_of (entries_of codes s)) ≡ v
    unfolding entries_of
    places_told v e = sym (rw read.list (places_tell codes fits zero_in (map code_of (entries_of codes s)) (codes_known codes (source_texts s) read.known))) ∙ e

    pub run_repeats : stand_once (list_of q) ≡ false → Lists codes s (Err Refusal.Logic)
    unfolding entries_number pick
    run_repeats e = denied codes s Refusal.Logic 11 (rw (opened, read.formed, read.known, places_told false e)) refl

    pub run_listed : stand_once (list_of q) ≡ true → Lists codes s (Ok q)
    unfolding entries_number entries_list entries_of pick
    run_listed e =
        let once = places_told true e in
        let n : entries_number codes s ≡ 0 = rw (opened, read.formed, read.known, once) in
        record {
          number = sym n;
          list = rw n (read.list ∙ kept_whole codes fits zero_in (map code_of (entries_of codes s)) (codes_known codes (source_texts s) read.known) once);
          count = read.counted;
        }
