-- The loop of a play on plain values: what holds of the calls made so far, how one call more keeps it, and what it gives at the end.
use mathlib.Core.Path.{◌≡◌, refl, sym, ap, subst, ◌∙◌}
use mathlib.Core.List.{List, [], ◌∷◌, ◌++◌}
use Prim.Native.Nat.{ℕ, zero, suc, ◌+◌, ◌-◌, ◌<◌, ◌≤◌, min}
use native.Mathlib.Nat.{add-zero, add-suc}
use native.Mathlib.Numerals.{add-one}
use native.Mathlib.Omega.{arith}
use lib.ListN.{length, drop, get_or, set, length-append, length-set}
use lib.Seq.{drop-cons, append_snoc, set_at}
use Rattle.sequence_facts.proofs.Claimed as text
use Rattle.opg_sequence_facts.proofs.Claimed as opg
use Rattle.sources.specs.declared.Profile.{Profile}
use Rattle.player.specs.Played.{Exchange, History, answered_number, length_of, in_order, Standing, advance, play_of, beginning, Claims, ends, Ran}
use Rattle.player.specs.Inner.{Traces, Took, Still}
use Rattle.player.specs.declared.Gauges.{Gauges}
use Rattle.player.specs.declared.Turn.{Turn}

-- the calls so far: a history, the gauges that it left, the script's calls, and what was kept of the answers
pub record Sofar (profile : Profile) (script memory₀ numbers₀ lens₀ : List ℕ) (g : Gauges) (at used i : ℕ) (memory numbers lens : List ℕ) : Type 0 where
  pub history : History
  pub stands : play_of profile i script (beginning memory₀) ≡ record { history = history; at = at; used = used; memory = memory }
  pub places : i ≤ min (length numbers₀) (length lens₀)
  pub trace : Traces profile history g
  pub count : i ≡ length history
  pub numbers_are : numbers ≡ in_order answered_number history ++ drop i numbers₀
  pub lengths_are : lens ≡ in_order length_of history ++ drop i lens₀
  pub at_in : at ≤ length script
  pub used_in : used ≤ length memory
  pub memory_long : length memory ≡ length memory₀
  pub numbers_long : length numbers ≡ length numbers₀
  pub lens_long : length lens ≡ length lens₀

pub first : (profile : Profile) (script memory numbers lens : List ℕ) (g : Gauges) → Traces profile [] g → Sofar profile script memory numbers lens g 0 0 0 memory numbers lens
unfolding play_of
first profile script memory numbers lens g t =
    record {
      history = [];
      stands = refl;
      places = omega arith;
      trace = t;
      count = refl;
      numbers_are = refl;
      lengths_are = refl;
      at_in = omega arith;
      used_in = omega arith;
      memory_long = refl;
      numbers_long = refl;
      lens_long = refl;
    }

-- one for each call
one_each : (f : Exchange → ℕ) (h : History) → length (in_order f h) ≡ length h
one_each f [] = refl
one_each f (e ∷ h) = length-append (in_order f h) (f e ∷ []) ∙ add-one (length (in_order f h)) ∙ ap suc (one_each f h)

-- one answer more is kept
keep : (p d l : List ℕ) (i v w : ℕ) → l ≡ p ++ drop i d → i ≡ length p → i < length d → v ≡ w → set l i v ≡ p ++ (w ∷ []) ++ drop (i + 1) d
keep p d l i v w e k h f =
    ap (λ (x : List ℕ). set x i v) e ∙ ap (λ (x : List ℕ). set (p ++ x) i v) (drop-cons d i 0 h)
    ∙ set_at p (get_or d i 0) (drop (suc i) d) v i (sym k) ∙ ap (λ (x : ℕ). p ++ x ∷ drop (suc i) d) f ∙ sym (append_snoc p w (drop (suc i) d))
    ∙ ap (λ (n : ℕ). p ++ (w ∷ []) ++ drop n d) (sym (add-one i))

kept : (f : Exchange → ℕ) (e : Exchange) (h : History) (d l : List ℕ) (i v : ℕ) → l ≡ in_order f h ++ drop i d → i ≡ length h → i < length d → v ≡ f e
    → set l i v ≡ in_order f (e ∷ h) ++ drop (i + 1) d
kept f e h d l i v p c k q = keep (in_order f h) d l i v (f e) p (c ∙ sym (one_each f h)) k q

-- one call more of the play
advanced : (profile : Profile) (script : List ℕ) (b : Standing) {p q : Standing} (i : ℕ) → play_of profile i script b ≡ p → advance profile script p ≡ q → play_of profile (i + 1) script b ≡ q
unfolding play_of
advanced profile script b i e f = ap (λ (n : ℕ). play_of profile n script b) (add-one i) ∙ ap (advance profile script) e ∙ f

-- where no call can be made, any number of turns more changes nothing
rests : (profile : Profile) (script : List ℕ) (b : Standing) {p : Standing} (i k : ℕ) → play_of profile i script b ≡ p → advance profile script p ≡ p → play_of profile (i + k) script b ≡ p
unfolding play_of
rests profile script b i zero e f = ap (λ (n : ℕ). play_of profile n script b) (add-zero i) ∙ e
rests profile script b i (suc k) e f = ap (λ (n : ℕ). play_of profile n script b) (add-suc i k) ∙ ap (advance profile script) (rests profile script b i k e f) ∙ f

-- a call was made: it is kept
pub next : {profile : Profile} {script memory₀ numbers₀ lens₀ : List ℕ} {g : Gauges} {at used i : ℕ} {memory numbers lens : List ℕ} {r : Turn} {memory' : List ℕ}
    → i < length numbers₀ → i < length lens₀ → length memory' ≡ length memory → Sofar profile script memory₀ numbers₀ lens₀ g at used i memory numbers lens
    → Took script memory g at used r memory'
    → Sofar profile script memory₀ numbers₀ lens₀ r.answered.gauges r.at r.used (i + 1) memory' (set numbers i r.answered.number) (set lens i r.answered.len)
next {profile} {script} {memory₀} {numbers₀} {lens₀} {i = i} {numbers = numbers} {lens = lens} {r = r} in-numbers in_lens same s t =
    let a = r.answered in
    record {
      history = t.exchange ∷ s.history;
      stands = advanced profile script (beginning memory₀) i s.stands (t.advances profile s.history s.trace);
      places = omega arith;
      trace = t.made.follows profile s.history s.trace;
      count = add-one i ∙ ap suc s.count;
      numbers_are = kept answered_number t.exchange s.history numbers₀ numbers i a.number s.numbers_are s.count in-numbers t.made.number_is;
      lengths_are = kept length_of t.exchange s.history lens₀ lens i a.len s.lengths_are s.count in_lens t.made.length_is;
      at_in = t.at_in;
      used_in = subst (λ (k : ℕ). r.used ≤ k) (sym same) t.used_in;
      memory_long = same ∙ s.memory_long;
      numbers_long = length-set numbers i a.number ∙ s.numbers_long;
      lens_long = length-set lens i a.len ∙ s.lens_long;
    }

-- the claim follows for each gauge
claimed : {profile : Profile} {h : History} {g : Gauges} → Traces profile h g → Claims profile h g
claimed {profile} t =
    let c = text.claimed_of profile _ _ t.of_text_gauge in
    record { of_text_gauge = c.0; of_its_profile = c.1; of_opg_gauge = opg.claimed _ _ t.of_opg_gauge }

-- the end of the play
pub done : {profile : Profile} {script memory₀ numbers₀ lens₀ : List ℕ} {g : Gauges} {at used i : ℕ} {memory numbers lens : List ℕ}
    → Sofar profile script memory₀ numbers₀ lens₀ g at used i memory numbers lens
    → ends profile script memory₀ numbers₀ lens₀ ≡ play_of profile i script (beginning memory₀) → Ran profile script memory₀ numbers₀ lens₀ g i memory numbers lens
done {profile} {script} {memory₀} {numbers₀} {lens₀} {g} {at} {used} {i} {memory} {numbers} {lens} s e =
    let p : ends profile script memory₀ numbers₀ lens₀ ≡ record { history = s.history; at = at; used = used; memory = memory } = e ∙ s.stands in
    record {
      calls_are = rw p s.count;
      memory_is = rw p refl;
      numbers_are = rw p s.numbers_are;
      lengths_are = rw p s.lengths_are;
      claims = rw p (claimed s.trace);
    }

-- there is no place for another answer
pub full : {profile : Profile} {script memory₀ numbers₀ lens₀ : List ℕ} {g : Gauges} {at used i : ℕ} {memory numbers lens : List ℕ}
    → Sofar profile script memory₀ numbers₀ lens₀ g at used i memory numbers lens → min (length numbers₀) (length lens₀) ≤ i → Ran profile script memory₀ numbers₀ lens₀ g i memory numbers lens
full {profile} {script} {memory₀} {numbers₀} {lens₀} {i = i} s h =
    let e : min (length numbers₀) (length lens₀) ≡ i = omega (arith, s.places) in
    done s (ap (λ (n : ℕ). play_of profile n script (beginning memory₀)) e)

-- no call was made: all is as it was
pub stops : {profile : Profile} {script memory₀ numbers₀ lens₀ : List ℕ} {g : Gauges} {at used i : ℕ} {memory numbers lens memory' : List ℕ}
    → Sofar profile script memory₀ numbers₀ lens₀ g at used i memory numbers lens
    → Still script memory at used memory' → Ran profile script memory₀ numbers₀ lens₀ g i memory' numbers lens
stops {profile} {script} {memory₀} {numbers₀} {lens₀} {g} {at} {used} {i} {memory} {numbers} {lens} s q =
    let places = min (length numbers₀) (length lens₀) in
    let e : places ≡ i + (places - i) = omega (arith, s.places) in
    subst (λ (m : List ℕ). Ran profile script memory₀ numbers₀ lens₀ g i m numbers lens) (sym q.memory_is)
    (done s (ap (λ (n : ℕ). play_of profile n script (beginning memory₀)) e ∙ rests profile script (beginning memory₀) i (places - i) s.stands (q.stands profile s.history) ∙ sym s.stands))

-- ---- the profile that the gauge has is the one that it started with

pub started : {p q : Profile} {g : Gauges} → q ≡ p → Traces p [] g → Traces q [] g
started {g = g} e t = subst (λ (x : Profile). Traces x [] g) (sym e) t

pub of_profile : {p q : Profile} {script memory numbers lens : List ℕ} {g : Gauges} {calls : ℕ} {memory' numbers' lens' : List ℕ} → q ≡ p
    → Ran q script memory numbers lens g calls memory' numbers' lens' → Ran p script memory numbers lens g calls memory' numbers' lens'
of_profile {script = script} {memory} {numbers} {lens} {g} {calls} {memory'} {numbers'} {lens'} e t = subst (λ (x : Profile). Ran x script memory numbers lens g calls memory' numbers' lens') e t
