-- What the bench accepts is what was handed over, and what is handed over and allowed is accepted.
use mathlib.Core.Path.{◌≡◌, refl, sym, ap, ◌∙◌}
use mathlib.Core.Bool.{Bool, true, false, cond, ◌||◌}
use mathlib.Core.Option.{some}
use Prim.Native.Nat.{ℕ, zero, suc, ◌+◌, ◌*◌, ◌^◌, ◌<◌, ◌≤◌}
use native.Mathlib.Nat.{eq_of_mul-eq-mul_right, mul-pos}
use native.Mathlib.Omega.{arith}
use borrow.Author.Tests.{le-ltb, lt-leb}
use lib.Dec.{eqb, leb}
use Rattle.std.specs.Prelude.{Err, None, Ok, Option, Result, Some}
use Rattle.buffer.specs.First.{pick}
use Rattle.buffer.proofs.Rules.{each}
use Rattle.decimal.specs.Exact.{units, normal_of}
use Rattle.decimal.specs.Number.{hundredths_of}
use Rattle.decimal.specs.declared.Number.{Number}
use Rattle.decimal.specs.declared.Exact.{Exact}
use Rattle.decimal.proofs.Sizes.{ten_pos, units_pos}
use Rattle.decimal_facts.specs.Canonical.{Canonical, Exactly}
use Rattle.decimal_facts.proofs.Value.{answers, exact, hundredths_exactly}
use Rattle.decimal_facts.proofs.Lemmas.Rows.{canonical_same}
use Rattle.decimal_facts.proofs.Lemmas.Texts.{decimals_count}
use Rattle.readings.specs.Bench.{takes, pressure_at, temperature_at, pressure_of, degrees_of, temperature_of, bench_of, most_degrees}
use Rattle.readings.specs.Place.{Place, Source0, Source1, Source2, Source6, Source7, SourceT2, SourceT6, code_of, place_of, reading_at}
use Rattle.readings.specs.Place as place
use Rattle.readings.specs.Reading.{start, put_reading}
use Rattle.readings.specs.There.{names}
use Rattle.readings.specs.declared.Pressure.{Pressure}
use Rattle.readings.specs.declared.Pressure.TheVariants.{Measured}
use Rattle.readings.specs.declared.Temperature.{Temperature}
use Rattle.readings.specs.declared.Temperature.TheVariants.{Degrees}
use Rattle.readings.specs.declared.Reading.{Reading}
use Rattle.readings.specs.declared.Reading.TheVariants.{P0, P1, P2, P6, P7, T2, T6, FS}
use Rattle.readings.specs.declared.Readings.{Readings}
use Rattle.readings.specs.declared.Bench.{Bench}
use Rattle.readings.specs.declared.Bench.TheVariants.{Reads, Status}
use Rattle.settings.specs.Limits.{bench_limits}
use Rattle.readings_facts.specs.Handed.{Hundredths, HandedPressure, value, under, over, faulty, HandedTemperature, degrees, failed, Handed}
use Rattle.readings_facts.proofs.Places.{get_put}
use Rattle.readings_facts.specs.Sound.{SoundPressure, SoundTemperature, SoundReading}
use Rattle.readings_facts.proofs.Lemmas.Good.{negative_some}
use Rattle.decimal.specs.declared.NumberError.{NumberError}

-- what is zero has no sign
zero_plus : (n : Number) → Canonical n → units n ≡ 0 → n.negative ≡ false
zero_plus n f z = go n.negative refl
  where
    go : (b : Bool) → n.negative ≡ b → n.negative ≡ false
    go true e = absurd (omega (arith, negative_some n f e))
    go false e = e

-- a number is zero or not
by_zero : {A : Type 0} (n : ℕ) → (n ≡ 0 → A) → (0 < n → A) → A
by_zero zero f g = f refl
by_zero (suc n) f g = g (omega arith)

-- where the size is not zero there are digits
some_digits : (h d u k : ℕ) → 0 < h → h * 10 ^ k ≡ d * 10 ^ u * 100 → 0 < d
some_digits h d u k p e = by_zero d (λ (z : d ≡ 0). absurd (omega (arith, mul-pos p (ten_pos k), rw z at e))) (λ (q : 0 < d). q)

-- ---- what is accepted was handed over

abbrev Overs : Bench → Option Reading → Type 0
Overs b (Some x) = Handed b x
Overs b None = Unit {0}

pressure_over : (b : Bench) (code : ℕ) (p : Pressure) → HandedPressure b p → Overs b (pressure_at code p)
unfolding pressure_at
pressure_over b code p f =
    each (Overs b) _ _ _ (λ _. f)
    (λ _. each (Overs b) _ _ _ (λ _. f)
    (λ _. each (Overs b) _ _ _ (λ _. f)
    (λ _. each (Overs b) _ _ _ (λ _. f)
    (λ _. each (Overs b) _ _ _ (λ _. f) (λ _. tt)))))

temperature_over : (b : Bench) (code : ℕ) (t : Temperature) → HandedTemperature b t → Overs b (temperature_at code t)
unfolding temperature_at
temperature_over b code t f =
    each (Overs b) _ _ _ (λ _. f)
    (λ _. each (Overs b) _ _ _ (λ _. f) (λ _. tt))

module _ (code : ℕ) (x : Exact) where
  number_over : (p : Result Number NumberError) → ((n : Number) → p ≡ Ok n → Exactly x n) → Overs (Reads code x) (pressure_of code p)
  unfolding pressure_of
  number_over (Ok n) f =
      each (Overs (Reads code x)) _ _ _ (λ _. tt) (λ _. pressure_over (Reads code x) code _ (value (f n refl)))
  number_over (Err e) f = tt

  -- a number's hundredths are the value's
  hundredths_too : (n : Number) (h : ℕ) → Exactly x n → hundredths_of n ≡ Some h → Hundredths x n.negative h
  hundredths_too n h f e =
      let u = ((hundredths_exactly n h).0 e).0 in
      let s : h * 10 ^ 12 * 10 ^ x.down ≡ x.digits * 10 ^ x.up * 10 ^ 14 = rw u at f.size in
      record {
        size = omega arith;
        sign = λ (k : 0 < h). f.sign (some_digits h x.digits x.up x.down k (omega arith));
        zero = λ (z : h ≡ 0). zero_plus n f.canonical (omega arith);
      }

  degrees_over : (negative : Bool) (h : Option ℕ) → ((k : ℕ) → h ≡ Some k → Hundredths x negative k) → Overs (Reads code x) (degrees_of code negative h)
  unfolding degrees_of
  degrees_over negative (Some h) f =
      each (Overs (Reads code x)) _ _ _ (λ _. tt) (λ _. temperature_over (Reads code x) code _ (degrees (f h refl)))
  degrees_over negative None f = tt

  celsius_over : (p : Result Number NumberError) → ((n : Number) → p ≡ Ok n → Exactly x n) → Overs (Reads code x) (temperature_of code p)
  unfolding temperature_of
  celsius_over (Ok n) f = degrees_over n.negative (hundredths_of n) (λ k e. hundredths_too n k (f n refl) e)
  celsius_over (Err e) f = tt

all_over : (b : Bench) → Overs b (bench_of b)
unfolding bench_of
all_over (Reads code x) =
    each (Overs (Reads code x)) _ _ _
    (λ _. celsius_over code x (normal_of x) (λ n. (exact x n).0)) (λ _. number_over code x (normal_of x) (λ n. (exact x n).0))
all_over (Bench.UnderRange code) = pressure_over (Bench.UnderRange code) code _ under
all_over (Bench.OverRange code) = pressure_over (Bench.OverRange code) code _ over
all_over (Bench.Faulty code) =
    each (Overs (Bench.Faulty code)) _ _ _ (λ _. temperature_over (Bench.Faulty code) code _ failed) (λ _. pressure_over (Bench.Faulty code) code _ faulty)
all_over (Status v) = each (Overs (Status v)) _ _ _ (λ _. tt) (λ _. refl)

pub handed_over : (b : Bench) (x : Reading) → bench_of b ≡ Some x → Handed b x
handed_over b x e = rw e at (all_over b)

-- ---- what is handed over, and allowed, is accepted

-- at a pressure source
pressure_back : {b : Bench} {p : Pressure} (code : ℕ) (x : Reading) → some code ≡ names b → leb 8 code ≡ false → ((n : Number) → p ≡ Measured n → takes code n ≡ true)
    → pressure_at code p ≡ Some x → HandedPressure b p → bench_of b ≡ Some x
unfolding bench_of names pressure_of pick
pressure_back code x e l t a (value {code = c} {x = y} {n = n} f) =
    let k : code ≡ c = cc in
    rw (← k, l, (exact y n).1 f, t n refl) a
pressure_back code x e l t a (under {code = c}) = let k : code ≡ c = cc in rw (← k) a
pressure_back code x e l t a (over {code = c}) = let k : code ≡ c = cc in rw (← k) a
pressure_back code x e l t a (faulty {code = c}) = let k : code ≡ c = cc in rw (← k, l) a

-- and where there are digits the size is not zero
some_size : (h d u k : ℕ) → 0 < d → h * 10 ^ k ≡ d * 10 ^ u * 100 → 0 < h
some_size h d u k p e = by_zero h (λ (z : h ≡ 0). absurd (omega (arith, units_pos d u p, rw z at e))) (λ (q : 0 < h). q)

-- h hundredths as a number
hundredths_number : (x : Exact) (negative : Bool) (h : ℕ) → h < 100000 → Hundredths x negative h
    → (n : Number) × Exactly x n × (hundredths_of n ≡ Some h) × (n.negative ≡ negative)
hundredths_number x negative h k f =
    let y : Exact = record { negative = cond (eqb h 0) false x.negative; digits = h; up = 0; down = 2 } in
    let w = decimals_count x.negative h (normal_of y) k (answers y) in
    let g = (exact y w.0).0 w.1 in
    let u : units w.0 ≡ h * 10 ^ 12 = omega (arith, g.size) in (
      w.0,
      record {
        canonical = g.canonical;
        size = rw u (omega (arith, f.size));
        sign = λ (p : 0 < x.digits). w.3 (some_size h x.digits x.up x.down p f.size);
      },
      w.2,
      signed w.0 g.canonical u w.3,
    )
  where
    signed : (n : Number) → Canonical n → units n ≡ h * 10 ^ 12 → (0 < h → n.negative ≡ x.negative) → n.negative ≡ negative
    signed n c u e = by_zero h (λ (z : h ≡ 0). zero_plus n c (omega arith) ∙ sym (f.zero z)) (λ (p : 0 < h). e p ∙ sym (f.sign p))

within_limit : (negative : Bool) (h : ℕ) → SoundTemperature (Degrees negative h) → h ≤ most_degrees negative
within_limit true h s = s.1
within_limit false h s = omega arith

at_most : (negative : Bool) → most_degrees negative < 100000
at_most true = omega arith
at_most false = omega arith

-- at a temperature source
temperature_back : {b : Bench} {t : Temperature} (code : ℕ) (x : Reading) → some code ≡ names b → leb 8 code ≡ true → SoundTemperature t
    → temperature_at code t ≡ Some x → HandedTemperature b t → bench_of b ≡ Some x
unfolding bench_of names temperature_of degrees_of pick
temperature_back code x e l s a (degrees {code = c} {x = y} {negative = negative} {h = h} f) =
    let k : code ≡ c = cc in
    let i = within_limit negative h s in
    let w = hundredths_number y negative h (omega (arith, at_most negative)) f in
    rw (← k, l, (exact y w.0).1 w.1, w.2, w.3, le-ltb (most_degrees negative) h i) a
temperature_back code x e l s a (failed {code = c}) = let k : code ≡ c = cc in rw (← k, l) a

or_true : (b : Bool) → (b || true) ≡ true
or_true true = refl
or_true false = refl

taken : (code : ℕ) (p : Pressure) → SoundPressure p → (n : Number) → p ≡ Measured n → takes code n ≡ true
unfolding takes
taken code (Measured k) s n e = let q : k ≡ n = cc in rw (← q, s.1) (or_true (eqb code 7))
taken code Pressure.UnderRange s n e = absurd (cc)
taken code Pressure.OverRange s n e = absurd (cc)
taken code Pressure.Faulty s n e = absurd (cc)

pub handed_back : (b : Bench) (x : Reading) → names b ≡ code_of (place_of x) → Handed b x → SoundReading x → bench_of b ≡ Some x
unfolding code_of place_of pressure_at temperature_at bench_of takes pick
handed_back b (P0 p) e f s = pressure_back 0 (P0 p) (sym e) refl (taken 0 p s) refl f
handed_back b (P1 p) e f s = pressure_back 1 (P1 p) (sym e) refl (taken 1 p s) refl f
handed_back b (P2 p) e f s = pressure_back 2 (P2 p) (sym e) refl (taken 2 p s) refl f
handed_back b (P6 p) e f s = pressure_back 6 (P6 p) (sym e) refl (taken 6 p s) refl f
handed_back b (P7 p) e f s = pressure_back 7 (P7 p) (sym e) refl (λ n _. refl) refl f
handed_back b (T2 t) e f s = temperature_back 8 (T2 t) (sym e) refl s refl f
handed_back b (T6 t) e f s = temperature_back 9 (T6 t) (sym e) refl s refl f
handed_back b (FS v) e f s = rw (f, lt-leb (bench_limits.status_high + 1) v (omega arith))

-- ---- what is handed over fixes the reading

exactly_one : (x : Exact) (a b : Number) → Exactly x a → Exactly x b → a ≡ b
exactly_one x a b f g =
    let u = eq_of_mul-eq-mul_right (10 ^ x.down) (ten_pos x.down) (units a) (units b) (f.size ∙ sym g.size) in
    canonical_same a b f.canonical g.canonical u (λ (p : 0 < units a). let d = digits_in_lem p in f.sign d ∙ sym (g.sign d))
  where
    digits_in_lem : 0 < units a → 0 < x.digits
    digits_in_lem p = by_zero x.digits (λ (z : x.digits ≡ 0). absurd (omega (arith, mul-pos p (ten_pos x.down), rw z at f.size))) (λ (q : 0 < x.digits). q)

hundredths_one : (x : Exact) (s t : Bool) (h k : ℕ) → Hundredths x s h → Hundredths x t k → Degrees s h ≡ Degrees t k
hundredths_one x s t h k f g =
    let u = eq_of_mul-eq-mul_right (10 ^ x.down) (ten_pos x.down) h k (f.size ∙ sym g.size) in
    let e : s ≡ t = by_zero h (λ (z : h ≡ 0). f.zero z ∙ sym (g.zero (omega arith))) (λ (p : 0 < h). f.sign p ∙ sym (g.sign (omega arith))) in
    rw (e, u)

pressure_one : {b : Bench} {p q : Pressure} → HandedPressure b p → HandedPressure b q → p ≡ q
pressure_one (value f) (value g) = ap Measured (exactly_one _ _ _ f g)
pressure_one under under = refl
pressure_one over over = refl
pressure_one faulty faulty = refl

temperature_one : {b : Bench} {t u : Temperature} → HandedTemperature b t → HandedTemperature b u → t ≡ u
temperature_one (degrees f) (degrees g) = hundredths_one _ _ _ _ _ f g
temperature_one failed failed = refl

place_one : (b : Bench) (p : Place) (r q : Readings) → Handed b (reading_at p r) → Handed b (reading_at p q) → reading_at p r ≡ reading_at p q
unfolding reading_at
place_one b Source0 r q f g = ap P0 (pressure_one f g)
place_one b Source1 r q f g = ap P1 (pressure_one f g)
place_one b Source2 r q f g = ap P2 (pressure_one f g)
place_one b Source6 r q f g = ap P6 (pressure_one f g)
place_one b Source7 r q f g = ap P7 (pressure_one f g)
place_one b SourceT2 r q f g = ap T2 (temperature_one f g)
place_one b SourceT6 r q f g = ap T6 (temperature_one f g)
place_one b place.Status r q f g = cc

pub handed_one : (b : Bench) (x y : Reading) → place_of x ≡ place_of y → Handed b x → Handed b y → x ≡ y
handed_one b x y e f g =
    let a = get_put start x in
    let c : reading_at (place_of x) (put_reading start y) ≡ y = rw e (get_put start y) in
    let one = place_one b (place_of x) (put_reading start x) (put_reading start y) (rw a f) (rw c g) in
    sym a ∙ one ∙ c
