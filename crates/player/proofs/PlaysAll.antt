-- Every sequence of calls has a script, and its play makes exactly these calls.
use mathlib.Core.Path.{◌≡◌, refl, sym, ap, ap₂, subst, ◌∙◌}
use mathlib.Core.Bool.{Bool, true, false, cond, not}
use mathlib.Core.List.{List, [], ◌∷◌, ◌++◌, append-nil}
use Prim.Native.Nat.{ℕ, zero, suc, ◌+◌, ◌-◌, ◌<◌, ◌≤◌, min, ◌/◌, ◌%◌}
use native.Mathlib.Nat.{zero-add}
use native.Mathlib.Omega.{arith}
use borrow.Author.Tests.{le-ltb}
use lib.Dec.{eqb}
use lib.ListN.{length, take, drop, length-append, length-take, length-drop}
use lib.Seq.{drop-drop, take-append_seam, drop-append_seam, append_snoc, length-sets}
use Rattle.buffer.specs.First.{◌⇒◌, first, pick}
use Rattle.buffer.specs.Byte.{at, word_of, pair_at, word_at}
use Rattle.decimal.specs.declared.Exact.{Exact}
use Rattle.readings.specs.declared.Bench.{Bench}
use Rattle.readings.specs.declared.Bench.TheVariants.{Reads, UnderRange, OverRange, Faulty, Status}
use Rattle.opg_gauge.specs.declared.Pressure.{Pressure}
use Rattle.opg_gauge.specs.declared.Pressure.TheVariants.{Bits, Unavailable}
use Rattle.script.specs.Number.{pair_bytes}
use Rattle.script.specs.Script.{request_of, line_of, exact_at, setting_of, pressure_of, call_of, call_at, room_of}
use Rattle.script.specs.declared.To.{To}
use Rattle.script.specs.declared.To.TheVariants.{Text, Opg}
use Rattle.script.specs.declared.Call.{Call}
use Rattle.script.specs.declared.Call.TheVariants.{Request, Line, SetBench, SetOpgBench}
use Rattle.std.specs.Prelude.{None, Option, Some}
use Rattle.sources.specs.declared.Profile.{Profile}
use Rattle.player.specs.Played.{in_order, answer_to, line_for, Standing, made, advance, play_of, beginning, ends}
use Rattle.player.proofs.Advance.{advances}
use Rattle.player.specs.Encoded.{Fed, request, line, bench, pressure, fed, lent_to, kind_of, bench_bytes, pressure_bytes, bytes_of, script_of, lent_to_all, Every, Bytes, Sendable}
use Rattle.player.specs.Theorems.{ScriptBytes, PlaysAll}

-- a number is read as it was written
word_is : (n : ℕ) → word_of (n / 16777216) (n / 65536 % 256) (n / 256 % 256) (n % 256) ≡ n
word_is n = omega arith

-- ---- a script is bytes

both : (s t : List ℕ) → Bytes s → Bytes t → Bytes (s ++ t)
unfolding Every
both [] t a b = b
both (x ∷ s) t a b = (a.0, both s t a.1 b)

-- a bench setting with no value
plain : (which code : ℕ) → which < 256 → code < 256 → Bytes (2 ∷ which ∷ code ∷ 0 ∷ 0 ∷ 0 ∷ 0 ∷ 0 ∷ 0 ∷ 0 ∷ [])
unfolding Every
plain which code h k = (omega arith, (h, (k, (omega arith, (omega arith, (omega arith, (omega arith, (omega arith, (omega arith, (omega arith, tt))))))))))

sign_byte : (b : Bool) → cond b 1 0 < 256
sign_byte true = omega arith
sign_byte false = omega arith

kind_byte : (to : To) → kind_of to < 256
kind_byte Text = omega arith
kind_byte Opg = omega arith

call_bytes : (f : Fed) → Sendable f → Bytes (bytes_of f)
unfolding Every bytes_of bench_bytes pressure_bytes
call_bytes (request to s lent) k = (kind_byte to, (omega arith, (omega arith, (omega arith, (omega arith, k.0)))))
call_bytes (line lent) k = (omega arith, (omega arith, (omega arith, tt)))
call_bytes (bench (Reads code x)) k =
    (omega arith, (omega arith, (k.0, (sign_byte x.negative, (omega arith, (omega arith, (omega arith, (omega arith, (omega arith, (omega arith, tt))))))))))
call_bytes (bench (UnderRange code)) k = plain 1 code (omega arith) k
call_bytes (bench (OverRange code)) k = plain 2 code (omega arith) k
call_bytes (bench (Faulty code)) k = plain 3 code (omega arith) k
call_bytes (bench (Status v)) k = plain 4 v (omega arith) k
call_bytes (pressure (Bits w)) k = (omega arith, (omega arith, (omega arith, (omega arith, (omega arith, (omega arith, tt))))))
call_bytes (pressure Unavailable) k = (omega arith, (omega arith, (omega arith, (omega arith, (omega arith, (omega arith, tt))))))

-- every sequence of such calls has a script
pub script_bytes : ScriptBytes
unfolding Every script_of
script_bytes [] k = tt
script_bytes (f ∷ fs) k = both (bytes_of f) (script_of fs) (call_bytes f k.0) (script_bytes fs k.1)

-- ---- a call is read as it was written

abbrev call_for : Fed → Call
call_for (request to s lent) = Request to lent (length s)
call_for (line lent) = Line lent
call_for (bench b) = SetBench b
call_for (pressure p) = SetOpgBench p

read_request : (to : To) (l : List ℕ) (lent n : ℕ) → 5 ≤ length l → at l 0 ≡ kind_of to → pair_at l 1 ≡ lent → pair_at l 3 ≡ n → n ≤ length l - 5 → call_of l ≡ Some (Request to lent n)
unfolding call_of request_of pick
read_request Text l lent n h z p q k = rw (le-ltb (length l) 1 (omega arith), z, le-ltb (length l) 5 h, q, p, le-ltb (length l - 5) n k)
read_request Opg l lent n h z p q k = rw (le-ltb (length l) 1 (omega arith), z, le-ltb (length l) 5 h, q, p, le-ltb (length l - 5) n k)

read_line : (l : List ℕ) (lent : ℕ) → 3 ≤ length l → at l 0 ≡ 1 → pair_at l 1 ≡ lent → call_of l ≡ Some (Line lent)
unfolding call_of line_of pick
read_line l lent h z p = rw (le-ltb (length l) 1 (omega arith), z, le-ltb (length l) 3 h, p)

-- a bench setting is read by its second byte
read_setting : (l : List ℕ) (which : ℕ) → 10 ≤ length l → at l 0 ≡ 2 → at l 1 ≡ which
    → call_of l
    ≡ first
    (eqb which 0 ⇒ Some (SetBench (Reads (at l 2) (exact_at l)))
    ∷ eqb which 1 ⇒ Some (SetBench (UnderRange (at l 2)))
    ∷ eqb which 2 ⇒ Some (SetBench (OverRange (at l 2)))
    ∷ eqb which 3 ⇒ Some (SetBench (Faulty (at l 2)))
    ∷ eqb which 4 ⇒ Some (SetBench (Status (at l 2)))
    ∷ [])
    None
unfolding call_of setting_of pick
read_setting l which h z w = rw (le-ltb (length l) 1 (omega arith), z, le-ltb (length l) 10 h, w)

read_opg_bench : (l : List ℕ) (which : ℕ) → 6 ≤ length l → at l 0 ≡ 4 → at l 1 ≡ which
    → call_of l ≡ first (eqb which 0 ⇒ Some (SetOpgBench (Bits (word_at l 2))) ∷ eqb which 1 ⇒ Some (SetOpgBench Unavailable) ∷ []) None
unfolding call_of pressure_of pick
read_opg_bench l which h z w = rw (le-ltb (length l) 1 (omega arith), z, le-ltb (length l) 6 h, w)

sign_is : (b : Bool) → not (eqb (cond b 1 0) 0) ≡ b
sign_is true = refl
sign_is false = refl

value_is : (x : Exact) (code : ℕ) (rest : List ℕ) → exact_at (bytes_of (bench (Reads code x)) ++ rest) ≡ x
unfolding bytes_of bench_bytes exact_at
value_is x code rest = rw (word_is x.digits, sign_is x.negative)

front : (f : Fed) (rest : List ℕ) → call_of (bytes_of f ++ rest) ≡ Some (call_for f)
unfolding bytes_of bench_bytes pressure_bytes pick
front (request to s lent) rest = read_request to _ lent (length s) (omega arith) refl (omega arith) (omega arith) (simp length-append (omega arith))
front (line lent) rest = read_line _ lent (omega arith) refl (omega arith)
front (bench (Reads code x)) rest = read_setting _ 0 (omega arith) refl refl ∙ ap (λ (y : Exact). Some (SetBench (Reads code y))) (value_is x code rest)
front (bench (UnderRange code)) rest = read_setting _ 1 (omega arith) refl refl
front (bench (OverRange code)) rest = read_setting _ 2 (omega arith) refl refl
front (bench (Faulty code)) rest = read_setting _ 3 (omega arith) refl refl
front (bench (Status v)) rest = read_setting _ 4 (omega arith) refl refl
front (pressure (Bits w)) rest = read_opg_bench _ 0 (omega arith) refl refl ∙ ap (λ (n : ℕ). Some (SetOpgBench (Bits n))) (word_is w)
front (pressure Unavailable) rest = read_opg_bench _ 1 (omega arith) refl refl

room_is : (f : Fed) → room_of (Some (call_for f)) ≡ lent_to f
room_is (request to s lent) = refl
room_is (line lent) = refl
room_is (bench b) = refl
room_is (pressure p) = refl

-- ---- one call of a play

-- n places further in the script
further : (script a rest : List ℕ) (at n : ℕ) → drop at script ≡ a ++ rest → n ≡ length a → drop (at + n) script ≡ rest
further script a rest at n d e = sym (drop-drop n at script) ∙ rw (d, e) (drop-append_seam a rest)

-- a request that was written: its bytes stand behind its head, and what follows behind them
request_read : (script s rest : List ℕ) (at kind lent len : ℕ) → drop at script ≡ (kind ∷ pair_bytes lent ++ pair_bytes (length s)) ++ (s ++ rest) → len ≡ length s
    → (take len (drop (at + 5) script) ≡ s) × (drop (at + 5 + len) script ≡ rest)
request_read script s rest at kind lent len d e =
    let tail : drop (at + 5) script ≡ s ++ rest = further script (kind ∷ pair_bytes lent ++ pair_bytes (length s)) (s ++ rest) at 5 d refl in
    (rw (tail, e) (take-append_seam s rest), further script s rest (at + 5) len tail e)

-- a part of the memory has the length that was asked for
part_long : (memory : List ℕ) (used room : ℕ) → used + room ≤ length memory → length (take room (drop used memory)) ≡ room
part_long memory used room h = simp (length-take, length-drop) (omega arith)

ten : (b : Bench) → 10 ≡ length (bytes_of (bench b))
unfolding bytes_of bench_bytes
ten (Reads code x) = refl
ten (UnderRange code) = refl
ten (OverRange code) = refl
ten (Faulty code) = refl
ten (Status v) = refl

six : (p : Pressure) → 6 ≡ length (bytes_of (pressure p))
unfolding bytes_of pressure_bytes
six (Bits w) = refl
six Unavailable = refl

-- the call f stood next and was made: p was before it, q is after it, and the rest of the script is left
record Next (script : List ℕ) (f : Fed) (rest : List ℕ) (p q : Standing) : Type 0 where
  order : in_order fed q.history ≡ in_order fed p.history ++ f ∷ []
  rest_is : drop q.at script ≡ rest
  used_is : q.used ≡ p.used + lent_to f
  long : length q.memory ≡ length p.memory

next : (profile : Profile) (script : List ℕ) (p : Standing) (f : Fed) (rest : List ℕ) → drop p.at script ≡ bytes_of f ++ rest → p.used + lent_to f ≤ length p.memory
    → Next script f rest p (made profile script p (Some (call_for f)))
unfolding bytes_of made
next profile script p (request to s lent) rest d fits =
    let b = request_read script s rest p.at (kind_of to) lent (length s) d refl in
    record {
      order = ap₂ (λ (s : List ℕ) (n : ℕ). in_order fed p.history ++ request to s n ∷ []) b.0 (part_long p.memory p.used lent fits);
      rest_is = b.1;
      used_is = refl;
      long = length-sets p.memory p.used (answer_to profile to p.history (length (take lent (drop p.used p.memory))) (take (length s) (drop (p.at + 5) script))).reply;
    }
next profile script p (line lent) rest d fits =
    record {
      order = ap (λ (n : ℕ). in_order fed p.history ++ line n ∷ []) (part_long p.memory p.used lent fits);
      rest_is = further script (1 ∷ pair_bytes lent) rest p.at 3 d refl;
      used_is = refl;
      long = length-sets p.memory p.used (line_for profile p.history (length (take lent (drop p.used p.memory)))).reply;
    }
next profile script p (bench b) rest d fits =
    record { order = refl; rest_is = further script (bytes_of (bench b)) rest p.at 10 d (ten b); used_is = omega arith; long = refl }
next profile script p (pressure q) rest d fits =
    record { order = refl; rest_is = further script (bytes_of (pressure q)) rest p.at 6 d (six q); used_is = omega arith; long = refl }

-- ---- the play

-- after n calls of the script of fs: the first of the sequence were made, and these are left
record Walk (fs : List Fed) (memory : List ℕ) (n : ℕ) (p : Standing) : Type 0 where
  left : List Fed
  order : in_order fed p.history ++ left ≡ fs
  rest : drop p.at (script_of fs) ≡ script_of left
  lent : p.used + lent_to_all left ≡ lent_to_all fs
  long : length p.memory ≡ length memory
  count : length left ≡ length fs - n

-- no call stands at the end
none_there : call_of [] ≡ None
unfolding call_of pick
none_there = refl

step : (profile : Profile) (fs : List Fed) (memory : List ℕ) (n : ℕ) (p : Standing) → lent_to_all fs ≤ length memory → (left : List Fed) → in_order fed p.history ++ left ≡ fs
    → drop p.at (script_of fs) ≡ script_of left → p.used + lent_to_all left ≡ lent_to_all fs → length p.memory ≡ length memory → length left ≡ length fs - n
    → Walk fs memory (suc n) (advance profile (script_of fs) p)
unfolding script_of lent_to_all made
step profile fs memory n p room [] o r l m c =
    rw (advances profile (script_of fs) p None (ap call_of r ∙ none_there) (omega arith)) (record { left = []; order = o; rest = r; lent = l; long = m; count = omega arith })
step profile fs memory n p room (f ∷ left) o r l m c =
    let k : call_at (script_of fs) p.at ≡ Some (call_for f) = ap call_of r ∙ front f (script_of left) in
    let fits : p.used + lent_to f ≤ length p.memory = omega arith in
    let x = next profile (script_of fs) p f (script_of left) r fits in
    rw (advances profile (script_of fs) p (Some (call_for f)) k (subst (λ (n : ℕ). p.used + n ≤ length p.memory) (sym (room_is f)) fits))
    (record {
      left = left;
      order = ap (λ (h : List Fed). h ++ left) x.order ∙ append_snoc (in_order fed p.history) f left ∙ o;
      rest = x.rest_is;
      lent = omega (arith, x.used_is);
      long = x.long ∙ m;
      count = omega arith;
    })

walk : (profile : Profile) (fs : List Fed) (memory : List ℕ) → lent_to_all fs ≤ length memory → (n : ℕ) → Walk fs memory n (play_of profile n (script_of fs) (beginning memory))
unfolding play_of
walk profile fs memory room zero = record { left = fs; order = refl; rest = refl; lent = zero-add (lent_to_all fs); long = refl; count = omega arith }
walk profile fs memory room (suc n) =
    let w = walk profile fs memory room n in
    step profile fs memory n (play_of profile n (script_of fs) (beginning memory)) room w.left w.order w.rest w.lent w.long w.count

-- THE THEOREM: with memory for all of them and places for their answers, the calls made are the sequence
pub plays_all : PlaysAll
plays_all profile fs memory numbers lens room n l =
    let w = walk profile fs memory room (min (length numbers) (length lens)) in
    go w.left w.order w.count
  where
    go : (left : List Fed) → in_order fed (ends profile (script_of fs) memory numbers lens).history ++ left ≡ fs → length left ≡ length fs - min (length numbers) (length lens)
        → in_order fed (ends profile (script_of fs) memory numbers lens).history ≡ fs
    go [] order count = sym (append-nil (in_order fed (ends profile (script_of fs) memory numbers lens).history)) ∙ order
    go (f ∷ left) order count = absurd (omega arith)
