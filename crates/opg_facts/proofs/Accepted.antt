-- Exactly which requests are accepted, what a refused one changes, and that settings stay within their limits.
use mathlib.Core.Path.{◌≡◌, refl, ap, ◌∙◌}
use mathlib.Core.Bool.{Bool, true, false, not, ◌&&◌, ◌||◌, true≢false, and-eq-true_iff}
use mathlib.Core.List.{List, [], ◌∷◌, ◌++◌}
use Prim.Native.Nat.{ℕ, zero, suc}
use borrow.Author.Tests.{le-leb, not-true, not-false}
use lib.Dec.{leb, ltb, eqb}
use lib.ListN.{length, drop}
use Rattle.buffer.specs.First.{Row, ◌⇒◌, first, pick}
use Rattle.buffer.specs.Byte.{within}
use Rattle.buffer.proofs.Laws.{within_true}
use Rattle.opg_frames.specs.Frame.{cmd_of, foreign, wrong_crc, wrong_version, acknowledges, indexed}
use Rattle.opg_commands.specs.Request.{outside_of}
use Rattle.opg_request_reader.specs.Asked.{Asked, silent, error, wrong_shape, unknown_cmd, unknown_pid, lacks_access, wrong_count, refusals, meaning, wrong_mode, outside, asked_of, denied_number, asked_number}
use Rattle.opg_commands.specs.declared.Request.{Request}
use Rattle.opg_commands.specs.declared.Request.TheVariants.{ReadPressure, ReadUnit, WriteUnit, DetectionOff, DetectionOn}
use Rattle.std.proofs.Common.{Ok, Err}
use Rattle.opg_frames.specs.Number.{refusal_number, error_byte, error_number}
use Rattle.opg_frames.specs.declared.Refusal.{Refusal}
use Rattle.opg_frames.specs.declared.Refusal.TheVariants.{Room, Shape, Address}
use Rattle.opg_frames.specs.declared.ErrorByte.{ErrorByte}
use Rattle.opg_frames.specs.declared.ErrorByte.TheVariants as byte
use Rattle.opg_request_reader.specs.declared.Denied.TheVariants.{Silent, Error}
use Rattle.opg_commands.specs.Limits.{unit_low, unit_high, mode_high, gas_high}
use Rattle.opg_commands.specs.Settings.{entered}
use Rattle.opg_gauge.specs.Judged.{unavailable, judgement, after}
use Rattle.opg_gauge.specs.declared.Gauge.{Gauge}
use Rattle.opg_commands.specs.declared.Settings.{Settings}
use Rattle.opg_frame_writer.proofs.Laws.{length_frame}
use Rattle.opg_answer.specs.Reply.{reply_data, reply_to, answer_of, after_of}
use Rattle.opg_facts.specs.Accepted.{is_accepted, none, silent_number, sound}
use Rattle.opg_facts.specs.Theorems.{AskedExactly, NumberIs, AcceptedExactly, SilentExactly, RefusedKeeps, PressureStays, FactorySound, StaysSound}

-- ---- rows

-- P of what each row gives
abbrev Each : {A : Type 0} → (A → Type 0) → List (Row A) → Type 0
Each P [] = true ≡ true
Each P ((t ⇒ a) ∷ rows) = P a × Each P rows

-- whatever the rows give has P, if each row's has it, and the last where no test holds
gives : {A : Type 0} (P : A → Type 0) (rows : List (Row A)) (d : A) → Each P rows → (none rows ≡ true → P d) → P (first rows d)
unfolding pick none
gives P [] d h k = k refl
gives {A} P ((t ⇒ a) ∷ rows) d h k = go t (λ (f : none rows ≡ true → P d). gives P rows d h.1 f) k
  where
    go : (b : Bool) → ((none rows ≡ true → P d) → P (first rows d)) → ((not b && none rows) ≡ true → P d) → P (pick b a (first rows d))
    go true rest k = h.0
    go false rest k = rest k

-- rows of refusals: accepted exactly if no test holds
accepted_rows : (rows : List (Row Asked)) (r : Request) → Each (λ (a : Asked). is_accepted a ≡ false) rows → is_accepted (first rows (Ok r)) ≡ none rows
unfolding pick none is_accepted
accepted_rows [] r h = refl
accepted_rows ((t ⇒ a) ∷ rows) r h = go t (accepted_rows rows r h.1)
  where
    go : (b : Bool) → is_accepted (first rows (Ok r)) ≡ none rows → is_accepted (pick b a (first rows (Ok r))) ≡ (not b && none rows)
    go true e = h.0
    go false e = e

-- ---- the request reader, and the gauge

-- bytes are a request exactly if none of the refusals applies
pub asked_exactly : AskedExactly
unfolding asked_of is_accepted
asked_exactly s = accepted_rows (refusals s) (meaning s) (refl, (refl, (refl, (refl, (refl, (refl, (refl, (refl, (refl, (refl, (refl, refl)))))))))))

-- the gauge's rows: 21, the refusals, 1000
abbrev pub rows_of : ℕ → Gauge → List ℕ → List (Row Asked)
rows_of room g s = (ltb room 32 ⇒ silent Room ∷ []) ++ refusals s ++ (unavailable g (meaning s) ⇒ error byte.Unavailable ∷ [])

-- the gauge accepts exactly if none of its rows applies
pub accepts_exactly : (room : ℕ) (g : Gauge) (s : List ℕ) → is_accepted (judgement room g s) ≡ none (rows_of room g s)
unfolding judgement is_accepted
accepts_exactly room g s = accepted_rows (rows_of room g s) (meaning s) (refl, (refl, (refl, (refl, (refl, (refl, (refl, (refl, (refl, (refl, (refl, (refl, (refl, refl)))))))))))))

-- what the gauge judged has P, if every refusal has it, and the request where no row applies
pub judged : (P : Asked → Type 0) (room : ℕ) (g : Gauge) (s : List ℕ) → ((k : Refusal) → P (silent k)) → ((e : ErrorByte) → P (error e))
    → (none (rows_of room g s) ≡ true → P (Ok (meaning s))) → P (judgement room g s)
unfolding judgement
judged P room g s quiet loud accepted =
    gives P (rows_of room g s) (Ok (meaning s))
    (quiet Room, (quiet Shape, (quiet Address, (loud byte.Crc, (loud byte.Version, (loud byte.Acknowledge, (loud byte.Cmd, (loud byte.Pid, (loud byte.Access, (loud byte.Value, (loud byte.Length, (loud byte.Value, (loud byte.Unavailable, refl))))))))))))) accepted

-- the answer's number is document 01's number of what the gauge judged
pub number_is : NumberIs
unfolding answer_of reply_to asked_number denied_number
number_is room g s = go (cmd_of s) (judgement room g s)
  where
    go : (cmd : ℕ) (a : Asked) → (reply_to g cmd a).number ≡ asked_number a
    go cmd (Err (Silent k)) = refl
    go cmd (Err (Error e)) = refl
    go cmd (Ok r) = refl

-- ---- "A request is accepted exactly if lent room, frame, checksum, address, command, access, data and state satisfy document 01"

-- the rows' tests, by what they are about
grouped : (a b c d e f g h i j k l m : Bool)
    → not a && (not b && (not c && (not d && (not e && (not f && (not g && (not h && (not i && (not j && (not k && (not l && (not m && true))))))))))))
    ≡ (not a && (not b && (not c && (not d && ((not e && not f) && ((not g && not h) && (not i && ((not j && (not k && not l)) && not m))))))))
grouped true b c d e f g h i j k l m = refl
grouped false true c d e f g h i j k l m = refl
grouped false false true d e f g h i j k l m = refl
grouped false false false true e f g h i j k l m = refl
grouped false false false false true f g h i j k l m = refl
grouped false false false false false true g h i j k l m = refl
grouped false false false false false false true h i j k l m = refl
grouped false false false false false false false true i j k l m = refl
grouped false false false false false false false false true j k l m = refl
grouped false false false false false false false false false true k l m = refl
grouped false false false false false false false false false false true l m = refl
grouped false false false false false false false false false false false true m = refl
grouped false false false false false false false false false false false false true = refl
grouped false false false false false false false false false false false false false = refl

-- no row gives the number 20
taken : (a : Asked) → Type 0
taken a = eqb (asked_number a) 20 ≡ is_accepted a

number_20 : (room : ℕ) (g : Gauge) (s : List ℕ) → taken (judgement room g s)
unfolding taken judgement asked_number denied_number refusal_number error_byte is_accepted
number_20 room g s =
    gives taken (rows_of room g s) (Ok (meaning s)) (refl, (refl, (refl, (refl, (refl, (refl, (refl, (refl, (refl, (refl, (refl, (refl, (refl, refl))))))))))))) (λ _. refl)

-- a request is accepted exactly if it is answered 20
pub accepted_number : (room : ℕ) (g : Gauge) (s : List ℕ) → eqb (answer_of room g s).number 20 ≡ is_accepted (judgement room g s)
unfolding taken
accepted_number room g s = ap (λ (n : ℕ). eqb n 20) (number_is room g s) ∙ number_20 room g s

-- the number is 20 exactly if these conditions hold, in document 01's order
pub accepted_exactly : AcceptedExactly
unfolding none
accepted_exactly room g s =
    accepted_number room g s
    ∙ accepts_exactly room g s
    ∙ grouped
    (ltb room 32) (wrong_shape s) (foreign 0 s) (wrong_crc s) (wrong_version s) (acknowledges s) (unknown_cmd s) (unknown_pid s) (lacks_access s) (indexed s) (wrong_count s) (outside s)
    (unavailable g (meaning s))

-- ---- the silent ones

-- an answer is empty exactly if its number is 21, 22 or 23
Quiet : Gauge → ℕ → Asked → Type 0
Quiet g cmd a = eqb (length (reply_to g cmd a).reply) 0 ≡ silent_number (reply_to g cmd a).number

error_loud : (g : Gauge) (cmd : ℕ) (e : ErrorByte) → silent_number (error_number e) ≡ false → Quiet g cmd (error e)
unfolding Quiet reply_to
error_loud g cmd e h = rw (length_frame, h)

accepted_loud : (g : Gauge) (cmd : ℕ) (r : Request) → Quiet g cmd (Ok r)
unfolding Quiet reply_to reply_data within
accepted_loud g cmd (ReadPressure u) = rw length_frame
accepted_loud g cmd ReadUnit = rw length_frame
accepted_loud g cmd (WriteUnit u) = rw length_frame
accepted_loud g cmd DetectionOff = rw length_frame
accepted_loud g cmd (DetectionOn n gas) = rw length_frame

pub silent_exactly : SilentExactly
unfolding Quiet answer_of judgement reply_to within refusal_number error_byte
silent_exactly room g s =
    let l = error_loud g (cmd_of s) in
    gives (Quiet g (cmd_of s)) (rows_of room g s) (Ok (meaning s))
    (refl, (refl, (refl, (l byte.Crc refl, (l byte.Version refl, (l byte.Acknowledge refl, (l byte.Cmd refl, (l byte.Pid refl, (l byte.Access refl, (l byte.Value refl, (l byte.Length refl, (l byte.Value refl, (l byte.Unavailable refl, refl)))))))))))))
    (λ _. accepted_loud g (cmd_of s) (meaning s))

-- ---- what a request changes

-- a refused request changes nothing
pub refused_keeps : RefusedKeeps
unfolding after_of after is_accepted
refused_keeps room g s = go (judgement room g s)
  where
    go : (a : Asked) → is_accepted a ≡ false → after g a ≡ g
    go (Err d) e = refl
    go (Ok r) e = absurd (true≢false e)

-- no request changes the pressure
pub pressure_stays : PressureStays
unfolding after_of after
pressure_stays room g s = go (judgement room g s)
  where
    go : (a : Asked) → (after g a).pressure ≡ g.pressure
    go (Err d) = refl
    go (Ok r) = refl

-- ---- limits

pub factory_sound : FactorySound
unfolding sound within
factory_sound = refl

-- a request without a value outside keeps them there
module _ (s : Settings) (h : sound s ≡ true) where
  unit_sound : within unit_low unit_high s.unit ≡ true
  unfolding sound
  unit_sound = ((and-eq-true_iff (within unit_low unit_high s.unit) (leb s.mode mode_high && leb s.gas gas_high)).0 h).0

  rest_sound : (leb s.mode mode_high && leb s.gas gas_high) ≡ true
  unfolding sound
  rest_sound = ((and-eq-true_iff (within unit_low unit_high s.unit) (leb s.mode mode_high && leb s.gas gas_high)).0 h).1

  entered_sound : (r : Request) → outside_of r ≡ false → sound (entered s r) ≡ true
  unfolding sound entered outside_of
  entered_sound (ReadPressure u) o = h
  entered_sound ReadUnit o = h
  entered_sound (WriteUnit u) o = rw (not-false (within unit_low unit_high u) o) rest_sound
  entered_sound DetectionOff o = rw unit_sound ((and-eq-true_iff (leb s.mode mode_high) (leb s.gas gas_high)).0 rest_sound).1
  entered_sound (DetectionOn n gas) o = rw unit_sound (le-leb gas gas_high (within_true 0 gas_high gas (not-false (within 0 gas_high gas) o)).1)

-- where no row's test holds, none of the rows behind the first k holds
none_drop : (k : ℕ) (rows : List (Row Asked)) → none rows ≡ true → none (drop k rows) ≡ true
unfolding none
none_drop zero rows e = e
none_drop (suc k) [] e = refl
none_drop (suc k) ((t ⇒ a) ∷ rows) e = none_drop k rows ((and-eq-true_iff (not t) (none rows)).0 e).1

front_false : (t : Bool) (a : Asked) (rows : List (Row Asked)) → none ((t ⇒ a) ∷ rows) ≡ true → t ≡ false
unfolding none
front_false t a rows e = not-true t ((and-eq-true_iff (not t) (none rows)).0 e).0

or_false : (a b : Bool) → (a || b) ≡ false → (a ≡ false) × (b ≡ false)
or_false true b e = absurd (true≢false e)
or_false false b e = (refl, e)

-- what the tests of CMD, PID, access and value say of an accepted request
pub record Passed (s : List ℕ) : Type 0 where
  pub cmd : unknown_cmd s ≡ false
  pub pid : unknown_pid s ≡ false
  pub access : lacks_access s ≡ false
  pub mode : wrong_mode s ≡ false
  pub value : outside_of (meaning s) ≡ false

pub passed : (room : ℕ) (g : Gauge) (s : List ℕ) → none (rows_of room g s) ≡ true → Passed s
unfolding outside
passed room g s n =
    let rows = rows_of room g s in
    let in_limits = or_false (wrong_mode s) (outside_of (meaning s)) (front_false (outside s) _ _ (none_drop 11 rows n)) in
    record {
      cmd = front_false (unknown_cmd s) _ _ (none_drop 6 rows n);
      pid = front_false (unknown_pid s) _ _ (none_drop 7 rows n);
      access = front_false (lacks_access s) _ _ (none_drop 8 rows n);
      mode = in_limits.0;
      value = in_limits.1;
    }

-- settings stay within their limits, whatever is asked
pub stays_sound : StaysSound
unfolding after_of after
stays_sound room g s h =
    judged (λ (a : Asked). sound (after g a).settings ≡ true) room g s (λ _. h) (λ _. h)
    (λ n. entered_sound g.settings h (meaning s) (passed room g s n).value)
