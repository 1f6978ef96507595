-- One call of a script, on plain values.
use mathlib.Core.Path.{◌≡◌, refl, sym, ap, subst, ◌∙◌}
use mathlib.Core.List.{List, ◌∷◌, ◌++◌, append_assoc}
use Prim.Native.Nat.{ℕ, ◌+◌, ◌-◌, ◌<◌, ◌≤◌}
use native.Mathlib.Nat.{add-sub_cancel_left}
use native.Mathlib.Omega.{arith}
use lib.ListN.{length, take, drop, length-append, length-take, length-drop, take-append-drop}
use lib.Seq.{drop-drop, drop-append-le, sets, sets-eq}
use Rattle.buffer.specs.Answer.{Answer, over, Sent}
use Rattle.buffer.specs.declared.Written.{Written}
use Rattle.readings.specs.declared.Bench.{Bench}
use Rattle.opg_gauge.specs.declared.Pressure.{Pressure}
use Rattle.sequence_facts.proofs.Claimed as text
use Rattle.opg_sequence_facts.proofs.Claimed as opg
use Rattle.script.specs.Script.{call_at, room_of}
use Rattle.script.specs.declared.To.{To}
use Rattle.script.specs.declared.To.TheVariants.{Text, Opg}
use Rattle.script.specs.declared.Call.{Call}
use Rattle.script.specs.declared.Call.TheVariants.{Request, Line, SetBench, SetOpgBench}
use Rattle.std.specs.Prelude.{None, Option, Some}
use Rattle.sources.specs.declared.Profile.{Profile}
use Rattle.player.specs.Played.{Exchange, asked, lined, bench_set, opg_bench_set, History, answered_number, length_of, answer_to, line_for, bench_number_for, opg_bench_number, Standing, answered, made, advance}
use Rattle.player.proofs.Advance.{advances, stands}
use Rattle.player.specs.Inner.{Traces, Made, One}
use Rattle.player.specs.declared.Gauges.{Gauges}
use Rattle.player.specs.declared.Answered.{Answered}

-- a reply is no longer than the memory lent
pub reply_fits : {before after : List ℕ} {a : Answer} {w : Written} → Sent before a after w → length after ≡ length before → w.len ≤ length before
unfolding over
reply_fits {before} {after} {a} {w} f e =
    let long : length after ≡ length a.reply + length (drop (length a.reply) before) = ap length f.memory ∙ length-append a.reply (drop (length a.reply) before) in
    omega (arith, f.len)

-- a part lent has as many bytes as its call says
pub part_short : (memory : List ℕ) (used room : ℕ) → room < 65536 → length (take (used + room - used) (drop used memory)) < 65536
part_short memory used room h = simp length-take (omega arith)

-- the call that was read is k, with what holds of it
pub read : (P : Option Call → Type 0) (x : Option Call) {r k : Call} → Some r ≡ x → P (Some r) → r ≡ k → (x ≡ Some k) × P (Some k)
read P x e f q = (sym e ∙ ap Some q, subst (λ (c : Call). P (Some c)) q f)

-- ---- the answers are those that the rules fix

asked_fixed : (profile : Profile) (to : To) {g : Gauges} {h : History} {s before after : List ℕ} {n l : ℕ} → Traces profile (asked to s before n l after ∷ h) g
    → Sent before (answer_to profile to h (length before) s) after (record { number = n; len = l }) × (l ≤ length before)
asked_fixed profile Text t = (text.claimed_of profile _ _ t.of_text_gauge).0.answers.0
asked_fixed profile Opg t = (opg.claimed _ _ t.of_opg_gauge).answers.0

lined_fixed : (profile : Profile) {g : Gauges} {h : History} {before after : List ℕ} {n l : ℕ} → Traces profile (lined before n l after ∷ h) g
    → Sent before (line_for profile h (length before)) after (record { number = n; len = l }) × (l ≤ length before)
lined_fixed profile t = (text.claimed_of profile _ _ t.of_text_gauge).0.answers.0

bench_set_fixed : (profile : Profile) {g : Gauges} {h : History} {b : Bench} {n : ℕ} → Traces profile (bench_set b n ∷ h) g → n ≡ bench_number_for profile h b
bench_set_fixed profile t = (text.claimed_of profile _ _ t.of_text_gauge).0.answers.0

opg_bench_set_fixed : (profile : Profile) {g : Gauges} {h : History} {p : Pressure} {n : ℕ} → Traces profile (opg_bench_set p n ∷ h) g → n ≡ opg_bench_number h p
opg_bench_set_fixed profile t = (opg.claimed _ _ t.of_opg_gauge).answers.0

-- ---- the memory

-- what is left of the part lent, and what follows it
rest_of : (k n : ℕ) (l : List ℕ) → k ≤ length (take n l) → drop k (take n l) ++ drop n l ≡ drop k l
rest_of k n l h = sym (drop-append-le k (take n l) (drop n l) h) ∙ ap (drop k) (take-append-drop n l)

-- the part lent with the reply in it, put back: the reply stands in the memory
put_back : (memory reply : List ℕ) (used room : ℕ) → used + room ≤ length memory → length reply ≤ length (take room (drop used memory))
    → take used memory ++ (over reply (take room (drop used memory)) ++ drop room (drop used memory)) ≡ sets memory used reply
unfolding over
put_back memory reply used room h k =
    let short = simp (length-take, length-drop) at k in
    ap (λ (l : List ℕ). take used memory ++ l)
    (append_assoc reply (drop (length reply) (take room (drop used memory))) (drop room (drop used memory))
    ∙ ap (λ (l : List ℕ). reply ++ l) (rest_of (length reply) room (drop used memory) k ∙ drop-drop (length reply) used memory))
    ∙ sym (append_assoc (take used memory) reply (drop (used + length reply) memory)) ∙ sym (sets-eq reply memory used (omega arith))

-- ---- each kind of call

module _ (script memory : List ℕ) (g : Gauges) (at used : ℕ) where
  abbrev standing : History → Standing
  standing h = record { history = h; at = at; used = used; memory = memory }

  -- a call that was lent a part of the memory, and left `after` in it
  record Fixes (profile : Profile) (room at' : ℕ) (after : List ℕ) (e : Exchange) (h : History) : Type 0 where
    answer : Answer
    advanced : advance profile script (standing h) ≡ answered (standing h) room answer e at'
    part-is : after ≡ over answer.reply (take room (drop used memory))
    fits : length answer.reply ≤ length (take room (drop used memory))

  lent_one : (e : Exchange) (room at' : ℕ) (after : List ℕ) (r : Answered) → Made g e r → at' ≤ length script → used + room ≤ length memory
      → ((profile : Profile) (h : History) → Traces profile h g → Fixes profile room at' after e h)
      → One script memory g at used (Some (record { answered = r; at = at'; used = used + room })) (take used memory ++ (after ++ drop room (drop used memory)))
  lent_one e room at' after r m h k f =
      record {
        exchange = e;
        made = m;
        advances = λ profile h t.
            let x = f profile h t in
            x.advanced ∙ ap (λ (l : List ℕ). record { history = e ∷ h; at = at'; used = used + room; memory = l }) (sym (rw x.part-is (put_back memory x.answer.reply used room k x.fits)));
        at_in = h;
        used_in = k;
      }

  pub request_one : (to : To) (room len : ℕ) (after : List ℕ) (r : Answered) → at + 5 + len ≤ length script → call_at script at ≡ Some (Request to room len)
      → used + room ≤ length memory
      → Made g (asked to (take (at + 5 + len - (at + 5)) (drop (at + 5) script)) (take (used + room - used) (drop used memory)) r.number r.len after) r
      → One script memory g at used (Some (record { answered = r; at = at + 5 + len; used = used + room })) (take used memory ++ (after ++ drop (used + room - used) (drop used memory)))
  unfolding made
  request_one to room len after r h e fits m =
      rw (add-sub_cancel_left used room)
      (lent_one _ room (at + 5 + len) after r n h fits
      (λ profile h t.
      let f = asked_fixed profile to (n.follows profile h t) in
      record {
        answer = answer_to profile to h (length before) request;
        advanced = advances profile script (standing h) (Some (Request to room len)) e fits ∙ sym (rw (f.0.number, f.0.len, f.0.memory));
        part-is = f.0.memory;
        fits = rw f.0.len at f.1;
      }))
    where
      before : List ℕ
      before = take room (drop used memory)

      request : List ℕ
      request = take len (drop (at + 5) script)

      n : Made g (asked to request before r.number r.len after) r
      n = rw (add-sub_cancel_left (at + 5) len, add-sub_cancel_left used room) at m

  pub line_one : (room : ℕ) (after : List ℕ) (r : Answered) → at + 3 ≤ length script → call_at script at ≡ Some (Line room) → used + room ≤ length memory
      → Made g (lined (take (used + room - used) (drop used memory)) r.number r.len after) r
      → One script memory g at used (Some (record { answered = r; at = at + 3; used = used + room })) (take used memory ++ (after ++ drop (used + room - used) (drop used memory)))
  unfolding made
  line_one room after r h e fits m =
      rw (add-sub_cancel_left used room)
      (lent_one _ room (at + 3) after r n h fits
      (λ profile h t.
      let f = lined_fixed profile (n.follows profile h t) in
      record {
        answer = line_for profile h (length before);
        advanced = advances profile script (standing h) (Some (Line room)) e fits ∙ sym (rw (f.0.number, f.0.len, f.0.memory));
        part-is = f.0.memory;
        fits = rw f.0.len at f.1;
      }))
    where
      before : List ℕ
      before = take room (drop used memory)

      n : Made g (lined before r.number r.len after) r
      n = rw (add-sub_cancel_left used room) at m

  pub setting_one : (b : Bench) (r : Answered) → at + 10 ≤ length script → call_at script at ≡ Some (SetBench b) → used ≤ length memory
      → Made g (bench_set b r.number) r → One script memory g at used (Some (record { answered = r; at = at + 10; used = used })) memory
  unfolding made
  setting_one b r h e fits m =
      record {
        exchange = bench_set b r.number;
        made = m;
        advances = λ profile h t. advances profile script (standing h) (Some (SetBench b)) e (omega arith) ∙ sym (rw (bench_set_fixed profile (m.follows profile h t)));
        at_in = h;
        used_in = fits;
      }

  pub opg_bench_one : (p : Pressure) (r : Answered) → at + 6 ≤ length script → call_at script at ≡ Some (SetOpgBench p) → used ≤ length memory
      → Made g (opg_bench_set p r.number) r → One script memory g at used (Some (record { answered = r; at = at + 6; used = used })) memory
  unfolding made
  opg_bench_one p r h e fits m =
      record {
        exchange = opg_bench_set p r.number;
        made = m;
        advances = λ profile h t. advances profile script (standing h) (Some (SetOpgBench p)) e (omega arith) ∙ sym (rw (opg_bench_set_fixed profile (m.follows profile h t)));
        at_in = h;
        used_in = fits;
      }

  -- no call was made: too little memory is left for it, or there is none
  pub no_room : (k : Option Call) → call_at script at ≡ k → used ≤ length memory → length memory - used < room_of k → One script memory g at used None memory
  no_room k e h l = record { memory_is = refl; stands = λ profile h. stands profile script (standing h) k e (omega arith) }

  pub none_left : call_at script at ≡ None → used ≤ length memory → One script memory g at used None memory
  unfolding made
  none_left e fits = record { memory_is = refl; stands = λ profile h. advances profile script (standing h) None e (omega arith) }
