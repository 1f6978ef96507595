-- Document 01, "Settings and readings, V2" and "The master's side": what the gauge answers to a V2 request is read by the master as the
-- value that the gauge holds, or as the error that the table gives the request.
use mathlib.Core.Path.{◌≡◌, refl, sym, ap, ◌∙◌}
use mathlib.Core.Bool.{Bool, true, false, ◌&&◌}
use mathlib.Core.List.{List, []}
use Prim.Native.Nat.{ℕ, ◌≤◌}
use native.Mathlib.Omega.{arith}
use borrow.Author.Tests.{le-ltb, eqb-true}
use lib.Dec.{eqb}
use Rattle.std.specs.Prelude.{Ok}
use Rattle.buffer.specs.First.{pick}
use Rattle.buffer.specs.Byte.{within}
use Rattle.buffer.proofs.Laws.{within_in}
use Rattle.buffer.proofs.Rules.{not_eqb}
use Rattle.frames.specs.Frame.{data_from, address_of, head_v2}
use Rattle.frames.specs.declared.HeadV2.{HeadV2}
use Rattle.frames.specs.declared.Frame.TheVariants.{V2}
use Rattle.frame_writer.specs.Written.{frame_v2}
use Rattle.frames_facts.proofs.Shape.{Tells, tells}
use Rattle.error_texts.specs.Texts.{error_of}
use Rattle.settings.specs.Limits.{ProfileLimits}
use Rattle.settings.specs.declared.Key.TheVariants.{DA, DU, C1, CM, CC, FC, ST, SM}
use Rattle.readings.specs.Reading.{pressure_text, temperature_text, faulty_pressure, faulty_temperature}
use Rattle.readings.specs.declared.Pressure.{Pressure}
use Rattle.readings.specs.declared.Pressure.TheVariants as pressure
use Rattle.readings.specs.declared.Temperature.{Temperature}
use Rattle.readings.specs.declared.Temperature.TheVariants as temperature
use Rattle.readings_facts.specs.Sound.{SoundPressure, SoundTemperature}
use Rattle.forms.specs.Judged.{list_in}
use Rattle.requests.specs.AskV2.{ask_v2}
use Rattle.requests.specs.declared.Command.{Command}
use Rattle.requests.specs.declared.Command.TheVariants.{MV, T2, FN, FS, Of}
use Rattle.requests.specs.declared.RequestV2.{RequestV2}
use Rattle.requests.specs.declared.RequestV2.TheVariants as request
use Rattle.request_texts.specs.RequestText.{head_for}
use Rattle.replies_v2_values.specs.Value.{pressure_reply, value_reply, value_list}
use Rattle.replies_v2_values.specs.declared.ReplyV2.{ReplyV2}
use Rattle.replies_v2_values.specs.declared.ReplyV2.TheVariants.{Measured, UnderRange, OverRange, Degrees, FilamentNumber, StatusNumber, Holds, Done, Error}
use Rattle.replies_v2.specs.ReplyV2.{done_reply, data_reply, read_v2, beside, data_list, read_list}
use Rattle.forms_facts.proofs.Lemmas.Lists.{at_most_entries}
use Rattle.gauge_rules.specs.State.{State}
use Rattle.gauge_rules.specs.RulesV2.{changes_cathode, reads_faulty, grant_v2, sent_text, text_v2, answer_code}
use Rattle.gauge_table.specs.Table.{other_address, number_of}
use Rattle.gauge_table.specs.Reply.{error_v2, answer_head, accepted_v2, reply_of}
use Rattle.gauge_table.specs.After.{answer_of}
use Rattle.gauge_table.specs.Decided.{decided_v2}
use Rattle.gauge_table.proofs.Numbers.{number_v2}
use Rattle.gauge_table.proofs.Sendable.{text_printed}
use Rattle.gauge_facts.specs.Sound.{SoundState}
use Rattle.gauge_facts.proofs.Lengths.{text_v2_le}
use Rattle.exchange_v2_facts.specs.HeldV2.{held_pressure, held_temperature, held_value, held_v2, held_list_of, held_list_v2, expected_v2, expected_list_v2, Alike, AskedBy}
use Rattle.exchange_v2_facts.specs.Theorems.{ExchangeV2, ExchangeListV2}
use Rattle.exchange_v2_facts.proofs.Lemmas.Frames.{accepted_read, error_read}
use Rattle.exchange_v2_facts.proofs.Lemmas.Alike.{same_head, same_answer, same_grant, never_silent}
use Rattle.exchange_v2_facts.proofs.Lemmas.Values.{filament_read, status_read, setting_read, stream_list, measured_read, below_read, above_read, degrees_below_read, degrees_read}

-- ---- the data of replies

-- what is granted asks for no faulty sensor
granted : (a b : Bool) → pick {A = ℕ} a 12 (pick b 13 0) ≡ 0 → b ≡ false
unfolding pick
granted true b e = absurd (omega arith)
granted false true e = absurd (omega arith)
granted false false e = refl

pressure_read_lem : (p : Pressure) → SoundPressure p → faulty_pressure p ≡ false → pressure_reply (pressure_text p) ≡ Ok (held_pressure p)
unfolding pressure_text faulty_pressure held_pressure
pressure_read_lem (pressure.Measured n) h e = measured_read n h.0 h.1
pressure_read_lem pressure.UnderRange h e = below_read
pressure_read_lem pressure.OverRange h e = above_read
pressure_read_lem pressure.Faulty h e = absurd (let z : ◌≡◌ {A = ℕ} 0 1 = cc in omega arith)

temperature_read : (limits : ProfileLimits) (t : Temperature) → SoundTemperature t → faulty_temperature t ≡ false → value_reply limits T2 (temperature_text t) ≡ Ok (held_temperature t)
unfolding temperature_text faulty_temperature held_temperature value_reply
temperature_read limits (temperature.Degrees true h) k e = degrees_below_read h k.0 k.1
temperature_read limits (temperature.Degrees false h) k e = degrees_read h k
temperature_read limits temperature.Faulty k e = absurd (let z : ◌≡◌ {A = ℕ} 0 1 = cc in omega arith)

module _ (g : State) (f : SoundState g) where
  value_read : (c : Command) → reads_faulty g.readings (request.Read c) ≡ false → value_reply g.limits c (sent_text g c) ≡ Ok (held_value g c)
  unfolding reads_faulty value_reply sent_text held_value
  value_read MV e = pressure_read_lem g.readings.p0 f.readings.p0 e
  value_read T2 e = temperature_read g.limits g.readings.t2 f.readings.t2 e
  value_read FN e = filament_read g.settings.filament g.readings.status
  value_read FS e = status_read g.readings.status f.readings.status
  value_read (Of key) e = setting_read g.limits f.proper key g.settings f.settings

  -- the data of a reply to a granted request are read as what the gauge holds
  data_read : (r : RequestV2) → grant_v2 g r ≡ 0 → data_reply g.limits r (text_v2 g r) ≡ Ok (held_v2 g r)
  unfolding grant_v2 data_reply done_reply text_v2 held_v2 pick
  data_read (request.Read c) e = value_read c (granted (changes_cathode (request.Read c) && eqb g.settings.control 1) (reads_faulty g.readings (request.Read c)) e)
  data_read (request.Restore c) e = refl
  data_read (request.Set x) e = refl

-- ---- replies

-- the reply of the gauge to a granted request to the address a
abbrev pub reply_v2 : State → ℕ → RequestV2 → List ℕ
reply_v2 g a r = frame_v2 (answer_head (head_for a r) (answer_code r)) (text_v2 g r)

-- an error reply is read as its error, whatever the request
pub error_read_v2 : (limits : ProfileLimits) (a : ℕ) (r : RequestV2) (k : ℕ) → within 1 999 a ≡ true → read_v2 limits a r (error_v2 k (head_for a r)) ≡ Ok (Error (error_of k))
error_read_v2 limits a r k i = error_read limits a r (error_of k) i

-- and no sources stand beside it
pub error_list_v2 : (limits : ProfileLimits) (a : ℕ) (r : RequestV2) (k : ℕ) → within 1 999 a ≡ true → read_list limits a r (error_v2 k (head_for a r)) ≡ []
unfolding read_list beside
error_list_v2 limits a r k i = rw (error_read_v2 limits a r k i)

-- nothing stands beside a value with no list
beside_none : (x : ReplyV2) → beside (Ok x) [] ≡ []
unfolding beside
beside_none (Measured n) = refl
beside_none UnderRange = refl
beside_none OverRange = refl
beside_none (Degrees negative h) = refl
beside_none (FilamentNumber d) = refl
beside_none (StatusNumber d) = refl
beside_none (Holds x) = refl
beside_none Done = refl
beside_none (Error e) = refl

module _ (g : State) (f : SoundState g) where
  list_of : (c : Command) → beside (Ok (held_value g c)) (value_list g.limits c (sent_text g c)) ≡ held_list_of g c
  unfolding value_list held_list_of held_value sent_text list_in beside
  list_of MV = beside_none (held_pressure g.readings.p0)
  list_of T2 = beside_none (held_temperature g.readings.t2)
  list_of FN = refl
  list_of FS = refl
  list_of (Of DA) = refl
  list_of (Of DU) = refl
  list_of (Of C1) = refl
  list_of (Of CM) = refl
  list_of (Of CC) = refl
  list_of (Of FC) = refl
  list_of (Of ST) = refl
  list_of (Of SM) = stream_list g.limits f.proper g.settings f.settings g.settings.streaming refl

  data_list_lem : (r : RequestV2) → beside (Ok (held_v2 g r)) (data_list g.limits r (text_v2 g r)) ≡ held_list_v2 g r
  unfolding held_v2 data_list text_v2 held_list_v2
  data_list_lem (request.Read c) = list_of c
  data_list_lem (request.Restore c) = beside_none Done
  data_list_lem (request.Set x) = beside_none Done

module _ (g : State) (a : ℕ) (r : RequestV2) (f : SoundState g) (i : within 1 999 a ≡ true) (e : grant_v2 g r ≡ 0) where
  reply_data_lem : (read_v2 g.limits a r (reply_v2 g a r) ≡ data_reply g.limits r (text_v2 g r)) × (data_from 8 (reply_v2 g a r) ≡ text_v2 g r)
  reply_data_lem = accepted_read g.limits a r (text_v2 g r) i (text_printed g r) (omega (arith, text_v2_le g (omega (arith, at_most_entries g.limits f.proper g.settings.list f.settings.list, f.proper.few)) r))

  -- the reply to a granted request is read as what the gauge holds
  pub reply_read_v2 : read_v2 g.limits a r (frame_v2 (answer_head (head_for a r) (answer_code r)) (text_v2 g r)) ≡ Ok (held_v2 g r)
  reply_read_v2 = reply_data_lem.0 ∙ data_read g f r e

  -- with the gauge's sources beside a read of SM while lines are sent, and none beside any other
  pub reply_list_v2 : read_list g.limits a r (frame_v2 (answer_head (head_for a r) (answer_code r)) (text_v2 g r)) ≡ held_list_v2 g r
  unfolding read_list
  reply_list_v2 = rw (reply_read_v2, reply_data_lem.1) (data_list_lem g f r)

-- ---- the whole way

-- a request is so with itself
pub alike_same : (r : RequestV2) → Alike r r
alike_same r = record { command = refl; access = refl }

module _ (g : State) (room a : ℕ) (s : List ℕ) (x : RequestV2) (enough : 64 ≤ room) (here : a ≡ g.settings.address) (by : AskedBy g.limits a x s) where
  framed : Tells s (Ok (V2 (head_for a x)))
  framed = rw by.frame at (tells s)

  asked : ask_v2 g.limits (head_v2 s) (data_from 8 s) ≡ Ok x
  asked = rw framed.3 at by.asks

  this_address : other_address g s ≡ false
  unfolding head_for head_v2
  this_address =
      let e : (head_for a x).address ≡ (head_v2 s).address = ap (λ (h : HeadV2). h.address) framed.3 in
      not_eqb (address_of s) g.settings.address (sym e ∙ here)

  -- the table's number is that of the rules
  number_is : number_of g room s ≡ grant_v2 g x
  unfolding decided_v2
  number_is = number_v2 s g room (le-ltb room 64 enough) framed.0 this_address framed.1 framed.2 ∙ ap (decided_v2 g) asked

  -- the bytes that are sent
  reply_is : (answer_of g room s).reply ≡ pick (eqb (grant_v2 g x) 0) (reply_v2 g a x) (error_v2 (grant_v2 g x) (head_for a x))
  unfolding answer_of reply_of accepted_v2 pick
  reply_is =
      let l = framed.1 in
      rw (number_is, never_silent g x, l, asked, ← framed.3)

  -- they are the same for a request like x
  reply_of_lem : (r : RequestV2) → Alike x r → (answer_of g room s).reply ≡ pick (eqb (grant_v2 g r) 0) (reply_v2 g a r) (error_v2 (grant_v2 g r) (head_for a r))
  reply_of_lem r like =
      let w = same_answer g x r like.command like.access in
      rw (← (same_grant g x r like.command like.access), ← (same_head a x r like.command like.access), ← w.0, ← w.1) reply_is

-- the answer to bytes that ask for a request like r, sent to this gauge with 64 bytes lent, is read as what is expected of r
module _ (g : State) (room a : ℕ) (s : List ℕ) (x r : RequestV2) (f : SoundState g) (enough : 64 ≤ room) (here : a ≡ g.settings.address) (by : AskedBy g.limits a x s) (like : Alike x r) where
  -- a sound address is one of a frame
  address_in : within 1 999 a ≡ true
  address_in = let h = f.settings.address in within_in 1 999 a (omega arith) (omega arith)

pub exchange_v2 : ExchangeV2
unfolding expected_v2 pick
exchange_v2 g room a s x r f enough here by like = rw (reply_of_lem g room a s x enough here by r like) (go (eqb (grant_v2 g r) 0) refl)
  where
    i : within 1 999 a ≡ true
    i = address_in g room a s x r f enough here by like

    go : (b : Bool) → eqb (grant_v2 g r) 0 ≡ b → read_v2 g.limits a r (pick b (reply_v2 g a r) (error_v2 (grant_v2 g r) (head_for a r))) ≡ pick b (Ok (held_v2 g r)) (Ok (Error (error_of (grant_v2 g r))))
    go true e = reply_read_v2 g a r f i (eqb-true (grant_v2 g r) 0 e)
    go false e = error_read_v2 g.limits a r (grant_v2 g r) i

-- and so are the sources beside it
pub exchange_list_v2 : ExchangeListV2
unfolding expected_list_v2 pick
exchange_list_v2 g room a s x r f enough here by like = rw (reply_of_lem g room a s x enough here by r like) (go (eqb (grant_v2 g r) 0) refl)
  where
    i : within 1 999 a ≡ true
    i = address_in g room a s x r f enough here by like

    go : (b : Bool) → eqb (grant_v2 g r) 0 ≡ b → read_list g.limits a r (pick b (reply_v2 g a r) (error_v2 (grant_v2 g r) (head_for a r))) ≡ pick b (held_list_v2 g r) []
    go true e = reply_list_v2 g a r f i (eqb-true (grant_v2 g r) 0 e)
    go false e = error_list_v2 g.limits a r (grant_v2 g r) i
