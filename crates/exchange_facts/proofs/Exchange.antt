-- What the gauge answers to a written request is read by the matching reader as the value or the error that it holds.
use mathlib.Core.Path.{◌≡◌, refl, sym, ap}
use mathlib.Core.List.{List}
use Prim.Native.Nat.{ℕ, ◌≤◌}
use Rattle.sources.specs.Source.{list_of}
use Rattle.sources.specs.declared.Sources.{Sources}
use Rattle.settings.specs.Limits.{ProfileLimits}
use Rattle.settings.specs.Settings.{key_of}
use Rattle.settings.specs.declared.Transition.{Transition}
use Rattle.settings.specs.declared.Setting.{Setting}
use Rattle.settings.specs.declared.Setting.TheVariants.{Address, PressureIn, Factor, Control, Cathode, Filament, Switch, Stream}
use Rattle.forms_facts.specs.Sound.{Proper}
use Rattle.requests.specs.declared.RequestV2.{RequestV2}
use Rattle.requests.specs.declared.RequestV2.TheVariants.{Read, Restore, Set}
use Rattle.requests.specs.declared.Command.TheVariants.{Of}
use Rattle.requests.specs.declared.RequestV1.{RequestV1}
use Rattle.request_texts.specs.RequestText.{access_of, command_in}
use Rattle.request_writer.specs.Written.{request_written_v2, request_written_v1}
use Rattle.written_facts.specs.Same.{SameV2, SameSetting, SameSwitch}
use Rattle.written_facts.proofs.Lemmas.Asked.{asked_v1_lem}
use Rattle.written_facts.specs.Again.{in_v1, in_v2}
use Rattle.written_facts.proofs.Back.{FormedV2, formed, frame_is, framed_v1, formed_v1_lem}
use Rattle.replies_v2.specs.ReplyV2.{read_v2, read_list}
use Rattle.replies_v1.specs.ReplyV1.{read_v1}
use Rattle.gauge_rules.specs.State.{State}
use Rattle.gauge_table.specs.After.{answer_of}
use Rattle.gauge_facts.specs.Sound.{SoundState}
use Rattle.exchange_v2_facts.proofs.ExchangeV2 as v2
use Rattle.exchange_v2_facts.specs.HeldV2.{expected_v2, expected_list_v2, Alike, AskedBy}
use Rattle.exchange_v1_facts.specs.HeldV1.{expected_v1}
use Rattle.exchange_v1_facts.proofs.ExchangeV1.{answer_read_v1}
use Rattle.exchange_facts.specs.Theorems.{Exchange}

-- ---- V2

-- the same request has the same command and access
same_switch : (t : Transition) (y : Setting) → SameSwitch t y → key_of y ≡ key_of (Switch t)
same_switch t (Switch u) h = refl
same_switch t (Address v) h = absurd h
same_switch t (PressureIn v) h = absurd h
same_switch t (Factor v) h = absurd h
same_switch t (Control v) h = absurd h
same_switch t (Cathode v) h = absurd h
same_switch t (Filament v) h = absurd h
same_switch t (Stream v) h = absurd h

same_key : (x y : Setting) → SameSetting x y → key_of y ≡ key_of x
same_key (Address v) y e = ap key_of (sym e)
same_key (PressureIn v) y e = ap key_of (sym e)
same_key (Factor v) y e = ap key_of (sym e)
same_key (Control v) y e = ap key_of (sym e)
same_key (Cathode v) y e = ap key_of (sym e)
same_key (Filament v) y e = ap key_of (sym e)
same_key (Switch t) y e = same_switch t y e
same_key (Stream v) y e = ap key_of (sym e)

alike : (r again : RequestV2) → SameV2 r again → Alike again r
unfolding command_in access_of
alike (Read c) again e = record { command = ap command_in (sym e); access = ap access_of (sym e) }
alike (Restore c) again e = record { command = ap command_in (sym e); access = ap access_of (sym e) }
alike (Set x) (Set y) e = record { command = ap Of (same_key x y e); access = refl }
alike (Set x) (Read c) e = absurd e
alike (Set x) (Restore c) e = absurd e

asked_by : {limits : ProfileLimits} → Proper limits → {address : ℕ} {r : RequestV2} {list s : List ℕ} (f : FormedV2 limits address r list s) → AskedBy limits address f.again s
asked_by ok f = record { frame = (frame_is ok f).0; asks = rw (frame_is ok f).1 f.asks }

-- a request that the writer accepts for the gauge's address, answered by the gauge with 64 bytes lent and read again: the value that the
-- gauge holds, or the error that document 01 fixes; and, for a read of SM, the list that it holds
module _ (lent room : ℕ) (g : State) (r : RequestV2) (q : Sources) (sound : SoundState g) (enough : 64 ≤ room)
    (accepted : (request_written_v2 g.limits lent g.settings.address r q).number ≡ 0) where
  abbrev bytes : List ℕ
  bytes = (request_written_v2 g.limits lent g.settings.address r q).reply

  abbrev formed-by : FormedV2 g.limits g.settings.address r (list_of q) bytes
  formed-by = formed g.limits sound.proper lent g.settings.address r q accepted

  pub exchange_v2 : read_v2 g.limits g.settings.address r (answer_of g room bytes).reply ≡ expected_v2 g r
  exchange_v2 = v2.exchange_v2 g room g.settings.address bytes formed-by.again r sound enough refl (asked_by sound.proper formed-by) (alike r formed-by.again formed-by.same)

  pub exchange_list_v2 : read_list g.limits g.settings.address r (answer_of g room bytes).reply ≡ expected_list_v2 g r
  exchange_list_v2 = v2.exchange_list_v2 g room g.settings.address bytes formed-by.again r sound enough refl (asked_by sound.proper formed-by) (alike r formed-by.again formed-by.same)

-- ---- V1

-- the same for V1
module _ (lent room : ℕ) (g : State) (r : RequestV1) (sound : SoundState g) (enough : 64 ≤ room) (accepted : (request_written_v1 lent g.settings.address r).number ≡ 0) where
  pub exchange_v1 : read_v1 g.settings.address r (answer_of g room (request_written_v1 lent g.settings.address r).reply).reply ≡ expected_v1 g r
  exchange_v1 =
      let w = formed_v1_lem lent g.settings.address r accepted in
      let f = framed_v1 g.settings.address r w.sendable in
      answer_read_v1 g room g.settings.address r _ sound refl enough w.whole (rw w.whole f.head) (rw (w.whole, f.rest) (asked_v1_lem r w.number_in))

-- ---- one theorem

-- any request that the writer accepts for the gauge's address, answered with 64 bytes lent: the reader of its protocol reads what the gauge holds
pub exchange : Exchange
exchange lent room g (in_v1 r) sound enough accepted = exchange_v1 lent room g r sound enough accepted
exchange lent room g (in_v2 r q) sound enough accepted = (exchange_v2 lent room g r q sound enough accepted, exchange_list_v2 lent room g r q sound enough accepted)
