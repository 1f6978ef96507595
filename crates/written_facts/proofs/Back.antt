-- "A typed request that the writer accepts, once written and read again, is the same request."
use mathlib.Core.Path.{◌≡◌, refl, sym, ap, ◌∙◌}
use mathlib.Core.Bool.{Bool, true, not, true≢false}
use mathlib.Core.List.{List}
use Prim.Native.Nat.{ℕ, ◌≤◌}
use native.Mathlib.Omega.{arith}
use borrow.Author.Tests.{eq-eqb, eqb-true, not-false}
use lib.Dec.{eqb, ltb, leb}
use lib.ListN.{length}
use Rattle.std.specs.Prelude.{Err, Ok, Result}
use Rattle.buffer.specs.First.{pick}
use Rattle.buffer.specs.Byte.{within}
use Rattle.buffer.specs.Answer.{Answer, silent}
use Rattle.buffer.proofs.Laws.{within_true}
use Rattle.buffer.proofs.Rules.{each}
use Rattle.frames.specs.Frame.{data_from, frame_of}
use Rattle.frames.specs.declared.Frame.TheVariants as frame
use Rattle.frame_writer.specs.Written.{frame_v1, frame_v2}
use Rattle.frames_facts.specs.ReadBack.{ReadV2, ReadV1}
use Rattle.frames_facts.proofs.ReadBack.{read_back_v2, read_back_v1}
use Rattle.forms_facts.proofs.Lemmas.Lists.{at_most_entries}
use Rattle.sources.specs.Source.{capacity, list_of}
use Rattle.sources.specs.declared.Sources.{Sources}
use Rattle.settings.specs.Limits.{ProfileLimits, limits_of, is_factor}
use Rattle.forms_facts.specs.Sound.{Proper}
use Rattle.sources.specs.declared.Profile.TheVariants.{Standard}
use Rattle.settings.specs.Settings.{key_of, factory, put_of}
use Rattle.settings.specs.declared.Setting.{Setting}
use Rattle.settings.specs.declared.Setting.TheVariants.{Address, PressureIn, Factor, Control, Cathode, Filament, Switch, Stream}
use Rattle.requests.specs.Command.{restore_code, lacks_access}
use Rattle.requests.specs.AskV2.{set_of, ask_v2}
use Rattle.requests.specs.declared.Command.{Command}
use Rattle.requests.specs.declared.RequestV2.{RequestV2}
use Rattle.requests.specs.declared.RequestV2.TheVariants.{Read, Restore, Set}
use Rattle.requests.specs.declared.RequestV1.{RequestV1}
use Rattle.requests.specs.declared.RequestV1.TheVariants.{Measure, ReadFactor, Unlock, SetFactor, ReadUnit, SetUnit}
use Rattle.request_texts.specs.RequestText.{head_for, data_v2, head_for_v1, data_v1}
use Rattle.printed_facts.proofs.Fits.{read_le}
use Rattle.printed_facts.proofs.Sendable.{request_sendable_v2, request_sendable_v1}
use Rattle.request_writer.specs.Typed.{typed_verdict, formed_v2, formed_v1}
use Rattle.request_writer.specs.Written.{sent_v2, sent_v1, request_written_v2, request_written_v1}
use Rattle.request_reader.specs.Decoded.{from_v2, judged_v1, from_v1, from_frame, request_of, list_from, request_list}
use Rattle.request_reader.specs.declared.Request.{Request}
use Rattle.request_reader.specs.declared.Request.TheVariants.{V1, V2}
use Rattle.settings.proofs.Laws.{factor_is}
use Rattle.written_facts.specs.Same.{SameV2, SameList}
use Rattle.written_facts.proofs.Lemmas.Typed.{ListFits, Told, told}
use Rattle.written_facts.proofs.Lemmas.Asked.{read_asked, restore_asked, set_asked, list_asked, Written, asked_v1_lem}
use Rattle.written_facts.specs.Again.{BackV2}
use Rattle.refusals.specs.declared.Refusal.{Refusal}

-- ---- V2: the frame

-- a list that fits beside a request
abbrev pub Fits : ProfileLimits → RequestV2 → List ℕ → Type 0
Fits limits (Read c) list = Unit {0}
Fits limits (Restore c) list = Unit {0}
Fits limits (Set y) list = ListFits limits y list

put_few : (limits : ProfileLimits) → Proper limits → (y : Setting) (list : List ℕ) → ListFits limits y list → length (put_of (factory (limits_of Standard)) y list).list ≤ capacity
unfolding put_of
put_few limits ok (Address v) list k = omega arith
put_few limits ok (PressureIn v) list k = omega arith
put_few limits ok (Factor v) list k = omega arith
put_few limits ok (Control v) list k = omega arith
put_few limits ok (Cathode v) list k = omega arith
put_few limits ok (Filament v) list k = omega arith
put_few limits ok (Switch v) list k = omega arith
put_few limits ok (Stream v) list k = omega (arith, at_most_entries limits ok list k.0, ok.few)

data_le : (limits : ProfileLimits) → Proper limits → (r : RequestV2) (list : List ℕ) → Fits limits r list → length (data_v2 r list) ≤ 99
unfolding data_v2
data_le limits ok (Read c) list k = omega arith
data_le limits ok (Restore c) list k = omega arith
data_le limits ok (Set y) list k = omega (arith, read_le (put_of (factory (limits_of Standard)) y list) (put_few limits ok y list k) (key_of y))

-- the frame of a request is read as its head and its data
pub framed_v2 : (limits : ProfileLimits) → Proper limits → (address : ℕ) (r : RequestV2) (list : List ℕ) → within 1 999 address ≡ true → Fits limits r list → ReadV2 (head_for address r) (data_v2 r list)
framed_v2 limits ok address r list a k = read_back_v2 _ _ (request_sendable_v2 address r list a (data_le limits ok r list k))

-- ---- V2: the request

-- bytes that are the frame of a request: the same as r, with its numbers canonical
pub record FormedV2 (limits : ProfileLimits) (address : ℕ) (r : RequestV2) (list s : List ℕ) : Type 0 where
  pub again : RequestV2
  pub whole : s ≡ frame_v2 (head_for address again) (data_v2 again list)
  pub sendable : within 1 999 address ≡ true
  pub fits : Fits limits again list
  pub asks : ask_v2 limits (head_for address again) (data_v2 again list) ≡ Ok again
  pub same : SameV2 r again

-- an answer of the writer that is 0
abbrev Formed : ProfileLimits → ℕ → List ℕ → RequestV2 → Answer → Type 0
Formed limits address list r w = w.number ≡ 0 → FormedV2 limits address r list w.reply

module _ (limits : ProfileLimits) (ok : Proper limits) (address : ℕ) (a : within 1 999 address ≡ true) (list : List ℕ) where
  set_formed : (x : Setting) (v : Result Setting Refusal) → Told limits x list v → Formed limits address list (Set x) (sent_v2 address (set_of v) list)
  unfolding sent_v2 set_of
  set_formed x (Ok y) h z =
      record { again = Set y; whole = refl; sendable = a; fits = h.2; asks = set_asked limits ok address y list h.0 h.2; same = h.1 }
  set_formed x (Err k) h z = absurd (omega (arith, h))

  restore_formed : (c : Command) → Formed limits address list (Restore c) (sent_v2 address (pick (lacks_access restore_code c) (Err Refusal.Access) (Ok (Restore c))) list)
  unfolding sent_v2
  restore_formed c =
      each P (lacks_access restore_code c) (Err Refusal.Access) (Ok (Restore c)) (λ _ z. absurd (omega arith))
      (λ e z. record { again = Restore c; whole = refl; sendable = a; fits = tt; asks = restore_asked limits address c list e; same = refl })
    where
      P : Result RequestV2 Refusal → Type 0
      P f = Formed limits address list (Restore c) (sent_v2 address f list)

  read_formed : (c : Command) → Formed limits address list (Read c) (sent_v2 address (Ok (Read c)) list)
  unfolding sent_v2
  read_formed c z = record { again = Read c; whole = refl; sendable = a; fits = tt; asks = read_asked limits address c list; same = refl }

sent_formed : (limits : ProfileLimits) → Proper limits → (address : ℕ) → within 1 999 address ≡ true → (r : RequestV2) (q : Sources) → Formed limits address (list_of q) r (sent_v2 address (formed_v2 limits r q) (list_of q))
unfolding formed_v2
sent_formed limits ok address a (Read c) q = read_formed limits ok address a (list_of q) c
sent_formed limits ok address a (Restore c) q = restore_formed limits ok address a (list_of q) c
sent_formed limits ok address a (Set x) q = set_formed limits ok address a (list_of q) x (typed_verdict limits x q) (told limits x q)

-- what the writer wrote, where it answered 0
pub formed : (limits : ProfileLimits) → Proper limits → (room address : ℕ) (r : RequestV2) (q : Sources) → (request_written_v2 limits room address r q).number ≡ 0
    → FormedV2 limits address r (list_of q) (request_written_v2 limits room address r q).reply
unfolding request_written_v2
formed limits ok room address r q =
    each (Formed limits address (list_of q) r) (ltb room 109) (silent 1) _ (λ _ z. absurd (omega arith))
    (λ _. each (Formed limits address (list_of q) r) (not (within 1 999 address)) (silent 4) _ (λ _ z. absurd (omega arith))
    (λ a. sent_formed limits ok address (not-false _ a) r q))

kept : (address : ℕ) (r : RequestV2) → ◌≡◌ {A = Result Request Refusal} (Ok (V2 (head_for address r).address r)) (Ok (V2 address r))
unfolding head_for
kept address r = refl

module _ {limits : ProfileLimits} (ok : Proper limits) {address : ℕ} {r : RequestV2} {list s : List ℕ} (f : FormedV2 limits address r list s) where
  -- its frame, and what that asks
  pub frame_is : (frame_of s ≡ Ok (frame.V2 (head_for address f.again))) × (data_from 8 s ≡ data_v2 f.again list)
  frame_is =
      let b = framed_v2 limits ok address f.again list f.sendable f.fits in
      rw f.whole (b.head, b.rest)

  read_again : request_of limits s ≡ Ok (V2 address f.again)
  unfolding request_of from_frame from_v2
  read_again = rw (frame_is.0, frame_is.1, f.asks) (kept address f.again)

  list_again : (on : Bool) → Set (Stream on) ≡ f.again → request_list limits s ≡ list
  unfolding request_list list_from
  list_again on e = rw (frame_is.0, frame_is.1, ← e) (list_asked limits ok address on list (rw (← e) at f.fits))

  listed : (r : RequestV2) → SameV2 r f.again → SameList r (request_list limits s) list
  listed (Read c) e = tt
  listed (Restore c) e = tt
  listed (Set x) e = go x f.again refl e
    where
      go : (x : Setting) (again : RequestV2) → again ≡ f.again → SameV2 (Set x) again → SameList (Set x) (request_list limits s) list
      go (Address v) again e h = tt
      go (PressureIn v) again e h = tt
      go (Factor v) again e h = tt
      go (Control v) again e h = tt
      go (Cathode v) again e h = tt
      go (Filament v) again e h = tt
      go (Switch v) again e h = tt
      go (Stream on) (Set y) e h = list_again on (ap Set h ∙ e)
      go (Stream on) (Read c) e h = absurd h
      go (Stream on) (Restore c) e h = absurd h

-- for every typed request that the writer accepts, reading what it wrote gives the same request, with the same address and, for a write of SM,
-- the same list
pub request_again_v2 : (limits : ProfileLimits) → Proper limits → (room address : ℕ) (r : RequestV2) (q : Sources) → (request_written_v2 limits room address r q).number ≡ 0
    → BackV2 limits address r (list_of q) (request_written_v2 limits room address r q).reply
request_again_v2 limits ok room address r q z =
    let f = formed limits ok room address r q z in
    record { again = f.again; read = read_again ok f; same = f.same; listed = listed ok f r f.same }

-- ---- V1

pub framed_v1 : (address : ℕ) (r : RequestV1) → within 1 999 address ≡ true → ReadV1 (head_for_v1 address r) (data_v1 r)
framed_v1 address r a = read_back_v1 _ _ (request_sendable_v1 address r a)

judged_again : (address : ℕ) (r : RequestV1) → Written r → judged_v1 address r ≡ Ok (V1 address r)
unfolding judged_v1 pick
judged_again address Measure h = refl
judged_again address ReadFactor h = refl
judged_again address Unlock h = refl
judged_again address (SetFactor n) h = rw (factor_is n h.0 h.1)
judged_again address ReadUnit h = refl
judged_again address (SetUnit u) h = refl

-- bytes that are the frame of a request whose number is within the limits
pub record FormedV1 (address : ℕ) (r : RequestV1) (s : List ℕ) : Type 0 where
  pub whole : s ≡ frame_v1 (head_for_v1 address r) (data_v1 r)
  pub sendable : within 1 999 address ≡ true
  pub number_in : Written r

abbrev ForV1 : ℕ → RequestV1 → Answer → Type 0
ForV1 address r w = w.number ≡ 0 → FormedV1 address r w.reply

sent_formed_v1 : (address : ℕ) → within 1 999 address ≡ true → (r : RequestV1) → ForV1 address r (sent_v1 address (formed_v1 r))
unfolding formed_v1 sent_v1
sent_formed_v1 address a Measure z = record { whole = refl; sendable = a; number_in = tt }
sent_formed_v1 address a ReadFactor z = record { whole = refl; sendable = a; number_in = tt }
sent_formed_v1 address a Unlock z = record { whole = refl; sendable = a; number_in = tt }
sent_formed_v1 address a (SetFactor n) z =
    each P (leb 1000000 n) (Err Refusal.Syntax) _ (λ _ z. absurd (omega arith))
    (λ _. each P (not (is_factor n)) (Err Refusal.Range) (Ok (SetFactor n)) (λ _ z. absurd (omega arith))
    (λ f z. record { whole = refl; sendable = a; number_in = within_true _ _ n (not-false _ f) })) z
  where
    P : Result RequestV1 Refusal → Type 0
    P x = ForV1 address (SetFactor n) (sent_v1 address x)
sent_formed_v1 address a ReadUnit z = record { whole = refl; sendable = a; number_in = tt }
sent_formed_v1 address a (SetUnit u) z = record { whole = refl; sendable = a; number_in = tt }

-- what the writer wrote, where it answered 0
pub formed_v1_lem : (room address : ℕ) (r : RequestV1) → (request_written_v1 room address r).number ≡ 0 → FormedV1 address r (request_written_v1 room address r).reply
unfolding request_written_v1
formed_v1_lem room address r =
    each (ForV1 address r) (ltb room 109) (silent 1) _ (λ _ z. absurd (omega arith))
    (λ _. each (ForV1 address r) (not (within 1 999 address)) (silent 4) _ (λ _ z. absurd (omega arith))
    (λ a. sent_formed_v1 address (not-false _ a) r))

-- for every typed V1 request that the writer accepts, reading what it wrote gives the same request and address
pub request_again_v1 : (limits : ProfileLimits) (room address : ℕ) (r : RequestV1) → (request_written_v1 room address r).number ≡ 0 → request_of limits (request_written_v1 room address r).reply ≡ Ok (V1 address r)
unfolding request_of from_frame from_v1
request_again_v1 limits room address r z =
    let w = formed_v1_lem room address r z in
    let f = framed_v1 address r w.sendable in
    rw (w.whole, f.head, f.rest, asked_v1_lem r w.number_in) (judged_again address r w.number_in)
