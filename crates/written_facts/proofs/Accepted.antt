-- A request that was read is a good request: the writer accepts it, whatever the bytes were, and writes the one frame that they fix.
use mathlib.Core.Path.{◌≡◌, refl, sym, ap, ◌∙◌}
use mathlib.Core.Bool.{true, not}
use mathlib.Core.List.{List}
use Prim.Native.Nat.{ℕ, ◌≤◌}
use native.Mathlib.Omega.{arith}
use borrow.Author.Tests.{lt-leb, le-ltb, not-false}
use Rattle.std.specs.Prelude.{Err, Ok, Result}
use Rattle.buffer.specs.Byte.{at, within}
use Rattle.buffer.proofs.Laws.{within_true}
use Rattle.buffer.proofs.Rules.{past, each}
use Rattle.frames.specs.Frame.{is_letter, misshapen, wrong_sum, wrong_address, wrong_length, head_v1, head_v2, data_from, frame_of}
use Rattle.frames.specs.declared.Frame.{Frame}
use Rattle.frames.specs.declared.Frame.TheVariants as frame
use Rattle.frame_writer.specs.Written.{frame_v1, frame_v2}
use Rattle.sources.specs.declared.WithSources.{WithSources}
use Rattle.settings.specs.Limits.{ProfileLimits, is_factor}
use Rattle.requests.specs.AskV2.{ask_v2}
use Rattle.requests.specs.AskV1.{ask_v1}
use Rattle.requests.specs.declared.RequestV2.{RequestV2}
use Rattle.requests.specs.declared.RequestV1.{RequestV1}
use Rattle.requests.specs.declared.RequestV1.TheVariants.{Measure, ReadFactor, Unlock, SetFactor, ReadUnit, SetUnit}
use Rattle.request_texts.specs.RequestText.{head_for, data_v2, head_for_v1, data_v1}
use Rattle.request_writer.specs.Typed.{formed_v1}
use Rattle.request_writer.specs.Written.{writer_room, sent_v2, sent_v1, request_written_v2, request_written_v1}
use Rattle.request_reader.specs.Decoded.{from_v2, judged_v1, from_v1, from_frame, request_of, list_from, request_list, Decodes}
use Rattle.request_reader.specs.declared.Request.{Request}
use Rattle.request_reader.specs.declared.Request.TheVariants.{V1, V2}
use Rattle.written_facts.proofs.Lemmas.Decoded.{Good, asked_good, formed_as, address_in}
use Rattle.written_facts.specs.Theorems.{AcceptedV2, AcceptedV1}
use Rattle.refusals.specs.declared.Refusal.{Refusal}

-- ---- what was read is good

-- a request to an address from 1 to 999 that the writer forms as it is, with this list beside it
abbrev Fair : ProfileLimits → List ℕ → Result Request Refusal → Type 0
Fair limits list (Ok (V1 address r)) = (within 1 999 address ≡ true) × (formed_v1 r ≡ Ok r)
Fair limits list (Ok (V2 address r)) = (within 1 999 address ≡ true) × Good limits (Ok r) list
Fair limits list (Err k) = Unit {0}

module _ (limits : ProfileLimits) (address : ℕ) (a : within 1 999 address ≡ true) (list : List ℕ) where
  fair_v2 : (ask : Result RequestV2 Refusal) → Good limits ask list → Fair limits list (from_v2 address ask)
  unfolding from_v2
  fair_v2 (Ok r) g = (a, g)
  fair_v2 (Err k) g = tt

  fair_v1 : (ask : Result RequestV1 Refusal) → Fair limits list (from_v1 address ask)
  unfolding from_v1 judged_v1 formed_v1
  fair_v1 (Err k) = tt
  fair_v1 (Ok Measure) = (a, refl)
  fair_v1 (Ok ReadFactor) = (a, refl)
  fair_v1 (Ok Unlock) = (a, refl)
  fair_v1 (Ok (SetFactor n)) =
      each (Fair limits list) (not (is_factor n)) (Err Refusal.Range) (Ok (V1 address (SetFactor n))) (λ _. tt)
      (λ e. (a, sym (past _ _ _ _ (lt-leb 1000000 n (omega (arith, (within_true _ _ n (not-false _ e)).1))) (past _ _ _ _ e refl))))
  fair_v1 (Ok ReadUnit) = (a, refl)
  fair_v1 (Ok (SetUnit u)) = (a, refl)

read_fair : (limits : ProfileLimits) (s : List ℕ) → Fair limits (request_list limits s) (request_of limits s)
unfolding request_of request_list frame_of from_frame list_from head_v1 head_v2
read_fair limits s =
    each P (misshapen s) (Err Refusal.Shape) _ (λ _. tt)
    (λ _. each P (wrong_sum s) (Err Refusal.Checksum) _ (λ _. tt)
    (λ _. each P (wrong_address s) (Err Refusal.Address) _ (λ _. tt)
    (λ e. each P (is_letter (at s 3)) (Ok (frame.V1 (head_v1 s))) _ (λ _. fair_v1 limits _ (address_in s e) _ (ask_v1 (at s 3) (data_from 4 s)))
    (λ _. each P (wrong_length s) (Ok (frame.Length (head_v2 s))) (Ok (frame.V2 (head_v2 s))) (λ _. tt)
    (λ _. fair_v2 limits _ (address_in s e) _ (ask_v2 limits (head_v2 s) (data_from 8 s)) (asked_good limits (head_v2 s) (data_from 8 s)))))))
  where
    P : Result Frame Refusal → Type 0
    P f = Fair limits (list_from limits s f) (from_frame limits s f)

-- ---- so the writer accepts it

module _ (limits : ProfileLimits) (room : ℕ) (enough : writer_room ≤ room) (s : List ℕ) (d : WithSources (Result Request Refusal)) (read : Decodes limits s d) where
  taken_v2 : (address : ℕ) (r : RequestV2) → d.value ≡ Ok (V2 address r)
      → request_written_v2 limits room address r d.sources ≡ record { number = 0; reply = frame_v2 (head_for address r) (data_v2 r (request_list limits s)) }
  unfolding request_written_v2 sent_v2
  taken_v2 address r e =
      let h = rw (sym read.value_is ∙ e) at (read_fair limits s) in
      let f = formed_as limits r d.sources (rw read.list_is h.1) in
      sym (past _ _ _ _ (le-ltb room writer_room enough) (past _ _ _ _ (ap not h.0) (rw (f, read.list_is))))

  taken_v1 : (address : ℕ) (r : RequestV1) → d.value ≡ Ok (V1 address r)
      → request_written_v1 room address r ≡ record { number = 0; reply = frame_v1 (head_for_v1 address r) (data_v1 r) }
  unfolding request_written_v1 sent_v1
  taken_v1 address r e =
      let h = rw (sym read.value_is ∙ e) at (read_fair limits s) in
      sym (past _ _ _ _ (le-ltb room writer_room enough) (past _ _ _ _ (ap not h.0) (rw h.1)))

pub accepted_v2_lem : AcceptedV2
accepted_v2_lem limits room enough s d read = taken_v2 limits room enough s d read

pub accepted_v1_lem : AcceptedV1
accepted_v1_lem limits room enough s d read = taken_v1 limits room enough s d read
