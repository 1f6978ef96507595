-- Laws of requests that are written.
use mathlib.Core.Path.{◌≡◌, refl}
use mathlib.Core.Bool.{Bool, true, false, not}
use mathlib.Core.List.{List}
use Prim.Native.Nat.{ℕ, ◌≤◌}
use borrow.Author.Tests.{ltb-false, not-false}
use lib.Dec.{ltb}
use lib.ListN.{length}
use Rattle.std.specs.Prelude.{Err, Ok, Result}
use Rattle.buffer.specs.First.{pick}
use Rattle.buffer.specs.Byte.{within}
use Rattle.buffer.specs.Answer.{silent}
use Rattle.buffer.proofs.Rules.{each}
use Rattle.frame_writer.specs.Written.{is_address, carries_v2}
use Rattle.frames_facts.proofs.Accepted.{sendable_exactly_v2}
use Rattle.sources.specs.Source.{list_of}
use Rattle.sources.specs.declared.Sources.{Sources}
use Rattle.settings.specs.Limits.{ProfileLimits}
use Rattle.requests.specs.declared.RequestV2.{RequestV2}
use Rattle.requests.specs.declared.RequestV1.{RequestV1}
use Rattle.request_texts.specs.RequestText.{head_for, data_v2}
use Rattle.printed_facts.proofs.Sendable.{request_sendable_v2}
use Rattle.request_writer.specs.Typed.{formed_v2, formed_v1}
use Rattle.request_writer.specs.Written.{writer_room, sent_v2, sent_v1, request_written_v2, request_written_v1}
use Rattle.request_writer.specs.Inner.{once_lent}
use Rattle.refusals.specs.declared.Refusal.{Refusal}

-- a frame carries the text of a request
pub carried_v2 : (address : ℕ) (r : RequestV2) (list t : List ℕ) → within 1 999 address ≡ true → t ≡ data_v2 r list → length t ≤ 99 → carries_v2 (head_for address r) t ≡ true
carried_v2 address r list t a e n = rw e ((sendable_exactly_v2 _ _).0 (request_sendable_v2 address r list a (rw (← e) n))).0

-- what a writer answers, by what is formed once the memory is lent
module _ (room address : ℕ) where
  pub written_is_v2 : (limits : ProfileLimits) (r : RequestV2) (q : Sources) → request_written_v2 limits room address r q ≡ sent_v2 address (once_lent room address (formed_v2 limits r q)) (list_of q)
  unfolding request_written_v2 once_lent sent_v2 pick
  written_is_v2 limits r q = go (ltb room writer_room) (not (is_address address)) (formed_v2 limits r q)
    where
      go : (a b : Bool) (f : Result RequestV2 Refusal)
          → pick a (silent 1) (pick b (silent 4) (sent_v2 address f (list_of q))) ≡ sent_v2 address (pick a (Err Refusal.Room) (pick b (Err Refusal.Address) f)) (list_of q)
      go true b f = refl
      go false true f = refl
      go false false f = refl

  pub written_is_v1 : (r : RequestV1) → request_written_v1 room address r ≡ sent_v1 address (once_lent room address (formed_v1 r))
  unfolding request_written_v1 once_lent sent_v1 pick
  written_is_v1 r = go (ltb room writer_room) (not (is_address address)) (formed_v1 r)
    where
      go : (a b : Bool) (f : Result RequestV1 Refusal)
          → pick a (silent 1) (pick b (silent 4) (sent_v1 address f)) ≡ sent_v1 address (pick a (Err Refusal.Room) (pick b (Err Refusal.Address) f))
      go true b f = refl
      go false true f = refl
      go false false f = refl

  -- what is formed has memory and an address
  pub lent_is : {A : Type 0} (f : Result A Refusal) (r : A) → once_lent room address f ≡ Ok r → (writer_room ≤ room) × (is_address address ≡ true)
  unfolding once_lent
  lent_is {A} f r =
      each P (ltb room writer_room) (Err Refusal.Room) _ (λ _ e. cc)
      (λ a. each P (not (is_address address)) (Err Refusal.Address) f (λ _ e. cc) (λ b e. (ltb-false room writer_room a, not-false _ b)))
    where
      P : Result A Refusal → Type 0
      P x = x ≡ Ok r → (writer_room ≤ room) × (is_address address ≡ true)
