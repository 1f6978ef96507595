-- A text request read and written again: its bytes alone fix the number and the frame.
use mathlib.Core.Path.{◌≡◌, refl}
use mathlib.Core.Bool.{Bool, true, false}
use mathlib.Core.List.{List}
use Prim.Native.Nat.{ℕ}
use borrow.Author.Tests.{ltb-false}
use lib.Dec.{ltb}
use lib.ListN.{length}
use Rattle.std.specs.Prelude.{Err, Ok, Result}
use Rattle.buffer.specs.First.{pick}
use Rattle.settings.specs.Limits.{ProfileLimits}
use Rattle.request_writer.specs.Written.{writer_room, request_written_v2, request_written_v1}
use Rattle.request_reader.specs.Decoded.{request_list, Decodes}
use Rattle.request_reader.specs.declared.Request.{Request}
use Rattle.request_reader.specs.declared.Request.TheVariants.{V1, V2}
use Rattle.sources.specs.declared.WithSources.{WithSources}
use Rattle.written_facts.proofs.Accepted.{accepted_v2_lem, accepted_v1_lem}
use Rattle.rewriter.specs.Again.{text_again}
use Rattle.rewriter_facts.specs.Again.{frame_again}
use Rattle.rewriter_facts.specs.Theorems.{RewrittenFixed}
use Rattle.refusals.specs.declared.Refusal.{Refusal}

module _ (limits : ProfileLimits) (room : ℕ) (s : List ℕ) (d : WithSources (Result Request Refusal)) (read : Decodes limits s d) where
  again : text_again limits room d.value d.sources ≡ frame_again room d.value (request_list limits s)
  unfolding text_again frame_again request_written_v1 request_written_v2 pick
  again = go d.value refl (ltb room writer_room) refl
    where
      go : (r : Result Request Refusal) → d.value ≡ r → (b : Bool) → ltb room writer_room ≡ b → text_again limits room r d.sources ≡ frame_again room r (request_list limits s)
      go (Ok (V1 address r)) e true f = rw f
      go (Ok (V1 address r)) e false f = rw f (rw f at (accepted_v1_lem limits room (ltb-false room writer_room f) s d read address r e))
      go (Ok (V2 address r)) e true f = rw f
      go (Ok (V2 address r)) e false f = rw f (rw f at (accepted_v2_lem limits room (ltb-false room writer_room f) s d read address r e))
      go (Err k) e b f = refl

-- bytes that are a request are written again with 0 wherever 109 bytes are lent, whatever the reader's list holds past its count
pub rewritten_fixed : RewrittenFixed
rewritten_fixed limits s before after w h =
    let d = h.decodes in
    rw (← d.value_is, ← (again limits (length before) s h.decoded d)) h.sent
