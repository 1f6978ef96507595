-- The writer's first two refusals, before what the request itself is refused with.
use Rattle.std.specs.Prelude.{not, [], ◌∷◌, ℕ, ltb, Err, Result}
use Rattle.buffer.specs.First.{◌⇒◌, first}
use Rattle.frame_writer.specs.Written.{is_address}
use Rattle.request_writer.specs.Written.{writer_room}
use Rattle.refusals.specs.declared.Refusal.{Refusal}

-- 1 where less than 109 bytes are lent, 4 where the address is outside 1 to 999, and then r
unfoldable pub once_lent : {A : Type 0} → ℕ → ℕ → Result A Refusal → Result A Refusal
once_lent room address r =
    first
    (ltb room writer_room ⇒ Err Refusal.Room
    ∷ not (is_address address) ⇒ Err Refusal.Address
    ∷ [])
    r
