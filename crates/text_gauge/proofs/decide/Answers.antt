-- `text_gauge::decide` meets its contract.
use mathlib.Core.Path.{sym, ◌∙◌}
use native.Mathlib.Omega.{arith}
use borrow.Author.Tests.{lt-ltb, le-ltb}
use Rattle.buffer.proofs.Laws.{within_in}
use Rattle.frames_facts.proofs.Shape.{six_to_twelve}
use Rattle.gauge_table.proofs.Numbers.{number_5}
use Rattle.text_gauge.proofs.Compose.{tells_at, numbered_at, no_room, silent_answers, v1-answers, v2-answers, length-answers, other_v1, own_v1, other_v2, own_v2, fits_v1, fits_v2}
use Rattle.text_gauge.proofs.Sends.{error_sent_v2}
use Rattle.text_gauge.proofs.decide.Goals as goal

pub returns-then-out-lt-ROOM : goal.returns-then-out-lt-ROOM
returns-then-out-lt-ROOM c = record { decides = silent_answers _ _ _ 1 _ (no_room _ _ _ (lt-ltb _ 64 c.if-out-lt-ROOM.true)) (within_in 1 5 1 (omega arith) (omega arith)) c.silent.ensures.put_value; counted = c.silent.ensures.counted }

-- another address
pub returns-then-head-address : goal.returns-then-head-address
returns-then-head-address c =
    let t = tells_at _ _ (rw c.in-Ok-V1.field-0-is at c.in-Ok-V1.ensures) in
    record { decides = silent_answers _ _ _ 5 _ (number_5 _ _ _ (le-ltb _ 64 c.if-out-lt-ROOM.false) t.0 (other_v1 _ _ _ t.2 c.if-head-address.true)) (within_in 1 5 5 (omega arith) (omega arith)) c.silent-then-head-address.ensures.put_value; counted = c.silent-then-head-address.ensures.counted }

-- V1
pub decide_v1-requires : goal.decide_v1-requires
decide_v1-requires c =
    let t = tells_at _ _ (rw c.in-Ok-V1.field-0-is at c.in-Ok-V1.ensures) in
    record { fits = fits_v1 _ _ t.0 c.if-out-lt-ROOM.false _ t.2 t.1; request_len_bound = (six_to_twelve _ t.0 t.1).1 }

pub returns-then-head-address-2 : goal.returns-then-head-address-2
returns-then-head-address-2 c =
    let t = tells_at _ _ (rw c.in-Ok-Length.field-0-is at c.in-Ok-Length.ensures) in
    record { decides = silent_answers _ _ _ 5 _ (number_5 _ _ _ (le-ltb _ 64 c.if-out-lt-ROOM.false) t.0 (other_v2 _ _ _ t.3 c.if-head-address-2.true)) (within_in 1 5 5 (omega arith) (omega arith)) c.silent-then-head-address-2.ensures.put_value; counted = c.silent-then-head-address-2.ensures.counted }

pub returns-then-head-address-3 : goal.returns-then-head-address-3
returns-then-head-address-3 c =
    let t = tells_at _ _ (rw c.in-Ok-V2.field-0-is at c.in-Ok-V2.ensures) in
    record { decides = silent_answers _ _ _ 5 _ (number_5 _ _ _ (le-ltb _ 64 c.if-out-lt-ROOM.false) t.0 (other_v2 _ _ _ t.3 c.if-head-address-3.true)) (within_in 1 5 5 (omega arith) (omega arith)) c.silent-then-head-address-3.ensures.put_value; counted = c.silent-then-head-address-3.ensures.counted }

-- V2
pub decide_v2-requires : goal.decide_v2-requires
decide_v2-requires c =
    let t = tells_at _ _ (rw c.in-Ok-V2.field-0-is at c.in-Ok-V2.ensures) in
    record { fits = fits_v2 _ _ t.0 c.if-out-lt-ROOM.false _ t.3 t.1; address_value = c.if-head-address-3.false }

-- no frame
pub returns-in-Err : goal.returns-in-Err
returns-in-Err c =
    let t = numbered_at _ _ c.in-Err.ensures in
    record { decides = silent_answers _ _ _ _ _ (t.1 _ _ (le-ltb _ 64 c.if-out-lt-ROOM.false)) t.0 c.silent-in-Err.ensures.put_value; counted = c.silent-in-Err.ensures.counted }

pub returns-else-head-address : goal.returns-else-head-address
returns-else-head-address c =
    let t = tells_at _ _ (rw c.in-Ok-V1.field-0-is at c.in-Ok-V1.ensures) in
    record { decides = v1-answers _ _ _ _ _ (le-ltb _ 64 c.if-out-lt-ROOM.false) t.0 (own_v1 _ _ _ t.2 c.if-head-address.false) _ _ _ t.1 t.2 c.data_v1.ensures c.read_v1-asked.ensures c.decide_v1.ensures.decides_v1; counted = c.decide_v1.ensures.counted }

pub returns-else-head-address-2 : goal.returns-else-head-address-2
returns-else-head-address-2 c =
    let t = tells_at _ _ (rw c.in-Ok-Length.field-0-is at c.in-Ok-Length.ensures) in
    record { decides = length-answers _ _ _ _ _ (le-ltb _ 64 c.if-out-lt-ROOM.false) t.0 (own_v2 _ _ _ t.3 c.if-head-address-2.false) _ _ t.1 t.2 t.3 c.same.ensures.put_value (error_sent_v2 _ _ _ 6 _ (fits_v2 _ _ t.0 c.if-out-lt-ROOM.false _ t.3 t.1) c.refuse.ensures); counted = c.same.ensures.counted }

pub returns-else-head-address-3 : goal.returns-else-head-address-3
returns-else-head-address-3 c =
    let t = tells_at _ _ (rw c.in-Ok-V2.field-0-is at c.in-Ok-V2.ensures) in
    record { decides = v2-answers _ _ _ _ _ (le-ltb _ 64 c.if-out-lt-ROOM.false) t.0 (own_v2 _ _ _ t.3 c.if-head-address-3.false) _ _ _ _ t.1 t.2 t.3 c.data_v2.ensures c.read_v2-asked.ensures.value_is c.read_v2-asked.ensures.list_is c.decide_v2.ensures.decides_v2; counted = c.decide_v2.ensures.counted c.read_v2-asked.ensures.count }
