-- `line::stream_line` meets its contract.
use mathlib.Core.Path.{◌≡◌, ap, ◌∙◌}
use mathlib.Core.Bool.{true, false, not}
use mathlib.Core.List.{List}
use Prim.Native.Nat.{ℕ, ◌<◌, ◌≤◌}
use native.Mathlib.Omega.{arith}
use lib.ListN.{length}
use Rattle.buffer.proofs.Laws.{refuses, sends}
use Rattle.frames.specs.Checksum.{closed}
use Rattle.sources.specs.Source.{list_of}
use Rattle.sources.specs.declared.Sources.{Sources}
use Rattle.sources.specs.declared.Profile.{Profile}
use Rattle.readings.specs.declared.Readings.{Readings}
use Rattle.settings.specs.Limits.{limits_of, longest_line}
use Rattle.settings.proofs.Laws.{zero_here, few_here}
use Rattle.line.specs.Line.{values_of, shown_list, joined}
use Rattle.line.specs.Rows.{rows_of, line_of}
use Rattle.line.proofs.Laws.{line_is, no_longer, shown_few, no_room, no_line, a_line}
use Rattle.line.proofs.stream_line.Goals as goal

-- the line of the rows is the line of the values
the_line : (profile : Profile) (q : Sources) (shown : List ℕ) (r : Readings) (rows : List (List ℕ))
    → let codes = (limits_of profile).source_codes in
    rows ≡ rows_of (values_of shown r) → shown ≡ shown_list codes (list_of q) → line_of rows ≡ closed (joined (values_of (shown_list codes (list_of q)) r))
the_line profile q shown r rows e f =
    let codes = (limits_of profile).source_codes in
    ap line_of e ∙ ap (λ (list : List ℕ). line_of (rows_of (values_of list r))) f ∙ line_is (shown_list codes (list_of q)) r (omega (arith, shown_few codes (list_of q) (zero_here profile) (few_here profile)))

pub returns-then-out-room : goal.returns-then-out-room
returns-then-out-room c =
    let little : length c.args.out.now < longest_line (limits_of c.args.profile).source_codes = rw c.room.ensures at c.if-out-room.true in
    rw c.number.ensures (refuses _ 1 (no_room _ _ _ _ little))

pub returns-then-not-s : goal.returns-then-not-s
returns-then-not-s c =
    let room : longest_line (limits_of c.args.profile).source_codes ≤ length c.args.out.now = rw c.room.ensures at c.if-out-room.false in
    let none : not c.args.s.streaming ≡ true = c.if-not-s.true in
    refuses _ 0 (no_line _ _ _ _ room none)

pub write_line-len-requires : goal.write_line-len-requires
write_line-len-requires c = let codes = (limits_of c.args.profile).source_codes in let room : longest_line codes ≤ length c.args.out.now = rw c.room.ensures at c.if-out-room.false in rw (the_line c.args.profile c.args.s.sources _ c.args.r _ c.rows_of-rows.ensures c.shown_list.ensures) (omega (arith, room, no_longer codes (list_of c.args.s.sources) c.args.r (zero_here c.args.profile)))

pub returns : goal.returns
returns c =
    let codes = (limits_of c.args.profile).source_codes in
    let room : longest_line codes ≤ length c.args.out.now = rw c.room.ensures at c.if-out-room.false in
    let some : not c.args.s.streaming ≡ false = c.if-not-s.false in
    sends
    0
    c.write_line-len.result
    (a_line _ _ _ _ room some)
    (rw (the_line c.args.profile c.args.s.sources _ c.args.r _ c.rows_of-rows.ensures c.shown_list.ensures) at c.write_line-len.ensures.stored)
    (rw (the_line c.args.profile c.args.s.sources _ c.args.r _ c.rows_of-rows.ensures c.shown_list.ensures) at c.write_line-len.ensures.value)
    (omega (arith, room, no_longer codes (list_of c.args.s.sources) c.args.r (zero_here c.args.profile)))
