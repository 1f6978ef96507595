-- Document 01, "Answer numbers of the text gauge": the table.
use Rattle.std.specs.Prelude.{Bool, false, cond, not, List, [], ◌∷◌, ℕ, ltb, eqb}
use Rattle.buffer.specs.First.{◌⇒◌, first}
use Rattle.buffer.specs.Byte.{at}
use Rattle.frames.specs.Frame.{data_from, address_of, misshapen, wrong_sum, wrong_address, wrong_length}
use Rattle.requests.specs.Command.{command_of}
use Rattle.gauge_rules.specs.State.{State}
use Rattle.gauge_table.specs.Asked.{is_v1, asked_v2, wrong_code, unknown_command, lacks, bad_form_v2, outside_v2, against_logic, breaks_rule, asks_faulty, unknown_letter, bad_form_v1, locked_write, outside_v1, measures_faulty}

-- "lent answer memory below 64 bytes"
abbrev pub answer_room : ℕ
answer_room = 64

-- 5 OTHER: "not this gauge's address now"
abbrev pub other_address : State → List ℕ → Bool
other_address g s = not (eqb (address_of s) g.settings.address)

-- a row's test: for a V1 frame the first, for a V2 frame the second
abbrev pub test : List ℕ → Bool → Bool → Bool
test s v1 v2 = cond (is_v1 s) v1 v2

-- "The first that applies, in this order." One row is out of the table's order: V1's lock, "checked before the number".
unfoldable pub number_of : State → ℕ → List ℕ → ℕ
number_of g room s =
    let l = at s 3 in
    let d1 = data_from 4 s in
    let a = at s 3 in
    let n = command_of (at s 4) (at s 5) in
    let d2 = data_from 8 s in
    first
    -- ROOM, SHAPE, CHECKSUM, ADDRESS, OTHER
    (ltb room answer_room ⇒ 1
    ∷ misshapen s ⇒ 2
    ∷ wrong_sum s ⇒ 3
    ∷ wrong_address s ⇒ 4
    ∷ other_address g s ⇒ 5
    -- LENGTH, CODE, NO_DEF, ACCESS: for V1, then for V2
    ∷ test s false (wrong_length s) ⇒ 6
    ∷ test s false (wrong_code a) ⇒ 7
    ∷ test s (unknown_letter l) (unknown_command n) ⇒ 8
    ∷ test s false (lacks a n) ⇒ 9
    -- SYNTAX; the lock; RANGE; LOGIC; FAULT
    ∷ test s (bad_form_v1 l d1) (bad_form_v2 g.limits a n d2) ⇒ 10
    ∷ test s (locked_write g l d1) false ⇒ 12
    ∷ test s (outside_v1 l d1) (outside_v2 g.limits a n d2) ⇒ 11
    ∷ test s false (against_logic g.limits a n d2) ⇒ 12
    ∷ test s false (breaks_rule g (asked_v2 g.limits s)) ⇒ 12
    ∷ test s (measures_faulty g l) (asks_faulty g (asked_v2 g.limits s)) ⇒ 13
    ∷ [])
    0
