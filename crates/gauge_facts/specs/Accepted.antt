-- "A request is accepted exactly if lent room, frame, checksum, address, command, access, data and state satisfy document 01": the eight
-- conditions, each from the table's tests.
use Rattle.std.specs.Prelude.{Bool, false, not, ◌&&◌, List, ℕ, ltb, Option}
use Rattle.buffer.specs.Byte.{at}
use Rattle.frames.specs.Frame.{data_from, misshapen, wrong_sum, wrong_address, wrong_length}
use Rattle.requests.specs.Command.{command_of}
use Rattle.gauge_rules.specs.State.{State}
use Rattle.gauge_table.specs.Asked.{asked_v2, wrong_code, unknown_command, lacks, bad_form_v2, outside_v2, against_logic, breaks_rule, asks_faulty, unknown_letter, bad_form_v1, locked_write, outside_v1, measures_faulty}
use Rattle.gauge_table.specs.Table.{answer_room, other_address, test}
use Rattle.requests.specs.declared.Command.{Command}

-- the command of a V2 frame
abbrev pub named : List ℕ → Option Command
named s = command_of (at s 4) (at s 5)

-- 1: not "lent answer memory below 64 bytes"
abbrev pub has_room : ℕ → Bool
has_room room = not (ltb room answer_room)

-- 2 and 6: length, byte 3, CR and bytes within the rules; for V2, LEN two digits and the data count
abbrev pub frame_fits : List ℕ → Bool
frame_fits s = not (misshapen s) && not (test s false (wrong_length s))

-- 3: it does not differ
abbrev pub checksum_fits : List ℕ → Bool
checksum_fits s = not (wrong_sum s)

-- 4 and 5: three digits and not 000; "this gauge's address now"
abbrev pub address_fits : State → List ℕ → Bool
address_fits g s = not (wrong_address s) && not (other_address g s)

-- 8: for V1 a letter that is known, for V2 a command
abbrev pub command_fits : List ℕ → Bool
command_fits s = not (test s (unknown_letter (at s 3)) (unknown_command (named s)))

-- 7 and 9, for V2: access 0, 2 or 4, and one that the command has
abbrev pub access_fits : List ℕ → Bool
access_fits s = not (test s false (wrong_code (at s 3))) && not (test s false (lacks (at s 3) (named s)))

-- 10, 11 and 12: data of the command's form, no number outside and no source that the profile lacks, ST's F strictly below T, each source of SM's
-- list once and no `0`
abbrev pub data_fits : State → List ℕ → Bool
data_fits g s =
    not (test s (bad_form_v1 (at s 3) (data_from 4 s)) (bad_form_v2 g.limits (at s 3) (named s) (data_from 8 s)))
    && (not (test s (outside_v1 (at s 3) (data_from 4 s)) (outside_v2 g.limits (at s 3) (named s) (data_from 8 s)))
    && not (test s false (against_logic g.limits (at s 3) (named s) (data_from 8 s))))

-- 12 and 13: for V1 not a write while locked; for V2 not CC written or restored while CM is 1; no faulty sensor asked for
abbrev pub state_fits : State → List ℕ → Bool
state_fits g s =
    not (test s (locked_write g (at s 3) (data_from 4 s)) false)
    && (not (test s false (breaks_rule g (asked_v2 g.limits s)))
    && not (test s (measures_faulty g (at s 3)) (asks_faulty g (asked_v2 g.limits s))))
