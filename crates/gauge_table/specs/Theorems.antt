-- What is proved here, each statement as a type; proofs/ has the proofs.
use Rattle.std.specs.Prelude.{◌≡◌, true, false, List, map, ℕ, ltb}
use Rattle.buffer.specs.Byte.{at}
use Rattle.frames.specs.Frame.{is_letter, wrong_length}
use Rattle.frames_facts.proofs.Shape.{Framed}
use Rattle.gauge_rules.specs.State.{State}
use Rattle.gauge_table.specs.Asked.{asked_v2, asked_v1}
use Rattle.gauge_table.specs.Table.{answer_room, other_address, number_of}
use Rattle.gauge_table.specs.Decided.{decided_v2, decided_v1}
use Rattle.gauge_table.specs.Letters.{table, numbers_of, printed}

-- the table's number of a frame, with enough memory lent. 5 OTHER: "not this gauge's address now"
abbrev pub Number5 : Type 0
Number5 = (s : List ℕ) (g : State) (room : ℕ) → ltb room answer_room ≡ false → Framed s → other_address g s ≡ true → number_of g room s ≡ 5

-- 6 LENGTH: "V2: LEN not two digits or not the data count"
abbrev pub Number6 : Type 0
Number6 = (s : List ℕ) (g : State) (room : ℕ) → ltb room answer_room ≡ false → Framed s
    → other_address g s ≡ false → is_letter (at s 3) ≡ false → wrong_length s ≡ true → number_of g room s ≡ 6

-- a V2 request, decoded and then decided, has the table's number
abbrev pub NumberV2 : Type 0
NumberV2 = (s : List ℕ) (g : State) (room : ℕ) → ltb room answer_room ≡ false → Framed s
    → other_address g s ≡ false → is_letter (at s 3) ≡ false → wrong_length s ≡ false → number_of g room s ≡ decided_v2 g (asked_v2 g.limits s)

-- and so has a V1 request
abbrev pub NumberV1 : Type 0
NumberV1 = (s : List ℕ) (g : State) (room : ℕ) → ltb room answer_room ≡ false → Framed s
    → other_address g s ≡ false → is_letter (at s 3) ≡ true → number_of g room s ≡ decided_v1 g (asked_v1 s)

-- V1's five letters with their data have the numbers that are written out from the paper
abbrev pub LetterNumbers : Type 0
LetterNumbers = map numbers_of table ≡ map printed table
