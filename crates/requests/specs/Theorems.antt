-- What is proved here besides the contracts, each statement as a type; proofs/ has the proofs.
use Rattle.std.specs.Prelude.{◌≡◌, map}
use Rattle.requests.specs.Tables.{accesses_of, access_table, accesses_printed, letter_asks, letter_table, letter_printed}

-- the column "Access": read; all three; SM "read, write"
abbrev pub AccessTable : Type 0
AccessTable = map accesses_of access_table ≡ map accesses_printed access_table

-- "V1 on the same settings": each letter with its data asks what the paper says
abbrev pub LetterTable : Type 0
LetterTable = map letter_asks letter_table ≡ map letter_printed letter_table
