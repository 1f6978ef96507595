-- What is proved here, each statement as a type; proofs/ has the proofs.
use Rattle.std.specs.Prelude.{◌≡◌, true}
use Rattle.buffer.specs.Byte.{every}
use Rattle.marked_facts.specs.Marked.{right, rows}

-- "Examples to be proved (marked)": "Proved as a single statement over a list of cases"
abbrev pub AllRight : Type 0
AllRight = every right rows ≡ true
