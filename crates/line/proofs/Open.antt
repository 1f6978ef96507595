-- To compute with these definitions: `unfolding line_open` opens every one of this crate, and those that they stand on.
use Rattle.frames.proofs.Open.{frames_open}
use Rattle.settings.proofs.Open.{settings_open}
use Rattle.readings.proofs.Open.{readings_open}
use Rattle.line.specs.Line.{line_value, shown_list, values_of, tail_of, joined, line_answer}
use Rattle.line.specs.Rows.{row_of, rows_of, row_text, tail_rows, line_of}

unfoldable pub line_open : Unit {0}
unfolding frames_open settings_open readings_open line_value shown_list values_of tail_of joined line_answer row_of rows_of row_text tail_rows line_of
line_open = tt
