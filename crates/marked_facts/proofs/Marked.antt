-- The marked examples, computed.
use mathlib.Core.Path.{refl}
use Rattle.request_reader.proofs.Open.{request_reader_open}
use Rattle.replies_v1.proofs.Open.{replies_v1_open}
use Rattle.replies_v2.proofs.Open.{replies_v2_open}
use Rattle.line.proofs.Open.{line_open}
use Rattle.gauge_table.proofs.Open.{gauge_table_open}
use Rattle.opg_request_reader.proofs.Open.{opg_request_reader_open}
use Rattle.opg_replies.proofs.Open.{opg_replies_open}
use Rattle.opg_facts.specs.Examples.{hex_of}
use Rattle.marked_facts.specs.Theorems.{AllRight}

pub all_right : AllRight
unfolding hex_of request_reader_open replies_v1_open replies_v2_open line_open gauge_table_open opg_request_reader_open opg_replies_open
all_right = refl
