-- The worked cases, computed.
use mathlib.Core.Path.{refl}
use Rattle.opg_answer.proofs.Open.{opg_answer_open}
use Rattle.opg_request_writer.proofs.Open.{opg_request_writer_open}
use Rattle.opg_replies.proofs.Open.{opg_replies_open}
use Rattle.opg_facts.specs.Examples.{hex_of}
use Rattle.opg_facts.specs.Theorems.{AllAnswered, AllKept, AllRead, AllSent}

pub all_answered : AllAnswered
unfolding hex_of opg_answer_open
all_answered = refl

pub all_kept : AllKept
unfolding hex_of opg_answer_open
all_kept = refl

pub all_read : AllRead
unfolding hex_of opg_replies_open
all_read = refl

pub all_sent : AllSent
unfolding hex_of opg_request_writer_open
all_sent = refl
