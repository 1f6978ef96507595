-- What is proved here, each statement as a type; proofs/ has the proofs.
use Rattle.std.specs.Prelude.{List, ℕ, length}
use Rattle.buffer.specs.Answer.{Sent}
use Rattle.buffer.specs.declared.Written.{Written}
use Rattle.settings.specs.Limits.{ProfileLimits}
use Rattle.request_reader.specs.Decoded.{request_of, request_list}
use Rattle.rewriter.specs.Again.{Rewritten}
use Rattle.rewriter_facts.specs.Again.{frame_again}

-- "A typed request that the writer accepts, once written and read again, is the same request.", the other way round: bytes that are a request
-- are written again with 0 wherever 109 bytes are lent, whatever the reader's list holds past its count
abbrev pub RewrittenFixed : Type 0
RewrittenFixed = (limits : ProfileLimits) (s before after : List ℕ) (w : Written) → Rewritten limits s before after w → Sent before (frame_again (length before) (request_of limits s) (request_list limits s)) after w
