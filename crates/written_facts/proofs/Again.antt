-- Demand 2: "A typed request that the writer accepts, once written and read again, is the same request."
use Rattle.written_facts.specs.Again.{in_v1, in_v2}
use Rattle.written_facts.proofs.Back.{request_again_v2, request_again_v1}
use Rattle.written_facts.specs.Theorems.{RequestAgain}

-- one theorem for both protocols
pub request_again : RequestAgain
request_again limits ok room address (in_v1 r) accepted = request_again_v1 limits room address r accepted
request_again limits ok room address (in_v2 r q) accepted = request_again_v2 limits ok room address r q accepted
