-- What is proved here besides the contracts, each statement as a type; proofs/ has the proofs.
use Rattle.std.specs.Prelude.{◌≡◌, true}
use Rattle.buffer.specs.Byte.{every}
use Rattle.replies_v2.specs.Examples.{right, cases}

-- the worked cases: each reply is read as the paper says, with the list beside it
abbrev pub AllRead : Type 0
AllRead = every right cases ≡ true
