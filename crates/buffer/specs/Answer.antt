-- An answer, and what lent memory holds after it.
use Rattle.std.specs.Prelude.{◌≡◌, List, [], ◌++◌, ℕ, length, drop}
use Rattle.std.proofs.lemmas.List.Edits.{sets}
use Rattle.buffer.specs.declared.Written.{Written}

-- an answer's number and its reply, which is empty where there is none
pub record Answer : Type 0 where
  pub number : ℕ
  pub reply : List ℕ

-- the answer with this number and no reply
abbrev pub silent : ℕ → Answer
silent n = record { number = n; reply = [] }

-- lent memory after an answer: the reply, and then the old bytes from its length on
unfoldable pub over : List ℕ → List ℕ → List ℕ
over reply memory = reply ++ drop (length reply) memory

-- the memory `after` is `before` with these bytes stored from place `at` on; what would fall past the end is left out
pub record Stored (before : List ℕ) (at : ℕ) (bytes after : List ℕ) : Type 0 where
  pub memory : after ≡ sets before at bytes

-- a writer that was lent `before` gave this answer: the result is its number and its reply's length, the memory its reply over the old bytes
pub record Sent (before : List ℕ) (answer : Answer) (after : List ℕ) (result : Written) : Type 0 where
  pub number : result.number ≡ answer.number
  pub len : result.len ≡ length answer.reply
  pub memory : after ≡ over answer.reply before
