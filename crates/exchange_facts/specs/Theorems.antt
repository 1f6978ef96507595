-- What is proved here, as a type; proofs/ has the proof.
use Rattle.std.specs.Prelude.{◌≡◌, ℕ, ◌≤◌}
use Rattle.written_facts.specs.Again.{Typed, written}
use Rattle.gauge_rules.specs.State.{State}
use Rattle.gauge_table.specs.After.{answer_of}
use Rattle.gauge_facts.specs.Sound.{SoundState}
use Rattle.exchange_facts.specs.Exchange.{ReadAsHeld}

-- "A reply that a reader accepts yields the value or error that its bytes mean there.": any request that the writer accepts for the gauge's address
-- and profile, answered with 64 bytes lent: the reader of its protocol reads what the gauge holds, or the error that document 01 fixes; and, for a
-- read of SM, the list that it holds
abbrev pub Exchange : Type 0
Exchange = (lent room : ℕ) (g : State) (t : Typed) → SoundState g → 64 ≤ room → (written g.limits lent g.settings.address t).number ≡ 0
    → ReadAsHeld g t (answer_of g room (written g.limits lent g.settings.address t).reply).reply
