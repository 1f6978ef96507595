-- The texts of the commands and the worked cases, computed.
use mathlib.Core.Path.{refl}
use Rattle.buffer.specs.First.{pick}
use Rattle.buffer.specs.Byte.{same_text}
use Rattle.requests.specs.Command.{command_of, command_text, find_command}
use Rattle.requests_facts.specs.Theorems.{AllNamed, AllV2}
use Rattle.requests.proofs.Open.{requests_open}

-- each text names its command
pub all_named : AllNamed
unfolding command_of find_command command_text same_text pick
all_named = refl

pub all_v2 : AllV2
unfolding requests_open
all_v2 = refl
