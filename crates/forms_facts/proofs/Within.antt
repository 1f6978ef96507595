-- Document 01, the column "Data": what is accepted lies within the limits.
use lib.ListN.{drop}
use Rattle.std.specs.Prelude.{Err, Ok, Result}
use Rattle.sources.specs.Entries.{entries_list}
use Rattle.settings.specs.declared.Setting.{Setting}
use Rattle.settings.specs.declared.Key.TheVariants.{DA, DU, C1, CM, CC, FC, ST, SM}
use Rattle.buffer.specs.First.{pick}
use Rattle.buffer.specs.Byte.{starts_with}
use Rattle.forms.specs.Forms.{ends_of, transition_of, transition_data, stream_data}
use Rattle.forms.specs.Judged.{verdict_of, if_set, list_in}
use Rattle.forms_facts.specs.Codes.{GoodList}
use Rattle.forms_facts.proofs.Lemmas.Lists.{none_good, entries_good}
use Rattle.forms_facts.proofs.Lemmas.Good.{good}
use Rattle.forms_facts.specs.Theorems.{AcceptedSound, AcceptedList, NoBetween}
use Rattle.refusals.specs.declared.Refusal.{Refusal}

-- what is accepted is within the limits
pub accepted_sound : AcceptedSound
accepted_sound limits key s x e = rw e at (good limits key s)

-- an accepted list is good
pub accepted_list : AcceptedList
unfolding list_in if_set
accepted_list limits DA s = none_good limits.source_codes
accepted_list limits DU s = none_good limits.source_codes
accepted_list limits C1 s = none_good limits.source_codes
accepted_list limits CM s = none_good limits.source_codes
accepted_list limits CC s = none_good limits.source_codes
accepted_list limits FC s = none_good limits.source_codes
accepted_list limits ST s = none_good limits.source_codes
accepted_list limits SM s = go (stream_data limits s)
  where
    go : (v : Result Setting Refusal) → GoodList limits.source_codes (if_set v (entries_list limits.source_codes (drop 1 s)))
    go (Ok x) = entries_good limits.source_codes (drop 1 s)
    go (Err k) = none_good limits.source_codes

-- without the form of two numbers, an `F` is SYNTAX
pub no_between : NoBetween
unfolding verdict_of transition_data ends_of transition_of starts_with pick
no_between limits s e = rw e
