-- No bytes make the reply reader hand over a list that SM could not have.
use mathlib.Core.List.{List}
use Prim.Native.Nat.{ℕ}
use Rattle.std.specs.Prelude.{Err, Ok, Result}
use Rattle.frames.specs.Frame.{data_from}
use Rattle.settings.specs.Limits.{ProfileLimits}
use Rattle.forms_facts.specs.Codes.{GoodList}
use Rattle.forms_facts.proofs.Within.{accepted_list}
use Rattle.forms_facts.proofs.Lemmas.Lists.{none_good}
use Rattle.requests.specs.declared.Command.TheVariants.{MV, T2, FN, FS, Of}
use Rattle.requests.specs.declared.RequestV2.{RequestV2}
use Rattle.requests.specs.declared.RequestV2.TheVariants as request
use Rattle.replies_v2_values.specs.Value.{value_list}
use Rattle.replies_v2_values.specs.declared.ReplyV2.TheVariants.{Measured, UnderRange, OverRange, Degrees, FilamentNumber, StatusNumber, Holds, Done, Error}
use Rattle.replies_v2.specs.ReplyV2.{read_v2, beside, data_list, read_list}
use Rattle.exchange_v2_facts.specs.Theorems.{ReadGood}
use Rattle.refusals.specs.declared.Refusal.{Refusal}
use Rattle.replies_v2_values.specs.declared.ReplyV2.{ReplyV2}

data_good : (limits : ProfileLimits) (r : RequestV2) (s : List ℕ) → GoodList limits.source_codes (data_list limits r s)
unfolding data_list value_list
data_good limits (request.Read MV) s = none_good limits.source_codes
data_good limits (request.Read T2) s = none_good limits.source_codes
data_good limits (request.Read FN) s = none_good limits.source_codes
data_good limits (request.Read FS) s = none_good limits.source_codes
data_good limits (request.Read (Of key)) s = accepted_list limits key s
data_good limits (request.Restore c) s = none_good limits.source_codes
data_good limits (request.Set x) s = none_good limits.source_codes

beside_good : (limits : ProfileLimits) (x : Result ReplyV2 Refusal) (list : List ℕ) → GoodList limits.source_codes list → GoodList limits.source_codes (beside x list)
unfolding beside
beside_good limits (Ok (Measured n)) list h = none_good limits.source_codes
beside_good limits (Ok UnderRange) list h = none_good limits.source_codes
beside_good limits (Ok OverRange) list h = none_good limits.source_codes
beside_good limits (Ok (Degrees negative d)) list h = none_good limits.source_codes
beside_good limits (Ok (FilamentNumber d)) list h = none_good limits.source_codes
beside_good limits (Ok (StatusNumber d)) list h = none_good limits.source_codes
beside_good limits (Ok (Holds x)) list h = h
beside_good limits (Ok Done) list h = none_good limits.source_codes
beside_good limits (Ok (Error e)) list h = none_good limits.source_codes
beside_good limits (Err k) list h = none_good limits.source_codes

-- whatever the bytes
pub read_good : ReadGood
unfolding read_list
read_good limits address r s = beside_good limits (read_v2 limits address r s) _ (data_good limits r (data_from 8 s))
