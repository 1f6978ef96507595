-- What is proved here besides the contracts, each statement as a type; proofs/ has the proofs.
use Rattle.std.specs.Prelude.{◌≡◌}
use Rattle.sources.specs.declared.Profile.{Profile}
use Rattle.sources.specs.declared.Profile.TheVariants.{Standard, Vsh, Vsm}
use Rattle.settings.specs.Limits.{limits_of, longest_line}
use Rattle.settings.specs.Settings.{Held, factory, restore_of}
use Rattle.settings.specs.Sent.{read_text}
use Rattle.settings.specs.Tables.{factory_text}
use Rattle.settings.specs.declared.Key.{Key}

-- the column "Factory" of each profile: what a read of each setting sends at the start
abbrev pub FactoryReads : Type 0
FactoryReads = (p : Profile) (key : Key) → read_text key (factory (limits_of p)) ≡ factory_text p key

-- and after its restore, whatever was held before: for ST from either form
abbrev pub RestoreReads : Type 0
RestoreReads = (p : Profile) (s : Held) (key : Key) → read_text key (restore_of (limits_of p) s key) ≡ factory_text p key

-- "The line then has at most seven values; work out the longest line anew": 10 + 10 + 10 + 10 + 11 + 6 + 6, six `;`, checksum and CR.
-- "Each has its own longest line": VSH's and VSM's is 10 + 10 + 6, two `;`, checksum and CR
abbrev pub LongestIs : Type 0
LongestIs = (longest_line (limits_of Standard).source_codes ≡ 71) × (longest_line (limits_of Vsh).source_codes ≡ 30) × (longest_line (limits_of Vsm).source_codes ≡ 30)
