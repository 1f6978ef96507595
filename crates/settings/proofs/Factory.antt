-- The column "Factory": what reads send at the start, and after a restore.
use mathlib.Core.Path.{◌≡◌, refl}
use Rattle.sources.specs.declared.Profile.{Profile}
use Rattle.sources.specs.declared.Profile.TheVariants.{Standard, Vsh, Vsm}
use Rattle.settings.specs.Limits.{limits_of}
use Rattle.settings.specs.Settings.{Held, factory, restore_of}
use Rattle.settings.specs.Sent.{read_text}
use Rattle.settings.specs.Tables.{transition_at, factory_text}
use Rattle.settings.specs.declared.Key.{Key}
use Rattle.settings.specs.declared.Key.TheVariants.{DA, DU, C1, CM, CC, FC, ST, SM}
use Rattle.settings.specs.Theorems.{FactoryReads, RestoreReads}
use Rattle.settings.proofs.Open.{settings_open}

-- both, row by row
column : (p : Profile) (s : Held) (key : Key) → (read_text key (factory (limits_of p)) ≡ factory_text p key) × (read_text key (restore_of (limits_of p) s key) ≡ factory_text p key)
unfolding settings_open transition_at factory_text
column p s DA = (refl, refl)
column p s DU = (refl, refl)
column p s C1 = (refl, refl)
column p s CM = (refl, refl)
column p s CC = (refl, refl)
column p s FC = (refl, refl)
column Standard s ST = (refl, refl)
column Vsh s ST = (refl, refl)
column Vsm s ST = (refl, refl)
column p s SM = (refl, refl)

pub factory_reads : FactoryReads
factory_reads p key = (column p (factory (limits_of p)) key).0

pub restore_reads : RestoreReads
restore_reads p s key = (column p s key).1
