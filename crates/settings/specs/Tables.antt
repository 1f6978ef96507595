-- The column "Factory", written out for each profile: the text that a read of each setting sends at the start and after its restore.
use Rattle.std.specs.Prelude.{List, ℕ}
use Rattle.buffer.specs.Quoted.{bytes}
use Rattle.sources.specs.declared.Profile.{Profile}
use Rattle.sources.specs.declared.Profile.TheVariants.{Standard, Vsh, Vsm}
use Rattle.settings.specs.declared.Key.{Key}
use Rattle.settings.specs.declared.Key.TheVariants.{DA, DU, C1, CM, CC, FC, ST, SM}

-- document 02: "the factory value of ST becomes D 1", "`D1e0`"; VSH and VSM have "factory value D 1e-3"
unfoldable pub transition_at : Profile → List ℕ
transition_at Standard = bytes "D1e0"
transition_at Vsh = bytes "D1e-3"
transition_at Vsm = bytes "D1e-3"

unfoldable pub factory_text : Profile → Key → List ℕ
factory_text p DA = bytes "001"
factory_text p DU = bytes "mbar"
factory_text p C1 = bytes "1.00"
factory_text p CM = bytes "1"
factory_text p CC = bytes "1"
factory_text p FC = bytes "0"
factory_text p ST = transition_at p
factory_text p SM = bytes "0"
