-- The limits of each profile: proper ones. This is all that is proved profile by profile.
use mathlib.Core.Path.{refl}
use mathlib.Core.Logic.{inr}
use native.Mathlib.Omega.{arith}
use Rattle.decimal.specs.Exact.{units}
use Rattle.decimal.specs.Number.{plus, minus, below_of}
use Rattle.sources.specs.declared.Profile.TheVariants.{Standard, Vsh, Vsm}
use Rattle.sources.proofs.Profiles.{few, zero_in, all_here}
use Rattle.settings.specs.Limits.{limits_of}
use Rattle.forms_facts.specs.Theorems.{AllProper}

pub proper : AllProper
unfolding limits_of below_of plus minus units
proper Standard =
    record {
      first = zero_in Standard;
      here = all_here Standard;
      few = few Standard;
      factory = record { canonical = inr (record { low = omega arith; high = omega arith; place = omega arith }); low = refl; high = refl };
    }
proper Vsh =
    record {
      first = zero_in Vsh;
      here = all_here Vsh;
      few = few Vsh;
      factory = record { canonical = inr (record { low = omega arith; high = omega arith; place = omega arith }); low = refl; high = refl };
    }
proper Vsm =
    record {
      first = zero_in Vsm;
      here = all_here Vsm;
      few = few Vsm;
      factory = record { canonical = inr (record { low = omega arith; high = omega arith; place = omega arith }); low = refl; high = refl };
    }
