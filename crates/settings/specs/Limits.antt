-- The limits of settings, those of each profile, of what the bench sets and of the stream line, each named once.
use Rattle.std.specs.Prelude.{Bool, true, false, List, [], ◌∷◌, ℕ, ◌+◌, eqb, leb}
use Rattle.buffer.specs.First.{◌⇒◌, first}
use Rattle.buffer.specs.Byte.{within}
use Rattle.decimal.specs.declared.Number.{Number}
use Rattle.sources.specs.Source.{sources_of, total}
use Rattle.sources.specs.declared.Profile.{Profile}
use Rattle.sources.specs.declared.Profile.TheVariants.{Standard, Vsh, Vsm}
use Rattle.settings.specs.declared.Transition.{Transition}
use Rattle.settings.specs.declared.Transition.TheVariants.{Direct}

-- the limits that no profile changes
pub record Limits : Type 0 where
  pub address_low : ℕ
  pub address_high : ℕ
  -- hundredths
  pub factor_low : ℕ
  pub factor_high : ℕ
  -- the largest digit of CM, CC and FC
  pub control_high : ℕ
  pub cathode_high : ℕ
  pub filament_high : ℕ

-- the limits and the sources of a profile
pub record ProfileLimits : Type 0 where
  -- the numbers of ST
  pub transition_low : Number
  pub transition_high : Number
  -- whether the `F` form of ST exists beside the `D` form
  pub between_form : Bool
  pub factory_transition : Transition
  -- the gauge's sources
  pub source_codes : List ℕ

-- the positive number of mantissa m at place p: m * 10 ^ p, in 10^-14
abbrev pub positive : ℕ → ℕ → Number
positive m p = record { negative = false; mantissa = m; place = p }

-- the column "Data"
abbrev pub standard : Limits
standard =
    record {
      address_low = 1;
      address_high = 16;
      factor_low = 20;
      factor_high = 800;
      control_high = 1;
      cathode_high = 1;
      filament_high = 3;
    }

-- document 02, "Hot cathode gauges", on top of the column "Data"
unfoldable pub limits_of : Profile → ProfileLimits
-- "each 1 to 20"; "the factory value of ST becomes D 1"
limits_of Standard =
    record {
      transition_low = positive 100000 9;
      transition_high = positive 200000 10;
      between_form = true;
      factory_transition = Direct (positive 100000 9);
      source_codes = sources_of Standard;
    }
-- "from 4E-4 to 1E-2 mbar (VSH)", "only the `D` form of ST, with factory value D 1e-3"
limits_of Vsh =
    record {
      transition_low = positive 400000 5;
      transition_high = positive 100000 7;
      between_form = false;
      factory_transition = Direct (positive 100000 6);
      source_codes = sources_of Vsh;
    }
-- "from 4E-4 to 2E-3 mbar (VSM)"
limits_of Vsm =
    record {
      transition_low = positive 400000 5;
      transition_high = positive 200000 6;
      between_form = false;
      factory_transition = Direct (positive 100000 6);
      source_codes = sources_of Vsm;
    }

-- the limits of readings
pub record BenchLimits : Type 0 where
  -- the size of a temperature in hundredths, below zero and above
  pub coldest : ℕ
  pub hottest : ℕ
  -- the largest digit of FS
  pub status_high : ℕ
  -- the digits of FN
  pub filament_low : ℕ
  pub filament_high : ℕ

-- "temperatures whole hundredths from -40.00 to 125.00", "FS, 0 to 3", FN "`1`-`2`"
abbrev pub bench_limits : BenchLimits
bench_limits = record { coldest = 4000; hottest = 12500; status_high = 3; filament_low = 1; filament_high = 2 }

-- C1 in hundredths: "0.20 to 8.00", V1's "20 to 800"
abbrev pub is_factor : ℕ → Bool
is_factor n = within standard.factor_low standard.factor_high n

-- the widest value of a source: a number that is not negative has at most 10 characters, source 7's has 11, a temperature 6
unfoldable pub width_of : ℕ → ℕ
width_of code = first (eqb code 7 ⇒ 11 ∷ leb 8 code ⇒ 6 ∷ []) 10

-- the longest line of a gauge with these sources: the widest value of each, once, with a `;` after it or, after the last, the checksum; and CR
unfoldable pub longest_line : List ℕ → ℕ
longest_line codes = total (λ c. width_of c + 1) codes + 1
