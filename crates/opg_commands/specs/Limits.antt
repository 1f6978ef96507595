-- The limits of the OPG's settings, each named once.
use Rattle.std.specs.Prelude.{ℕ}

-- the unit: 1 mbar, 2 Torr, 3 Pascal, 4 micron
abbrev pub unit_low : ℕ
unit_low = 1

abbrev pub unit_high : ℕ
unit_high = 4

-- "mode 0 or 1", "gas 0 to 10"
abbrev pub mode_high : ℕ
mode_high = 1

abbrev pub gas_high : ℕ
gas_high = 10
