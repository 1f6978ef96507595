-- Document 01, "OPG frames": the gauge's settings and pressure, and what the bench changes.
use Rattle.std.specs.Prelude.{Bool, true, false}
use Rattle.buffer.specs.First.{pick}
use Rattle.opg_units.specs.Units.{measurable}
use Rattle.opg_commands.specs.Settings.{factory}
use Rattle.opg_gauge.specs.declared.Pressure.{Pressure}
use Rattle.opg_gauge.specs.declared.Pressure.TheVariants.{Bits, Unavailable}
use Rattle.opg_gauge.specs.declared.Gauge.{Gauge}
use Rattle.buffer.specs.declared.BenchAnswer.{BenchAnswer}

-- the pressure "starts at 0"
abbrev pub start : Gauge
start = record { settings = factory; pressure = Bits 0 }

unfoldable pub is_unavailable : Pressure → Bool
is_unavailable (Bits w) = false
is_unavailable Unavailable = true

-- "The bench gives mbar, finite, 0 to 2000, not negative zero (else 15), or unavailable"
unfoldable pub takes : Pressure → Bool
takes (Bits w) = measurable w
takes Unavailable = true

-- "anything else is refused with 15 BENCH and changes nothing"; accepted is "for an OPG 20"
unfoldable pub benched : Gauge → Pressure → BenchAnswer Gauge
benched g p =
    pick (takes p)
    (record { gauge = record { settings = g.settings; pressure = p }; number = 20 })
    (record { gauge = g; number = 15 })
