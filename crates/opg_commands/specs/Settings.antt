-- Document 01, "OPG frames": the settings, their factory values, and what a request changes.
use Rattle.opg_commands.specs.declared.Request.{Request}
use Rattle.opg_commands.specs.declared.Request.TheVariants.{ReadPressure, ReadUnit, WriteUnit, DetectionOff, DetectionOn}
use Rattle.opg_commands.specs.declared.Settings.{Settings}

-- "1 to 4, factory 1"; mode, spectra and gas "factory all 0"
abbrev pub factory : Settings
factory = record { unit = 1; mode = 0; spectra = 0; gas = 0 }

-- the settings after an accepted request. "With mode 0 the other five bytes are not examined and those two settings stay"
unfoldable pub entered : Settings → Request → Settings
entered s (ReadPressure u) = s
entered s ReadUnit = s
entered s (WriteUnit u) = record { unit = u; mode = s.mode; spectra = s.spectra; gas = s.gas }
entered s DetectionOff = record { unit = s.unit; mode = 0; spectra = s.spectra; gas = s.gas }
entered s (DetectionOn n gas) = record { unit = s.unit; mode = 1; spectra = n; gas = gas }
