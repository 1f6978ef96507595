-- Document 01's numbers: of the refusals of a frame, and of the error bytes that a gauge sends.
use Rattle.std.specs.Prelude.{ℕ, ◌+◌}
use Rattle.opg_frames.specs.declared.Refusal.{Refusal}
use Rattle.opg_frames.specs.declared.Refusal.TheVariants as refusal
use Rattle.opg_frames.specs.declared.ErrorByte.{ErrorByte}
use Rattle.opg_frames.specs.declared.ErrorByte.TheVariants as error

-- "21 less than 32 bytes lent"; "22 length or reserved bits; 23 ADDR not 0 or ID ..; 24 CRC; 25 version, or acknowledge clear; 26 CMD not the
-- request's plus 1, IDX not 0, or PID ..; 27 data length; 28 a unit outside 1 to 4, or a pressure that is not finite"
unfoldable pub refusal_number : Refusal → ℕ
refusal_number refusal.Room = 21
refusal_number refusal.Shape = 22
refusal_number refusal.Address = 23
refusal_number refusal.Crc = 24
refusal_number refusal.Header = 25
refusal_number refusal.Other = 26
refusal_number refusal.Length = 27
refusal_number refusal.Value = 28

-- "CRC 100, version 104, acknowledge set 102, CMD not 1 or 3: 101, PID unknown 3, access 1, IDX not 0: 2, data length 4, value 2, pressure
-- unavailable 0"
unfoldable pub error_byte : ErrorByte → ℕ
error_byte error.Unavailable = 0
error_byte error.Access = 1
error_byte error.Value = 2
error_byte error.Pid = 3
error_byte error.Length = 4
error_byte error.Crc = 100
error_byte error.Cmd = 101
error_byte error.Acknowledge = 102
error_byte error.Version = 104

-- "with error byte e and number 1000 + e"
abbrev pub error_number : ErrorByte → ℕ
error_number e = 1000 + error_byte e
