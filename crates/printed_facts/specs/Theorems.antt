-- What is proved here, each statement as a type; proofs/ has the proofs.
use Rattle.std.specs.Prelude.{List, ◌≡◌, true, ℕ, ◌≤◌, length}
use Rattle.error_texts.specs.Texts.{error_bytes}
use Rattle.error_texts.specs.declared.ErrorText.{ErrorText}
use Rattle.settings.specs.Settings.{Held}
use Rattle.settings.specs.Sent.{read_text}
use Rattle.settings.specs.declared.Key.{Key}
use Rattle.readings.specs.Reading.{pressure_text, temperature_text}
use Rattle.readings.specs.declared.Pressure.{Pressure}
use Rattle.readings.specs.declared.Temperature.{Temperature}
use Rattle.readings.specs.Measure.{measure_text}
use Rattle.requests.specs.declared.RequestV2.{RequestV2}
use Rattle.request_texts.specs.RequestText.{data_v2, data_v1, head_for, head_for_v1}
use Rattle.requests.specs.declared.RequestV1.{RequestV1}
use Rattle.sources.specs.Source.{capacity}
use Rattle.buffer.specs.Byte.{within, Printed}
use Rattle.frame_writer.specs.Sendable.{SendableV2, SendableV1}

-- "the bytes before the checksum are 32 to 126": those of the error texts
abbrev pub ErrorPrinted : Type 0
ErrorPrinted = (e : ErrorText) → Printed (error_bytes e)

-- what a read of a setting sends, whatever the settings hold
abbrev pub ReadPrinted : Type 0
ReadPrinted = (key : Key) (h : Held) → Printed (read_text key h)

-- what is sent for a pressure
abbrev pub PressurePrinted : Type 0
PressurePrinted = (p : Pressure) → Printed (pressure_text p)

-- for a temperature
abbrev pub TemperaturePrinted : Type 0
TemperaturePrinted = (t : Temperature) → Printed (temperature_text t)

-- for V1's `M`
abbrev pub MeasurePrinted : Type 0
MeasurePrinted = (p : Pressure) → Printed (measure_text p)

-- the data of a V2 request
abbrev pub DataV2Printed : Type 0
DataV2Printed = (r : RequestV2) (list : List ℕ) → Printed (data_v2 r list)

-- and of a V1 request
abbrev pub DataV1Printed : Type 0
DataV1Printed = (r : RequestV1) → Printed (data_v1 r)

-- an error text has at most six bytes
abbrev pub ErrorLe : Type 0
ErrorLe = (e : ErrorText) → length (error_bytes e) ≤ 6

-- what a read of a setting sends has at most 24, where the list has at most as many sources as its array has places
abbrev pub ReadLe : Type 0
ReadLe = (h : Held) → length h.list ≤ capacity → (key : Key) → length (read_text key h) ≤ 24

-- the data of a V1 request have at most six
abbrev pub DataV1Le : Type 0
DataV1Le = (r : RequestV1) → length (data_v1 r) ≤ 6

-- so a frame can carry a V2 request whose data it has room for
abbrev pub RequestSendableV2 : Type 0
RequestSendableV2 = (address : ℕ) (r : RequestV2) (list : List ℕ) → within 1 999 address ≡ true → length (data_v2 r list) ≤ 99 → SendableV2 (head_for address r) (data_v2 r list)

-- and any V1 request
abbrev pub RequestSendableV1 : Type 0
RequestSendableV1 = (address : ℕ) (r : RequestV1) → within 1 999 address ≡ true → SendableV1 (head_for_v1 address r) (data_v1 r)
