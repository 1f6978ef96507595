-- Document 01, "OPG frames" and "Examples to be proved", and worked cases of its rules: bytes and numbers.
use Rattle.std.specs.Prelude.{Bool, ◌&&◌, List, [], ◌∷◌, ◌++◌, ℕ, ◌+◌, ◌-◌, ◌*◌, eqb, ltb, replicate}
use Prim.Native.String.{String}
use Rattle.buffer.specs.First.{pick}
use Rattle.buffer.specs.Byte.{same_text}
use Rattle.buffer.specs.Quoted.{bytes}
use Rattle.opg_commands.specs.declared.Request.{Request}
use Rattle.opg_commands.specs.declared.Request.TheVariants.{ReadPressure, ReadUnit, WriteUnit, DetectionOff, DetectionOn}
use Rattle.opg_gauge.specs.State.{start, benched}
use Rattle.opg_gauge.specs.declared.Gauge.{Gauge}
use Rattle.opg_gauge.specs.declared.Pressure.TheVariants.{Bits, Unavailable}
use Rattle.opg_answer.specs.Reply.{answer_of, after_of}
use Rattle.opg_request_writer.specs.Written.{request_bytes_of}
use Rattle.opg_replies.specs.Reply.{read_of, read_shown}

-- bytes as two hexadecimal digits each, a space between them
abbrev pub digit : ℕ → ℕ
digit c = pick (ltb c 58) (c - 48) (c - 55)

unfoldable pub hex_of : List ℕ → List ℕ
hex_of [] = []
hex_of (a ∷ []) = []
hex_of (a ∷ b ∷ []) = (digit a * 16 + digit b) ∷ []
hex_of (a ∷ b ∷ c ∷ s) = (digit a * 16 + digit b) ∷ hex_of s

abbrev pub hex : String → List ℕ
hex t = hex_of (bytes t)

-- ---- the gauge: its state, the memory lent, the request, the number and the reply

pub record Case : Type 0 where
  pub gauge : Gauge
  pub room : ℕ
  pub request : List ℕ
  pub number : ℕ
  pub reply : List ℕ

abbrev pub answers : Gauge → String → ℕ → String → Case
answers g request number reply = record { gauge = g; room = 32; request = hex request; number = number; reply = hex reply }

-- a gauge whose bench set the pressure, and one that was asked something before
abbrev pub measuring : ℕ → Gauge
measuring w = (benched start (Bits w)).gauge

abbrev pub out : Gauge
out = (benched start Unavailable).gauge

abbrev pub then : Gauge → String → Gauge
then g request = after_of 32 g (hex request)

abbrev pub cases : List Case
cases =
    -- the marked pressure query, at the start
    answers start "00 00 20 00 06 01 36 B0 00 00 00 21 D5" 20 "00 0B 21 00 09 02 36 B0 00 00 00 00 00 00 75 A5"
    -- the marked write done
    ∷ answers start "00 00 20 00 0B 03 55 F0 00 00 01 00 00 00 64 00 CD B5" 20 "00 0B 21 00 05 04 55 F0 00 00 E7 0C"
    -- wrong CRC is answered, not silent
    ∷ answers start "00 00 20 00 06 01 36 B0 00 00 00 21 D4" 1100 "00 0B 21 00 06 02 FF FF 00 00 64 9E 12"
    -- wrong CRC of a write is answered with CMD 4
    ∷ answers start "00 00 20 00 06 03 36 B1 00 00 02 DE 62" 1100 "00 0B 21 00 06 04 FF FF 00 00 64 64 0A"
    -- reserved bits are silent
    ∷ answers start "00 00 22 00 06 01 36 B0 00 00 00 DB 4E" 22 ""
    -- a gauge's own ID is silent
    ∷ answers start "00 0B 20 00 06 01 36 B0 00 00 00 61 C8" 23 ""
    -- version before acknowledge
    ∷ answers start "00 00 31 00 06 01 36 B0 00 00 00 48 67" 1104 "00 0B 21 00 06 02 FF FF 00 00 68 F2 D8"
    -- acknowledge before CMD
    ∷ answers start "00 00 21 00 06 02 36 B0 00 00 00 A1 94" 1102 "00 0B 21 00 06 02 FF FF 00 00 66 8C 31"
    -- CMD 2 is 101
    ∷ answers start "00 00 20 00 06 02 36 B0 00 00 00 5C D9" 1101 "00 0B 21 00 06 02 FF FF 00 00 65 17 03"
    -- unknown PID before access, IDX and length
    ∷ answers start "00 00 20 00 06 03 36 B2 00 01 01 50 EC" 1003 "00 0B 21 00 06 04 FF FF 00 00 03 DD 1D"
    -- access before IDX
    ∷ answers start "00 00 20 00 06 03 36 B0 00 01 01 26 D5" 1001 "00 0B 21 00 06 04 FF FF 00 00 01 CF 3E"
    -- IDX before data length
    ∷ answers start "00 00 20 00 05 01 36 B0 00 01 17 A9" 1002 "00 0B 21 00 06 02 FF FF 00 00 02 AE 14"
    -- data length before value
    ∷ answers start "00 00 20 00 07 03 36 B1 00 00 05 05 0B A4" 1004 "00 0B 21 00 06 04 FF FF 00 00 04 62 69"
    -- value before unavailable
    ∷ answers out "00 00 20 00 06 01 36 B0 00 00 05 8C 82" 1002 "00 0B 21 00 06 02 FF FF 00 00 02 AE 14"
    -- unavailable
    ∷ answers out "00 00 20 00 06 01 36 B0 00 00 00 21 D5" 1000 "00 0B 21 00 06 02 FF FF 00 00 00 BC 37"
    -- a unit of 0 cannot be written
    ∷ answers start "00 00 20 00 06 03 36 B1 00 00 00 CC C1" 1002 "00 0B 21 00 06 04 FF FF 00 00 02 54 0C"
    -- mode 0 does not look at the rest
    ∷ answers start "00 00 20 00 0B 03 55 F0 00 00 00 09 09 09 09 FF AA 5F" 20 "00 0B 21 00 05 04 55 F0 00 00 E7 0C"
    -- mode 0 keeps spectra and gas
    ∷ answers (then start "00 00 20 00 0B 03 55 F0 00 00 01 00 00 00 64 07 72 C1") "00 00 20 00 0B 03 55 F0 00 00 00 00 00 00 00 00 D3 B3" 20 "00 0B 21 00 05 04 55 F0 00 00 E7 0C"
    -- mode 0 still needs six bytes
    ∷ answers start "00 00 20 00 06 03 55 F0 00 00 00 BF 77" 1004 "00 0B 21 00 06 04 FF FF 00 00 04 62 69"
    -- mode 1, gas 11
    ∷ answers start "00 00 20 00 0B 03 55 F0 00 00 01 00 00 00 01 0B F3 10" 1002 "00 0B 21 00 06 04 FF FF 00 00 02 54 0C"
    -- Torr of 7 mbar: one f32 product
    ∷ answers (measuring 0x40e00000) "00 00 20 00 06 01 36 B0 00 00 02 33 F6" 20 "00 0B 21 00 09 02 36 B0 00 00 40 A8 03 8A ED 7B"
    -- micron of 0.3 mbar: one product, not Torr x 1000
    ∷ answers (measuring 0x3e99999a) "00 00 20 00 06 01 36 B0 00 00 04 05 93" 20 "00 0B 21 00 09 02 36 B0 00 00 43 61 04 BE 0B F2"
    -- unit 0 uses the master unit
    ∷ answers (then (measuring 0x447d5000) "00 00 20 00 06 03 36 B1 00 00 03 57 F3") "00 00 20 00 06 01 36 B0 00 00 00 21 D5" 20 "00 0B 21 00 09 02 36 B0 00 00 47 C5 E6 80 85 EE"
    -- room first
    ∷ record { gauge = start; room = 31; request = hex "00 00 20 00 06 01 36 B0 00 00 00 21 D5"; number = 21; reply = [] }
    -- 129 bytes
    ∷ record { gauge = start; room = 32; request = hex "00 00 20 00 7A 01 36 B0 00 00" ++ replicate 117 0 ++ hex "16 8F"; number = 22; reply = [] }
    -- 128 bytes
    ∷ record { gauge = start; room = 32; request = hex "00 00 20 00 79 01 36 B0 00 00" ++ replicate 116 0 ++ hex "A1 0B"; number = 1004; reply = hex "00 0B 21 00 06 02 FF FF 00 00 04 98 71" }
    ∷ []

abbrev pub right : Case → Bool
right c =
    let a = answer_of c.room c.gauge c.request in
    eqb a.number c.number && same_text a.reply c.reply

-- mode 1 with 100 spectra and gas 7, and then mode 0: spectra and gas stay
abbrev pub switched : Gauge
switched = then (then start "00 00 20 00 0B 03 55 F0 00 00 01 00 00 00 64 07 72 C1") "00 00 20 00 0B 03 55 F0 00 00 00 00 00 00 00 00 D3 B3"

-- ---- the reply reader: the request, the reply's bytes, and the number and values of what is read

pub record Told : Type 0 where
  pub request : Request
  pub reply : List ℕ
  pub read : List ℕ

abbrev pub reads : Request → String → List ℕ → Told
reads r reply read = record { request = r; reply = hex reply; read = read }

abbrev pub told : List Told
told =
    -- the marked write done
    reads (DetectionOn 100 0) "00 0B 21 00 05 04 55 F0 00 00 E7 0C" (20 ∷ 3 ∷ [])
    -- printed in document 003
    ∷ reads (ReadPressure 0) "00 0B 21 00 09 02 36 B0 00 00 44 BB 7F FE 37 0F" (20 ∷ 1 ∷ 0x44bb7ffe ∷ [])
    -- infinity
    ∷ reads (ReadPressure 0) "00 0B 21 00 09 02 36 B0 00 00 7F 80 00 00 25 41" (28 ∷ [])
    -- not a number: test the bits before making an f32 of them
    ∷ reads (ReadPressure 0) "00 0B 21 00 09 02 36 B0 00 00 7F C0 00 01 DA 56" (28 ∷ [])
    -- -1000: finite, so accepted (the bench limits are named for the V2 reader only)
    ∷ reads (ReadPressure 0) "00 0B 21 00 09 02 36 B0 00 00 C4 7A 00 00 E2 1F" (20 ∷ 1 ∷ 0xc47a0000 ∷ [])
    -- negative zero is finite
    ∷ reads (ReadPressure 0) "00 0B 21 00 09 02 36 B0 00 00 80 00 00 00 1B 88" (20 ∷ 1 ∷ 0x80000000 ∷ [])
    -- pressure unavailable
    ∷ reads (ReadPressure 0) "00 0B 21 00 06 02 FF FF 00 00 00 BC 37" (20 ∷ 4 ∷ 0 ∷ [])
    -- an error byte that no list has
    ∷ reads (ReadPressure 0) "00 0B 21 00 06 02 FF FF 00 00 32 2D 25" (20 ∷ 4 ∷ 50 ∷ [])
    -- an error without its byte
    ∷ reads (ReadPressure 0) "00 0B 21 00 05 02 FF FF 00 00 2B 03" (27 ∷ [])
    -- 4 answers a write
    ∷ reads (ReadPressure 0) "00 0B 21 00 09 04 36 B0 00 00 00 00 00 00 6A 01" (26 ∷ [])
    -- another PID: a unit never yields a pressure
    ∷ reads (ReadPressure 0) "00 0B 21 00 06 02 36 B1 00 00 01 D3 84" (26 ∷ [])
    ∷ reads ReadUnit "00 0B 21 00 06 02 36 B1 00 00 00 5A 95" (28 ∷ [])
    ∷ reads (WriteUnit 2) "00 0B 21 00 05 04 36 B1 00 00 64 EC" (20 ∷ 3 ∷ [])
    -- acknowledge clear
    ∷ reads (ReadPressure 0) "00 0B 20 00 09 02 36 B0 00 00 00 00 00 00 20 20" (25 ∷ [])
    -- reserved bits come first
    ∷ reads (ReadPressure 0) "00 0B 23 00 09 02 36 B0 00 00 00 00 00 00 CE A7" (22 ∷ [])
    ∷ []

abbrev pub well : Told → Bool
well t = same_text (read_shown (read_of t.request t.reply)) t.read

-- ---- the writer: requests and their bytes

pub record Sending : Type 0 where
  pub request : Request
  pub frame : List ℕ

abbrev pub sends : Request → String → Sending
sends r frame = record { request = r; frame = hex frame }

abbrev pub sendings : List Sending
sendings =
    sends (ReadPressure 0) "00 00 20 00 06 01 36 B0 00 00 00 21 D5"
    ∷ sends ReadUnit "00 00 20 00 05 01 36 B1 00 00 42 E2"
    ∷ sends (WriteUnit 2) "00 00 20 00 06 03 36 B1 00 00 02 DE E2"
    ∷ sends DetectionOff "00 00 20 00 0B 03 55 F0 00 00 00 00 00 00 00 00 D3 B3"
    ∷ sends (DetectionOn 100 0) "00 00 20 00 0B 03 55 F0 00 00 01 00 00 00 64 00 CD B5"
    ∷ []

abbrev pub fine : Sending → Bool
fine t = same_text (request_bytes_of t.request) t.frame
