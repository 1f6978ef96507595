-- Document 01, "Examples to be proved (marked)": "Proved as a single statement over a list of cases".
use Rattle.std.specs.Prelude.{Bool, List, [], ◌∷◌, ◌++◌, ℕ, ◌+◌, ◌-◌, length, take, Err, Ok, Result}
use Prim.Native.String.{String}
use Rattle.buffer.specs.Byte.{same_text}
use Rattle.buffer.specs.First.{pick}
use Rattle.buffer.specs.Quoted.{bytes}
use Rattle.frames.specs.Checksum.{closed}
use Rattle.sources.specs.declared.Profile.TheVariants.{Standard}
use Rattle.settings.specs.Limits.{ProfileLimits, limits_of}
use Rattle.settings.specs.declared.Key.TheVariants.{C1}
use Rattle.readings.specs.declared.Bench.TheVariants.{Reads}
use Rattle.readings_facts.specs.Examples.{decimals}
use Rattle.requests.specs.Command.{command_text}
use Rattle.requests.specs.declared.Command.TheVariants.{Of}
use Rattle.requests.specs.declared.RequestV1.TheVariants.{Measure, ReadFactor}
use Rattle.requests.specs.declared.RequestV2.TheVariants as v2
use Rattle.request_texts.specs.RequestText.{access_of, command_in, letter_v1}
use Rattle.request_reader.specs.Decoded.{request_of}
use Rattle.request_reader.specs.declared.Request.{Request}
use Rattle.request_reader.specs.declared.Request.TheVariants as asks
use Rattle.replies_v1.specs.ReplyV1.{read_v1, read_shown_v1}
use Rattle.replies_v2.specs.ReplyV2.{read_v2, read_shown_v2}
use Rattle.line.specs.Line.{values_of, line_answer}
use Rattle.gauge_rules.specs.State.{State, fresh}
use Rattle.gauge_rules.specs.BenchIn.{bench_in}
use Rattle.gauge_table.specs.After.{answer_of as tableAnswer, next_of, benched}
use Rattle.opg_commands.specs.Request.{request_pid, request_cmd, request_data}
use Rattle.opg_commands.specs.declared.Request.TheVariants as command
use Rattle.opg_request_reader.specs.Asked.{Asked, asked_of, denied_number}
use Rattle.opg_replies.specs.Reply.{read_of, read_shown}
use Rattle.opg_facts.specs.Examples.{hex}
use Rattle.refusals.specs.Number.{refusal_number}
use Rattle.refusals.specs.declared.Refusal.{Refusal}

-- ---- what is made of the bytes

-- a text request that is read: 0, its address, its access code and command; or the refusal's number
abbrev pub shown : Result Request Refusal → List ℕ
shown (Ok (asks.V2 address r)) = 0 ∷ address ∷ access_of r ∷ command_text (command_in r)
shown (Ok (asks.V1 address r)) = 0 ∷ address ∷ letter_v1 r ∷ []
shown (Err k) = refusal_number k ∷ []

-- an OPG request that is read: 20, CMD, PID and data; or the refusal's number, which is 1000 + e for the error byte e
abbrev pub opg_shown : Asked → List ℕ
opg_shown (Ok r) = 20 ∷ request_cmd r ∷ request_pid r ∷ request_data r
opg_shown (Err d) = denied_number d ∷ []

-- document 01's gauge, at factory settings
abbrev pub limits : ProfileLimits
limits = limits_of Standard

abbrev pub factory_gauge : State
factory_gauge = fresh limits

-- what it sends
abbrev pub sent : String → List ℕ
sent request = (tableAnswer factory_gauge 64 (bytes request)).reply

-- the line of a gauge that reads 973.4 mbar, after a request
abbrev pub line_after : String → List ℕ
line_after request =
    let g = next_of (benched factory_gauge (bench_in limits (Reads 0 (decimals 9734 1)))) 64 (bytes request) in
    (line_answer limits 71 g.settings g.readings).reply

-- the data of a frameless line, whose end is their checksum and CR; of other bytes nothing
abbrev pub line_data : List ℕ → List ℕ
line_data s =
    let d = take (length s - 2) s in
    pick (same_text (closed d) s) d []

-- a request's number at factory settings, and how many values the line then has
abbrev pub values : List ℕ → List ℕ
values s =
    let g = next_of factory_gauge 64 s in
    (tableAnswer factory_gauge 64 s).number ∷ length (values_of g.settings.list g.readings) ∷ []

-- ---- the rows of the table

-- the printed bytes, what is made of them, and what that has to be
pub record Row : Type 0 where
  pub printed : List ℕ
  pub made : List ℕ → List ℕ
  pub meant : List ℕ

abbrev pub row : String → (List ℕ → List ℕ) → List ℕ → Row
row text made meant = record { printed = bytes text; made = made; meant = meant }

abbrev pub rows : List Row
rows =
    -- read MV
    row "0010MV00D\r" (λ s. shown (request_of limits s)) (0 ∷ 1 ∷ bytes "0MV")
    -- 982.1 mbar
    ∷ row "001M982122V\r" (λ s. read_shown_v1 (read_v1 1 Measure s)) (0 ∷ 1 ∷ 9821 ∷ 22 ∷ [])
    -- frameless line: it is sent, and its data are 973.4 mbar as written
    ∷ row "9.734e2\\\r" (λ s. line_after "0012SM014x\r" ++ line_data s) (bytes "9.734e2\\\r" ++ bytes "9.734e2")
    -- three values
    ∷ row "0012SM064D7DT2B\r" values (0 ∷ 3 ∷ [])
    -- C1 factory reply: it is sent, and read as the setting C1 of 1.00
    ∷ row "0011C1041.00Y\r" (λ s. sent "0010C100U\r" ++ read_shown_v2 (read_v2 limits 1 (v2.Read (Of C1)) s)) (bytes "0011C1041.00Y\r" ++ 0 ∷ 7 ∷ bytes "C11.00")
    -- LOGIC at factory
    ∷ row "0012CC010Z\r" (λ s. (tableAnswer factory_gauge 64 s).number ∷ []) (12 ∷ [])
    -- V1 reply, factor 1.00: it is sent, and read as 100 hundredths
    ∷ row "001C000100u\r" (λ s. sent "001C1E\r" ++ read_shown_v1 (read_v1 1 ReadFactor s)) (bytes "001C000100u\r" ++ 0 ∷ 4 ∷ 100 ∷ [])
    -- OPG pressure query: a read of PID 14000 in the master unit
    ∷ record { printed = hex "00 00 20 00 06 01 36 B0 00 00 00 21 D5"; made = λ s. opg_shown (asked_of s); meant = 20 ∷ 1 ∷ 14000 ∷ 0 ∷ [] }
    -- OPG write done
    ∷ record { printed = hex "00 0B 21 00 05 04 55 F0 00 00 E7 0C"; made = λ s. read_shown (read_of (command.DetectionOn 100 0) s); meant = 20 ∷ 3 ∷ [] }
    ∷ []

abbrev pub right : Row → Bool
right r = same_text (r.made r.printed) r.meant
