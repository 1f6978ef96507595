-- Document 01, "The master's side": worked cases of the V1 reply reader.
use Rattle.std.specs.Prelude.{Bool, List, [], ◌∷◌, ◌++◌, ℕ}
use Prim.Native.String.{String}
use Rattle.buffer.specs.Byte.{same_text}
use Rattle.buffer.specs.Quoted.{bytes}
use Rattle.settings.specs.declared.PressureUnit.TheVariants.{Torr}
use Rattle.requests.specs.declared.RequestV1.{RequestV1}
use Rattle.requests.specs.declared.RequestV1.TheVariants.{Measure, ReadFactor, Unlock, SetFactor, ReadUnit, SetUnit}
use Rattle.replies_v1.specs.ReplyV1.{read_v1, read_shown_v1}

-- a request to address 1, the bytes that come back, and what they are read as
pub record Case : Type 0 where
  pub request : RequestV1
  pub reply : List ℕ
  pub shown : List ℕ

-- the reply as a text, and then CR
abbrev pub reads : RequestV1 → String → List ℕ → Case
reads request reply shown = record { request = request; reply = bytes reply ++ (13 ∷ []); shown = shown }

abbrev pub error : String → List ℕ
error text = 0 ∷ 7 ∷ bytes text

abbrev pub cases : List Case
cases =
    -- 982.1 mbar
    reads Measure "001M982122V" (0 ∷ 1 ∷ 9821 ∷ 22 ∷ [])
    -- under range, over range
    ∷ reads Measure "001M000000~" (0 ∷ 2 ∷ [])
    ∷ reads Measure "001M999999t" (0 ∷ 3 ∷ [])
    -- a mantissa below 1000
    ∷ reads Measure "001M099920[" (10 ∷ [])
    -- 10 comes before the exponent's 11
    ∷ reads Measure "001M000099P" (10 ∷ [])
    -- exponent 98, and not 999999
    ∷ reads Measure "001M999998s" (11 ∷ [])
    -- exponent 10
    ∷ reads Measure "001M100010@" (11 ∷ [])
    -- exponent 30 is sent for 9.9995e9 mbar
    ∷ reads Measure "001M100030B" (0 ∷ 1 ∷ 1000 ∷ 30 ∷ [])
    ∷ reads Measure "001M500030F" (0 ∷ 1 ∷ 5000 ∷ 30 ∷ [])
    -- the digit 1 is an error for `M` only
    ∷ reads Measure "001M1O" (error "ERROR1")
    ∷ reads ReadFactor "001C1E" (10 ∷ [])
    -- any letter with `_LOGIC` or `_RANGE`
    ∷ reads Measure "001M_RANGEj" (error "_RANGE")
    -- letter N, and yet not 14
    ∷ reads ReadUnit "001NO_DEF\\" (error "NO_DEF")
    -- letter N and not `NO_DEF`
    ∷ reads ReadUnit "001NO_DEXn" (14 ∷ [])
    ∷ reads ReadUnit "001C000100u" (14 ∷ [])
    ∷ reads ReadFactor "001C000801}" (11 ∷ [])
    ∷ reads ReadFactor "001C000100u" (0 ∷ 4 ∷ 100 ∷ [])
    -- a set reply has to repeat the request: 10 and not 11
    ∷ reads (SetFactor 200) "001c000201W" (10 ∷ [])
    -- the echo of an unlock is not the echo of this write
    ∷ reads (SetFactor 200) "001c1e" (10 ∷ [])
    ∷ reads Unlock "001c1e" (0 ∷ 6 ∷ [])
    -- a V2 frame, also where its checksum is wrong
    ∷ reads ReadUnit "0011MV031e0N" (2 ∷ [])
    ∷ reads ReadUnit "0011MV031e0O" (2 ∷ [])
    -- nothing but CR
    ∷ reads Measure "" (2 ∷ [])
    -- a wrong checksum, address 000, three characters that are no digits, another address
    ∷ reads Measure "001M100020B" (3 ∷ [])
    ∷ reads Measure "000M100020@" (4 ∷ [])
    ∷ reads Measure "01AM100020R" (4 ∷ [])
    ∷ reads Measure "002M100020B" (5 ∷ [])
    -- the lowest exponent, and five digits
    ∷ reads Measure "001M100011A" (0 ∷ 1 ∷ 1000 ∷ 11 ∷ [])
    ∷ reads Measure "001M12345]" (10 ∷ [])
    -- what a locked gauge answers
    ∷ reads (SetFactor 200) "001c_LOGICA" (error "_LOGIC")
    ∷ reads ReadFactor "001C000019~" (11 ∷ [])
    ∷ reads ReadFactor "001C000020v" (0 ∷ 4 ∷ 20 ∷ [])
    ∷ reads ReadUnit "001U000002H" (0 ∷ 5 ∷ 2 ∷ [])
    ∷ reads ReadUnit "001U000003I" (11 ∷ [])
    ∷ reads (SetUnit Torr) "001u000001g" (0 ∷ 6 ∷ [])
    ∷ []

abbrev pub right : Case → Bool
right c = same_text (read_shown_v1 (read_v1 1 c.request c.reply)) c.shown
