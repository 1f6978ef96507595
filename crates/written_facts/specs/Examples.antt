-- Document 01, "The master's side", and document 02, "Hot cathode gauges": worked cases of the text writer, what it answers and writes.
use Rattle.std.specs.Prelude.{Bool, true, false, ◌&&◌, List, [], ◌∷◌, ◌++◌, ℕ, eqb}
use Prim.Native.String.{String}
use Rattle.buffer.specs.Byte.{same_text}
use Rattle.buffer.specs.Quoted.{bytes}
use Rattle.buffer.specs.Answer.{Answer}
use Rattle.decimal.specs.declared.Number.{Number}
use Rattle.sources.specs.declared.Sources.{Sources}
use Rattle.sources.specs.declared.Profile.{Profile}
use Rattle.sources.specs.declared.Profile.TheVariants.{Standard, Vsh, Vsm}
use Rattle.settings.specs.Limits.{limits_of}
use Rattle.settings.specs.declared.Transition.TheVariants.{Direct, Between}
use Rattle.settings.specs.declared.Key.TheVariants.{SM}
use Rattle.settings.specs.declared.Setting.TheVariants.{Address, Factor, Control, Cathode, Switch, Stream}
use Rattle.requests.specs.declared.Command.TheVariants.{MV, Of}
use Rattle.requests.specs.declared.RequestV2.{RequestV2}
use Rattle.requests.specs.declared.RequestV2.TheVariants.{Read, Restore, Set}
use Rattle.requests.specs.declared.RequestV1.{RequestV1}
use Rattle.requests.specs.declared.RequestV1.TheVariants.{Measure, Unlock, SetFactor}
use Rattle.request_writer.specs.Written.{request_written_v2, request_written_v1}

-- a case: the writer's answer, and what it should be
pub record Case : Type 0 where
  pub answer : Answer
  pub number : ℕ
  pub text : List ℕ

abbrev pub refused : Answer → ℕ → Case
refused a k = record { answer = a; number = k; text = [] }

abbrev pub sends : Answer → String → Case
sends a t = record { answer = a; number = 0; text = bytes t ++ (13 ∷ []) }

-- the number mantissa * 10 ^ place / 10 ^ 14
abbrev pub number : ℕ → ℕ → Number
number m p = record { negative = false; mantissa = m; place = p }

abbrev pub list : ℕ → List ℕ → Sources
list n codes = record { codes = codes; count = n }

abbrev pub none : Sources
none = list 0 (0 ∷ 0 ∷ 0 ∷ 0 ∷ 0 ∷ 0 ∷ 0 ∷ [])

-- a V2 request to address 1, with 109 bytes lent; the writer is told the profile
abbrev pub asks_on : Profile → RequestV2 → Answer
asks_on p r = request_written_v2 (limits_of p) 109 1 r none

abbrev pub asks : RequestV2 → Answer
asks r = asks_on Standard r

abbrev pub streams_on : Profile → Bool → ℕ → List ℕ → Answer
streams_on p on n codes = request_written_v2 (limits_of p) 109 1 (Set (Stream on)) (list n codes)

abbrev pub streams : Bool → ℕ → List ℕ → Answer
streams on n codes = streams_on Standard on n codes

abbrev pub sevens : List ℕ
sevens = 7 ∷ 7 ∷ 7 ∷ 7 ∷ 7 ∷ 7 ∷ 7 ∷ []

abbrev pub asks_v1 : RequestV1 → Answer
asks_v1 r = request_written_v1 109 1 r

abbrev pub cases : List Case
cases =
    -- 109 bytes must be lent, for V1 too
    refused (request_written_v2 (limits_of Standard) 108 1 (Read MV) none) 1
    ∷ sends (asks (Read MV)) "0010MV00D"
    ∷ refused (request_written_v1 108 1 Measure) 1
    -- the address is 1 to 999, checked before the access
    ∷ refused (request_written_v2 (limits_of Standard) 109 0 (Read MV) none) 4
    ∷ sends (request_written_v2 (limits_of Standard) 109 999 (Read MV) none) "9990MV00^"
    ∷ refused (request_written_v2 (limits_of Standard) 109 1000 (Restore (Of SM)) none) 4
    ∷ refused (asks (Restore (Of SM))) 9
    ∷ refused (asks (Restore MV)) 9
    -- another digit, and no digit
    ∷ refused (asks (Set (Control 2))) 11
    ∷ refused (asks (Set (Control 10))) 10
    -- the writer knows no CM
    ∷ sends (asks (Set (Cathode 0))) "0012CC010Z"
    ∷ refused (asks (Set (Address 17))) 11
    ∷ sends (asks (Set (Address 16))) "0012DA03016B"
    -- two decimals
    ∷ sends (asks (Set (Factor 222))) "0012C1042.22_"
    ∷ sends (asks (Set (Factor 20))) "0012C1040.20["
    ∷ refused (asks (Set (Factor 801))) 11
    ∷ sends (asks (Set (Switch (Between (number 500000 9) (number 150000 10))))) "0012ST10F5e0T1.5e1Y"
    -- the factory value, on the lower limit
    ∷ sends (asks (Set (Switch (Direct (number 100000 9))))) "0012ST04D1e0X"
    -- the same values in other forms are sent alike
    ∷ sends (asks (Set (Switch (Between (number 5 14) (number 15 14))))) "0012ST10F5e0T1.5e1Y"
    -- seven digits needed, before RANGE
    ∷ refused (asks (Set (Switch (Between (number 1234567 8) (number 15 14))))) 10
    ∷ refused (asks (Set (Switch (Between (number 1234567 8) (number 25 14))))) 10
    -- RANGE before LOGIC
    ∷ refused (asks (Set (Switch (Between (number 15 14) (number 5 14))))) 12
    ∷ refused (asks (Set (Switch (Between (number 25 14) (number 5 14))))) 11
    -- SM
    ∷ refused (streams false 2 sevens) 10
    ∷ refused (streams true 1 (3 ∷ 0 ∷ 0 ∷ 0 ∷ 0 ∷ 0 ∷ 0 ∷ [])) 11
    -- a repeat or a listed `0`; places past the count do not count
    ∷ refused (streams true 2 sevens) 12
    ∷ refused (streams true 1 (0 ∷ 7 ∷ 7 ∷ 7 ∷ 7 ∷ 7 ∷ 7 ∷ [])) 12
    ∷ refused (streams true 7 (1 ∷ 2 ∷ 6 ∷ 7 ∷ 8 ∷ 9 ∷ 1 ∷ [])) 12
    ∷ sends (streams true 1 sevens) "0012SM034D7u"
    -- after RANGE
    ∷ refused (streams true 2 (7 ∷ 3 ∷ 0 ∷ 0 ∷ 0 ∷ 0 ∷ 0 ∷ [])) 11
    ∷ refused (streams true 3 (7 ∷ 7 ∷ 3 ∷ 0 ∷ 0 ∷ 0 ∷ 0 ∷ [])) 11
    -- a count past the array
    ∷ refused (streams true 200 (1 ∷ 2 ∷ 6 ∷ 7 ∷ 8 ∷ 9 ∷ 0 ∷ [])) 12
    ∷ refused (streams true 200 (1 ∷ 2 ∷ 6 ∷ 7 ∷ 8 ∷ 9 ∷ 5 ∷ [])) 11
    ∷ sends (streams true 2 (7 ∷ 8 ∷ 0 ∷ 0 ∷ 0 ∷ 0 ∷ 0 ∷ [])) "0012SM064D7DT2B"
    ∷ sends (streams true 6 (1 ∷ 2 ∷ 6 ∷ 7 ∷ 8 ∷ 9 ∷ 0 ∷ [])) "0012SM154D1D2D6D7DT2DT6u"
    -- the hot cathode gauges: no form of two numbers, whatever they are, and limits of their own
    ∷ refused (asks_on Vsh (Set (Switch (Between (number 5 14) (number 15 14))))) 10
    ∷ refused (asks_on Vsh (Set (Switch (Between (number 1 11) (number 2 11))))) 10
    ∷ refused (asks_on Vsh (Set (Switch (Direct (number 1 14))))) 11
    ∷ sends (asks_on Vsh (Set (Switch (Direct (number 1 11))))) "0012ST05D1e-3I"
    ∷ refused (asks_on Vsh (Set (Switch (Direct (number 1234567 5))))) 10
    ∷ sends (asks_on Vsh (Set (Switch (Direct (number 1 12))))) "0012ST05D1e-2H"
    ∷ refused (asks_on Vsm (Set (Switch (Direct (number 1 12))))) 11
    ∷ sends (asks_on Vsm (Set (Switch (Direct (number 2 11))))) "0012ST05D2e-3J"
    ∷ refused (asks_on Standard (Set (Switch (Direct (number 1 11))))) 11
    -- and sources of their own
    ∷ sends (streams_on Vsh true 2 (1 ∷ 8 ∷ 0 ∷ 0 ∷ 0 ∷ 0 ∷ 0 ∷ [])) "0012SM064D1DT2|"
    ∷ refused (streams_on Vsh true 1 (7 ∷ 0 ∷ 0 ∷ 0 ∷ 0 ∷ 0 ∷ 0 ∷ [])) 11
    ∷ refused (streams_on Vsh true 2 (0 ∷ 7 ∷ 0 ∷ 0 ∷ 0 ∷ 0 ∷ 0 ∷ [])) 11
    ∷ refused (streams_on Vsh true 2 (1 ∷ 1 ∷ 0 ∷ 0 ∷ 0 ∷ 0 ∷ 0 ∷ [])) 12
    ∷ refused (streams_on Vsm true 1 (2 ∷ 0 ∷ 0 ∷ 0 ∷ 0 ∷ 0 ∷ 0 ∷ [])) 11
    -- V1: no lock on this side
    ∷ refused (asks_v1 (SetFactor 900)) 11
    ∷ refused (asks_v1 (SetFactor 1000000)) 10
    ∷ sends (asks_v1 (SetFactor 100)) "001c000100U"
    ∷ sends (asks_v1 Unlock) "001c1e"
    ∷ []

abbrev pub right : Case → Bool
right c = eqb c.answer.number c.number && same_text c.answer.reply c.text
