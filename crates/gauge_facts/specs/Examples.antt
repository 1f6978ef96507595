-- Document 01's rules of the text gauge, and document 02's profiles, at work: worked cases, their numbers and replies taken from an independent
-- reading of the papers.
use Rattle.std.specs.Prelude.{Bool, false, List, [], ◌∷◌, ◌++◌, map, ℕ}
use Prim.Native.String.{String}
use Rattle.buffer.specs.Answer.{Answer, silent}
use Rattle.buffer.specs.Quoted.{bytes}
use Rattle.sources.specs.declared.Profile.{Profile}
use Rattle.sources.specs.declared.Profile.TheVariants.{Standard, Vsh, Vsm}
use Rattle.settings.specs.Limits.{limits_of}
use Rattle.settings.specs.declared.Key.TheVariants.{DA, DU, C1, CM, CC, FC, ST, SM}
use Rattle.readings.specs.Bench.{bench_number}
use Rattle.readings.specs.declared.Bench.{Bench}
use Rattle.readings.specs.declared.Bench.TheVariants.{Reads, UnderRange, OverRange, Faulty, Status}
use Rattle.readings_facts.specs.Examples.{decimals, below, zeros}
use Rattle.requests.specs.declared.Command.TheVariants.{FS, Of}
use Rattle.line.specs.Line.{line_answer}
use Rattle.gauge_rules.specs.BenchIn.{bench_in}
use Rattle.gauge_rules.specs.RulesV2.{sent_text}
use Rattle.gauge_rules.specs.State.{State, fresh}
use Rattle.gauge_table.specs.After.{answer_of as tableAnswer, next_of, benched}

-- a call that reaches a text gauge: a request with so much memory lent, a bench setting, the stream line with so much memory lent
pub data Call : Type 0 where
  Request : ℕ → List ℕ → Call
  SetBench : Bench → Call
  Line : ℕ → Call

abbrev pub lending : ℕ → String → Call
lending room text = Request room (bytes text)

abbrev pub ask : String → Call
ask text = lending 64 text

abbrev pub answered : State → Call → Answer
answered g (Request room s) = tableAnswer g room s
answered g (SetBench b) = silent (bench_number (bench_in g.limits b))
answered g (Line room) = line_answer g.limits room g.settings g.readings

abbrev pub after : State → Call → State
after g (Request room s) = next_of g room s
after g (SetBench b) = benched g (bench_in g.limits b)
after g (Line room) = g

-- ---- a call to a gauge that was fresh before the calls given

pub record Case : Type 0 where
  pub before : List Call
  pub call : Call
  pub number : ℕ
  pub reply : List ℕ

abbrev pub then : List Call → String → ℕ → String → Case
then before text number reply = record { before = before; call = ask text; number = number; reply = bytes reply }

abbrev pub expect : String → ℕ → String → Case
expect text number reply = then [] text number reply

abbrev pub lent : ℕ → String → ℕ → String → Case
lent room text number reply = record { before = []; call = lending room text; number = number; reply = bytes reply }

abbrev pub line : List Call → ℕ → ℕ → String → Case
line before room number reply = record { before = before; call = Line room; number = number; reply = bytes reply }

unfoldable pub following : State → List Call → State
following g [] = g
following g (c ∷ cs) = following (after g c) cs

abbrev pub given : Case → Answer
given c = answered (following (fresh (limits_of Standard)) c.before) c.call

abbrev pub paper : Case → Answer
paper c = record { number = c.number; reply = c.reply }

-- the table's order
abbrev pub order : List Case
order =
    -- ROOM before everything, and 64 is enough
    lent 63 "0010MV00D\r" 1 ""
    ∷ lent 63 "" 1 ""
    ∷ expect "0010MV00D\r" 0 "0011MV031e0N\r"
    -- a checksum of 127, and a byte that cannot be one
    ∷ then (ask "0012DA03006A\r" ∷ []) "0060DU00\u{7f}\r" 0 "0061DU04mbarf\r"
    ∷ expect "0010MV00\u{80}\r" 3 ""
    -- SHAPE: CR at the checksum's place, 127 in the data, a V1 frame of 13 bytes, a V2 frame of nine, byte 3, no bytes
    ∷ expect "0010MV00\r\r" 2 ""
    ∷ expect "0012DU04mb\u{7f}r@\r" 2 ""
    ∷ expect "001c0000100E\r" 2 ""
    ∷ expect "0010MV0T\r" 2 ""
    ∷ expect "001 MV00t\r" 2 ""
    ∷ expect "" 2 ""
    -- ADDRESS: 000, and no digit; OTHER: 017
    ∷ expect "0000MV00C\r" 4 ""
    ∷ expect "0A10MV00U\r" 4 ""
    ∷ expect "0170MV00K\r" 5 ""
    -- LENGTH, before CODE, NO_DEF and ACCESS: not the data count, LEN that is no number, LEN 99
    ∷ expect "0019XX01[\r" 6 "0017XX06LENGTH`\r"
    ∷ expect "0010MV0AU\r" 6 "0017MV06LENGTHS\r"
    ∷ expect "0012SM994D7D\r" 6 "0017SM06LENGTHP\r"
    -- CODE before NO_DEF; NO_DEF before ACCESS and SYNTAX, and for `T6` and `mv`
    ∷ expect "0011XX00R\r" 7 "0017XX06_LOGICk\r"
    ∷ expect "0012MR0212g\r" 8 "0017MR06NO_DEFX\r"
    ∷ expect "0010T600k\r" 8 "0017T606NO_DEFC\r"
    ∷ expect "0010mv00D\r" 8 "0017mv06NO_DEF\\\r"
    -- ACCESS before SYNTAX; SM has no factory default
    ∷ expect "0012MV00F\r" 9 "0017MV06_LOGIC^\r"
    ∷ expect "0014SM00E\r" 9 "0017SM06_LOGIC[\r"
    -- SYNTAX: data with a default before LOGIC, data with a read before FAULT, none with a write
    ∷ expect "0014CC011]\r" 10 "0017CC06SYNTAX[\r"
    ∷ then (SetBench (Faulty 0) ∷ []) "0010MV011v\r" 10 "0017MV06SYNTAXx\r"
    ∷ expect "0012CC00i\r" 10 "0017CC06SYNTAX[\r"
    -- FAULT of the sensor asked for, and of no other
    ∷ then (SetBench (Faulty 8) ∷ []) "0010MV00D\r" 0 "0011MV031e0N\r"
    ∷ then (SetBench (Faulty 8) ∷ []) "0010T200g\r" 13 "0017T206ERROR1o\r"
    ∷ []

-- settings over V2
abbrev pub settings : List Case
settings =
    -- CC: another digit is RANGE before LOGIC, two digits SYNTAX; written and restored while CM is 1, LOGIC; CM back to 1 leaves CC alone
    expect "0012CC012\\\r" 11 "0017CC06_RANGE@\r"
    ∷ expect "0012CC0200K\r" 10 "0017CC06SYNTAX[\r"
    ∷ expect "0012CC011[\r" 12 "0017CC06_LOGICA\r"
    ∷ expect "0014CC00k\r" 12 "0017CC06_LOGICA\r"
    ∷ then (ask "0012CM010d\r" ∷ ask "0012CC010Z\r" ∷ ask "0012CM011e\r" ∷ []) "0010CC00g\r" 0 "0011CC010Y\r"
    -- FN: FC 3 counts as 0; FC 1 wins over FS 1
    ∷ then (ask "0012FC013`\r" ∷ SetBench (Status 1) ∷ []) "0010FN00u\r" 0 "0011FN012i\r"
    ∷ then (ask "0012FC011^\r" ∷ SetBench (Status 1) ∷ []) "0010FN00u\r" 0 "0011FN011h\r"
    -- DA: a write and a restore are answered from the old address, which is then another; RANGE, SYNTAX
    ∷ expect "0012DA03005@\r" 0 "0013DA00i\r"
    ∷ then (ask "0012DA03005@\r" ∷ []) "0010DA00f\r" 5 ""
    ∷ then (ask "0012DA03005@\r" ∷ []) "0054DA00n\r" 0 "0055DA00o\r"
    ∷ expect "0012DA03000{\r" 11 "0017DA06_RANGE\u{7f}\r"
    ∷ expect "0012DA0217R\r" 10 "0017DA06SYNTAXZ\r"
    -- DU: other texts are SYNTAX
    ∷ expect "0012DU04MBARb\r" 10 "0017DU06SYNTAXn\r"
    -- C1: 0.205 is RANGE, 1.500 and 80e-1 pass, seven digits are SYNTAX, 000001 passes, -0 and 0e99 are RANGE; 1e000 and 1e+0 are SYNTAX; no unlock
    ∷ expect "0012C1050.205Q\r" 11 "0017C106_RANGEn\r"
    ∷ expect "0012C1051.500P\r" 0 "0013C100X\r"
    ∷ expect "0012C10580e-1G\r" 0 "0013C100X\r"
    ∷ expect "0012C1081.000000^\r" 10 "0017C106SYNTAXI\r"
    ∷ expect "0012C1070000001o\r" 10 "0017C106SYNTAXI\r"
    ∷ then (ask "0012C1042.22_\r" ∷ []) "0012C106000001~\r" 0 "0013C100X\r"
    ∷ expect "0012C102-0v\r" 11 "0017C106_RANGEn\r"
    ∷ expect "0012C1040e99b\r" 11 "0017C106_RANGEn\r"
    ∷ expect "0012C1051e000B\r" 10 "0017C106SYNTAXI\r"
    ∷ expect "0012C1041e+0L\r" 10 "0017C106SYNTAXI\r"
    ∷ expect "0012C1038.0p\r" 0 "0013C100X\r"
    -- C1: `0.2` and `8` pass, `0.19` is RANGE
    ∷ expect "0012C1030.2j\r" 0 "0013C100X\r"
    ∷ expect "0012C1018P\r" 0 "0013C100X\r"
    ∷ expect "0012C1040.19c\r" 11 "0017C106_RANGEn\r"
    -- ST: F5T15 by value; F5T5 is LOGIC, F5T5.00001 passes; RANGE before LOGIC, SYNTAX before RANGE; modes and small letters are SYNTAX
    ∷ then (ask "0012ST02D2B\r" ∷ []) "0012ST05F5T15D\r" 0 "0013ST00K\r"
    ∷ expect "0012ST04F5T5R\r" 12 "0017ST06_LOGICb\r"
    ∷ expect "0012ST10F5T5.00001n\r" 0 "0013ST00K\r"
    ∷ expect "0012ST06F25T21t\r" 11 "0017ST06_RANGEa\r"
    ∷ expect "0012ST04F25TO\r" 10 "0017ST06SYNTAX|\r"
    ∷ expect "0012ST011|\r" 10 "0017ST06SYNTAX|\r"
    ∷ expect "0012ST02d5e\r" 10 "0017ST06SYNTAX|\r"
    -- ST: sent as written; 1 and 20 pass
    ∷ then (ask "0012ST11F005.0T15E0t\r" ∷ []) "0010ST00H\r" 0 "0011ST10F5e0T1.5e1X\r"
    ∷ expect "0012ST05F1T20|\r" 0 "0013ST00K\r"
    -- SM: no list; sources that stand once, six at most
    ∷ expect "0012SM014x\r" 0 "0013SM00D\r"
    ∷ expect "0012SM064D2DT2}\r" 0 "0013SM00D\r"
    ∷ expect "0012SM064D6DT6E\r" 0 "0013SM00D\r"
    ∷ expect "0012SM154D1D2D6D7DT2DT6u\r" 0 "0013SM00D\r"
    -- a repeat or a listed `0` is LOGIC, however many entries there are
    ∷ expect "0012SM054D7D7r\r" 12 "0017SM06_LOGIC[\r"
    ∷ expect "0012SM074DT2DT2R\r" 12 "0017SM06_LOGIC[\r"
    ∷ expect "0012SM034D0n\r" 12 "0017SM06_LOGIC[\r"
    ∷ expect "0012SM074D0D0D0Z\r" 12 "0017SM06_LOGIC[\r"
    ∷ expect "0012SM174D1D2D6D7DT2DT6D0k\r" 12 "0017SM06_LOGIC[\r"
    ∷ expect "0012SM174D1D2D6D7DT2DT6D1l\r" 12 "0017SM06_LOGIC[\r"
    ∷ expect "0012SM154D7D7D7D7D7D7D7Z\r" 12 "0017SM06_LOGIC[\r"
    ∷ expect "0012SM174D7D7D7D7D7D7D7D7W\r" 12 "0017SM06_LOGIC[\r"
    ∷ expect "0012SM994D7D7D7D7D7D7D7D7D7D7D7D7D7D7D7D7D7D7D7D7D7D7D7D7D7D7D7D7D7D7D7D7D7D7D7D7D7D7D7D7D7D7D7D7D7D7D7D7D7T\r" 12 "0017SM06_LOGIC[\r"
    -- after RANGE and SYNTAX
    ∷ expect "0012SM174D7D7D7D7D7D7D7D9Y\r" 11 "0017SM06_RANGEZ\r"
    ∷ expect "0012SM994D7D7D7D7D7D7D7D7D7D7D7D7D7D7D7D7D7D7D7D7D7D7D7D7D7D7D7D7D7D7D7D7D7D7D7D7D7D7D7D7D7D7D7D7D7D7D7D7D9V\r" 11 "0017SM06_RANGEZ\r"
    ∷ expect "0012SM074D7D7D3k\r" 11 "0017SM06_RANGEZ\r"
    ∷ expect "0012SM054D0D5i\r" 11 "0017SM06_RANGEZ\r"
    ∷ expect "0012SM064D7D07c\r" 11 "0017SM06_RANGEZ\r"
    ∷ expect "0012SM053D7D7q\r" 11 "0017SM06_RANGEZ\r"
    ∷ expect "0012SM064D7D7XK\r" 10 "0017SM06SYNTAXu\r"
    ∷ expect "0012SM050D7D7n\r" 10 "0017SM06SYNTAXu\r"
    ∷ expect "0012SM994D7D7D7D7D7D7D7D7D7D7D7D7D7D7D7D7D7D7D7D7D7D7D7D7D7D7D7D7D7D7D7D7D7D7D7D7D7D7D7D7D7D7D7D7D7D7D7D7DTq\r" 10 "0017SM06SYNTAXu\r"
    ∷ expect "0012SM184D7D7D7D7D7D7D7D7D\\\r" 10 "0017SM06SYNTAXu\r"
    -- `0` with a list is SYNTAX
    ∷ expect "0012SM030D7q\r" 10 "0017SM06SYNTAXu\r"
    ∷ expect "0012SM040D99m\r" 10 "0017SM06SYNTAXu\r"
    -- SM: other modes; sources that are none here; three digits
    ∷ expect "0012SM032D7s\r" 11 "0017SM06_RANGEZ\r"
    ∷ expect "0012SM022D{\r" 10 "0017SM06SYNTAXu\r"
    ∷ expect "0012SM044D07f\r" 11 "0017SM06_RANGEZ\r"
    ∷ expect "0012SM044DT1D\r" 11 "0017SM06_RANGEZ\r"
    ∷ expect "0012SM054D123V\r" 10 "0017SM06SYNTAXu\r"
    -- SM: sent as accepted; a request does not end it, and a refused one changes nothing
    ∷ then (ask "0012SM064DT6D1@\r" ∷ []) "0010SM00A\r" 0 "0011SM064DT6D1\u{7f}\r"
    ∷ then (ask "0012SM014x\r" ∷ ask "0010MV00D\r" ∷ []) "0010SM00A\r" 0 "0011SM014w\r"
    ∷ then (ask "0012SM064D7DT2B\r" ∷ ask "0012SM054D7D7r\r" ∷ ask "0012SM034D0n\r" ∷ []) "0010SM00A\r" 0 "0011SM064D7DT2A\r"
    ∷ []

-- V1, and readings
abbrev pub over_v1 : List Case
over_v1 =
    -- `c` while locked: LOGIC before RANGE, SYNTAX before LOGIC; unlocked: RANGE, and then locked again
    expect "001c000900]\r" 12 "001c_LOGICA\r"
    ∷ expect "001c00010x]\r" 10 "001c_LOGICA\r"
    ∷ then (ask "001c1e\r" ∷ []) "001c000900]\r" 11 "001c_RANGE@\r"
    ∷ then (ask "001c1e\r" ∷ ask "001c000900]\r" ∷ []) "001c000200V\r" 12 "001c_LOGICA\r"
    -- what ends the unlock: a read, an unknown letter; and what does not: V2 requests, another address, ROOM, CHECKSUM, `c1` again
    ∷ then (ask "001c1e\r" ∷ ask "001M^\r" ∷ []) "001c000200V\r" 12 "001c_LOGICA\r"
    ∷ then (ask "001c1e\r" ∷ ask "001Te\r" ∷ []) "001c000200V\r" 12 "001c_LOGICA\r"
    ∷ then (ask "001c1e\r" ∷ ask "0012C1042.22_\r" ∷ ask "0010MV00D\r" ∷ []) "001c000200V\r" 0 "001c000200V\r"
    ∷ then (ask "001c1e\r" ∷ ask "002M_\r" ∷ []) "001c000200V\r" 0 "001c000200V\r"
    ∷ then (ask "001c1e\r" ∷ lending 63 "001M^\r" ∷ []) "001c000200V\r" 0 "001c000200V\r"
    ∷ then (ask "001c1e\r" ∷ ask "001M_\r" ∷ []) "001c000200V\r" 0 "001c000200V\r"
    ∷ then (ask "001c1e\r" ∷ ask "001c1e\r" ∷ []) "001c000200V\r" 0 "001c000200V\r"
    -- `c2` ends it, and so does a write; a change of the address does not
    ∷ then (ask "001c1e\r" ∷ ask "001c2f\r" ∷ []) "001c000200V\r" 12 "001c_LOGICA\r"
    ∷ then (ask "001c1e\r" ∷ ask "001c000200V\r" ∷ []) "001c000300W\r" 12 "001c_LOGICA\r"
    ∷ then (ask "001c1e\r" ∷ ask "0012DA03005@\r" ∷ []) "005c000200Z\r" 0 "005c000200Z\r"
    -- SYNTAX and RANGE of `C`, `c` and `M`
    ∷ expect "001CT\r" 10 "001C_LOGICa\r"
    ∷ expect "001C2F\r" 11 "001C_RANGE`\r"
    ∷ expect "001c0100u\r" 10 "001c_LOGICA\r"
    ∷ then (SetBench (Faulty 0) ∷ []) "001M1O\r" 10 "001M_LOGICk\r"
    -- `M`: faulty, under range; 9.9995 and 9.99995e9 rounded up into the next decade, 1.0005 half up
    ∷ then (SetBench (Faulty 0) ∷ []) "001M^\r" 13 "001M1O\r"
    ∷ then (SetBench (UnderRange 0) ∷ []) "001M^\r" 0 "001M000000~\r"
    ∷ then (SetBench (Reads 0 (decimals 99995 4)) ∷ []) "001M^\r" 0 "001M100021B\r"
    ∷ then (SetBench (Reads 0 (zeros 999995 4)) ∷ []) "001M^\r" 0 "001M100030B\r"
    ∷ then (SetBench (Reads 0 (decimals 10005 4)) ∷ []) "001M^\r" 0 "001M100120B\r"
    -- `M`: 9.9994, and 982.1
    ∷ then (SetBench (Reads 0 (decimals 99994 4)) ∷ []) "001M^\r" 0 "001M999920d\r"
    ∷ then (SetBench (Reads 0 (decimals 9821 1)) ∷ []) "001M^\r" 0 "001M982122V\r"
    -- an unknown letter; `u` outside and with one digit; `u` writes DU for V2 too
    ∷ expect "001Te\r" 8 "001NO_DEF\\\r"
    ∷ expect "001u000003i\r" 11 "001u_RANGER\r"
    ∷ expect "001u1w\r" 10 "001u_LOGICS\r"
    ∷ then (ask "001u000001g\r" ∷ []) "0010DU00z\r" 0 "0011DU04Torrf\r"
    -- `C1` and C1 read at factory settings
    ∷ expect "001C1E\r" 0 "001C000100u\r"
    ∷ expect "0010C100U\r" 0 "0011C1041.00Y\r"
    -- MV as written, whatever DU and C1 hold; T2 with two decimals
    ∷ then (SetBench (Reads 0 (decimals 9734 1)) ∷ []) "0010MV00D\r" 0 "0011MV079.734e2h\r"
    ∷ then (SetBench (Reads 0 (decimals 9734 1)) ∷ ask "0012DU04Torrg\r" ∷ ask "0012C1042.22_\r" ∷ []) "0010MV00D\r" 0 "0011MV079.734e2h\r"
    ∷ then (SetBench (Reads 8 (below 5 2)) ∷ []) "0010T200g\r" 0 "0011T205-0.05]\r"
    ∷ then (SetBench (Reads 8 (decimals 0 2)) ∷ []) "0010T200g\r" 0 "0011T2040.00j\r"
    ∷ []

-- the stream line
abbrev pub lines : List Case
lines =
    -- ROOM before "no line"; no line with SM 0
    line [] 70 1 ""
    ∷ line [] 71 0 ""
    -- source 0 alone; the list in order; a faulty source is a value; source 7 at zero
    ∷ line (ask "0012SM014x\r" ∷ SetBench (Reads 0 (decimals 9734 1)) ∷ []) 71 0 "9.734e2\\\r"
    ∷ line (ask "0012SM064DT2D7B\r" ∷ SetBench (Reads 0 (decimals 9734 1)) ∷ SetBench (Reads 7 (decimals 1 1)) ∷ SetBench (Reads 8 (decimals 2325 2)) ∷ []) 71 0 "9.734e2;23.25;1e-1@\r"
    ∷ line (ask "0012SM064D7DT2B\r" ∷ SetBench (Faulty 7) ∷ SetBench (OverRange 0) ∷ []) 71 0 "OR;ERROR1;20.00B\r"
    ∷ line (ask "0012SM034D7u\r" ∷ SetBench (Reads 7 (decimals 0 0)) ∷ []) 71 0 "1e0;0q\r"
    -- 70 bytes lent are refused for a short line too
    ∷ line (ask "0012SM014x\r" ∷ []) 70 1 ""
    ∷ []

-- ---- whole sequences of calls to a fresh gauge

pub record Step : Type 0 where
  pub call : Call
  pub answer : Answer

abbrev pub asks_lent : ℕ → String → ℕ → String → Step
asks_lent room text number reply = record { call = lending room text; answer = record { number = number; reply = bytes reply } }

abbrev pub asks : String → ℕ → String → Step
asks text number reply = asks_lent 64 text number reply

abbrev pub sets : Bench → ℕ → Step
sets setting number = record { call = SetBench setting; answer = silent number }

abbrev pub streams : ℕ → ℕ → String → Step
streams room number reply = record { call = Line room; answer = record { number = number; reply = bytes reply } }

-- what reads would send, and whether the gauge is unlocked
pub record Holding : Type 0 where
  pub texts : List (List ℕ)
  pub unlocked : Bool

abbrev pub holding : State → Holding
holding g = record { texts = map (sent_text g) (Of DA ∷ Of DU ∷ Of C1 ∷ Of CM ∷ Of CC ∷ Of FC ∷ Of ST ∷ Of SM ∷ FS ∷ []); unlocked = g.unlocked }

pub record Course : Type 0 where
  pub profile : Profile
  pub steps : List Step
  pub end : Holding

-- what a gauge that ends locked holds at the end: DA, DU, C1, CM, CC, FC, ST, SM and FS
abbrev pub course_on : Profile → List Step → List String → Course
course_on p steps texts = record { profile = p; steps = steps; end = record { texts = map bytes texts; unlocked = false } }

abbrev pub course : List Step → List String → Course
course steps texts = record { profile = Standard; steps = steps; end = record { texts = map bytes texts; unlocked = false } }

-- the sequence with the answers that the calls get, and what the gauge then holds
unfoldable pub played : State → List Step → List Step
played g [] = []
played g (c ∷ cs) = record { call = c.call; answer = answered g c.call } ∷ played (after g c.call) cs

unfoldable pub ended : State → List Step → State
ended g [] = g
ended g (c ∷ cs) = ended (after g c.call) cs

abbrev pub run : Course → Course
run c = record { profile = c.profile; steps = played (fresh (limits_of c.profile)) c.steps; end = holding (ended (fresh (limits_of c.profile)) c.steps) }

-- the unlock across addresses and protocols
abbrev pub unlocking : Course
unlocking =
    course
    (asks "001c1e\r" 0 "001c1e\r"
    ∷ asks "0012DA03005@\r" 0 "0013DA00i\r"
    ∷ asks "001c000200V\r" 5 ""
    ∷ asks "0050C100Y\r" 0 "0051C1041.00]\r"
    ∷ asks "005c000200Z\r" 0 "005c000200Z\r"
    ∷ asks "0050C100Y\r" 0 "0051C1042.00^\r"
    ∷ asks "0054C100]\r" 0 "0055C100^\r"
    ∷ asks "005C1I\r" 0 "005C000100y\r"
    ∷ asks "005c000300[\r" 12 "005c_LOGICE\r"
    ∷ [])
    ("005" ∷ "mbar" ∷ "1.00" ∷ "1" ∷ "1" ∷ "0" ∷ "D1e0" ∷ "0" ∷ "0" ∷ [])

-- the last accepted write wins, refused ones leave no trace
abbrev pub last_wins : Course
last_wins =
    course
    (asks "0012C1042.22_\r" 0 "0013C100X\r"
    ∷ asks "0012C1049.99t\r" 11 "0017C106_RANGEn\r"
    ∷ asks "0012C1050.205Q\r" 11 "0017C106_RANGEn\r"
    ∷ asks "001c1e\r" 0 "001c1e\r"
    ∷ asks "001c000350\\\r" 0 "001c000350\\\r"
    ∷ asks "0012C10g\r" 2 ""
    ∷ asks "0010C100U\r" 0 "0011C1043.50`\r"
    ∷ [])
    ("001" ∷ "mbar" ∷ "3.50" ∷ "1" ∷ "1" ∷ "0" ∷ "D1e0" ∷ "0" ∷ "0" ∷ [])

-- CC needs CM 0, and keeps its value when CM is 1 again
abbrev pub cathode : Course
cathode =
    course
    (asks "0012CC010Z\r" 12 "0017CC06_LOGICA\r"
    ∷ asks "0012CM010d\r" 0 "0013CM00t\r"
    ∷ asks "0012CC010Z\r" 0 "0013CC00j\r"
    ∷ asks "0012CM011e\r" 0 "0013CM00t\r"
    ∷ asks "0014CC00k\r" 12 "0017CC06_LOGICA\r"
    ∷ asks "0010CC00g\r" 0 "0011CC010Y\r"
    ∷ asks "0014CM00u\r" 0 "0015CM00v\r"
    ∷ asks "0010CC00g\r" 0 "0011CC010Y\r"
    ∷ [])
    ("001" ∷ "mbar" ∷ "1.00" ∷ "1" ∷ "0" ∷ "0" ∷ "D1e0" ∷ "0" ∷ "0" ∷ [])

-- the transition: D 1 at the start and after a restore, from either form; 1 and 20 pass, and what is refused changes nothing
abbrev pub transition : Course
transition =
    course
    (asks "0010ST00H\r" 0 "0011ST04D1e0W\r"
    ∷ asks "0012ST05F5T15D\r" 0 "0013ST00K\r"
    ∷ asks "0010ST00H\r" 0 "0011ST10F5e0T1.5e1X\r"
    ∷ asks "0014ST00L\r" 0 "0015ST00M\r"
    ∷ asks "0010ST00H\r" 0 "0011ST04D1e0W\r"
    ∷ asks "0012ST04F5T5R\r" 12 "0017ST06_LOGICb\r"
    ∷ asks "0010ST00H\r" 0 "0011ST04D1e0W\r"
    ∷ asks "0012ST08D0.99999Q\r" 11 "0017ST06_RANGEa\r"
    ∷ asks "0012ST02D1A\r" 0 "0013ST00K\r"
    ∷ asks "0010ST00H\r" 0 "0011ST04D1e0W\r"
    ∷ asks "0012ST05F1T20|\r" 0 "0013ST00K\r"
    ∷ asks "0010ST00H\r" 0 "0011ST08F1e0T2e1y\r"
    ∷ asks "0014ST02D1C\r" 10 "0017ST06SYNTAX|\r"
    ∷ asks "0010ST00H\r" 0 "0011ST08F1e0T2e1y\r"
    ∷ asks "0014ST00L\r" 0 "0015ST00M\r"
    ∷ asks "0010ST00H\r" 0 "0011ST04D1e0W\r"
    ∷ asks "0012ST08D20.0001g\r" 11 "0017ST06_RANGEa\r"
    ∷ asks "0012ST04D2e1Z\r" 0 "0013ST00K\r"
    ∷ asks "0010ST00H\r" 0 "0011ST04D2e1Y\r"
    ∷ asks_lent 63 "0014ST00L\r" 1 ""
    ∷ asks "0010ST00H\r" 0 "0011ST04D2e1Y\r"
    ∷ asks "0014ST00L\r" 0 "0015ST00M\r"
    ∷ asks "0010ST00H\r" 0 "0011ST04D1e0W\r"
    ∷ [])
    ("001" ∷ "mbar" ∷ "1.00" ∷ "1" ∷ "1" ∷ "0" ∷ "D1e0" ∷ "0" ∷ "0" ∷ [])

-- the witness of demand 3: seven values and 71 bytes, with the list in two orders
abbrev pub longest : Course
longest =
    course
    (sets (Reads 0 (decimals 123456 14)) 0
    ∷ sets (Reads 1 (decimals 123456 14)) 0
    ∷ sets (Reads 2 (decimals 123456 14)) 0
    ∷ sets (Reads 6 (decimals 123456 14)) 0
    ∷ sets (Reads 7 (below 123456 14)) 0
    ∷ sets (Reads 8 (below 4000 2)) 0
    ∷ sets (Reads 9 (below 4000 2)) 0
    ∷ asks "0012SM154DT6DT2D7D6D2D1u\r" 0 "0013SM00D\r"
    ∷ streams 71 0 "1.23456e-9;-40.00;-40.00;-1.23456e-9;1.23456e-9;1.23456e-9;1.23456e-9s\r"
    ∷ asks "0012SM154D1D2D6D7DT2DT6u\r" 0 "0013SM00D\r"
    ∷ streams 70 1 ""
    ∷ streams 71 0 "1.23456e-9;1.23456e-9;1.23456e-9;1.23456e-9;-1.23456e-9;-40.00;-40.00s\r"
    ∷ [])
    ("001" ∷ "mbar" ∷ "1.00" ∷ "1" ∷ "1" ∷ "0" ∷ "D1e0" ∷ "4D1D2D6D7DT2DT6" ∷ "0" ∷ [])

-- a faulty sensor for MV, M and the line
abbrev pub faulty : Course
faulty =
    course
    (sets (Faulty 0) 0
    ∷ asks "0010MV00D\r" 13 "0017MV06ERROR1L\r"
    ∷ asks "001M^\r" 13 "001M1O\r"
    ∷ asks "0012SM034D1o\r" 0 "0013SM00D\r"
    ∷ streams 71 0 "ERROR1;1e0|\r"
    ∷ sets (OverRange 0) 0
    ∷ asks "0010MV00D\r" 0 "0011MV02ORh\r"
    ∷ asks "001M^\r" 0 "001M999999t\r"
    ∷ streams 71 0 "OR;1e0b\r"
    ∷ [])
    ("001" ∷ "mbar" ∷ "1.00" ∷ "1" ∷ "1" ∷ "0" ∷ "D1e0" ∷ "4D1" ∷ "0" ∷ [])

-- refused bench settings change nothing
abbrev pub refused_bench : Course
refused_bench =
    course
    (sets (Reads 0 (decimals 0 0)) 15
    ∷ sets (UnderRange 8) 15
    ∷ sets (Status 4) 15
    ∷ asks "0010MV00D\r" 0 "0011MV031e0N\r"
    ∷ asks "0010T200g\r" 0 "0011T20520.00]\r"
    ∷ asks "0010FS00z\r" 0 "0011FS010l\r"
    ∷ [])
    ("001" ∷ "mbar" ∷ "1.00" ∷ "1" ∷ "1" ∷ "0" ∷ "D1e0" ∷ "0" ∷ "0" ∷ [])

-- document 02, "Hot cathode gauges": factory value, restore, streams, bench and longest line of VSH and of VSM
abbrev pub hot_steps : List Step
hot_steps =
    asks "0010ST00H\r" 0 "0011ST05D1e-3H\r"
    ∷ asks "0012ST05D2e-3J\r" 0 "0013ST00K\r"
    ∷ asks "0010ST00H\r" 0 "0011ST05D2e-3I\r"
    ∷ asks "0014ST00L\r" 0 "0015ST00M\r"
    ∷ asks "0010ST00H\r" 0 "0011ST05D1e-3H\r"
    ∷ asks "0012ST05F5T15D\r" 10 "0017ST06SYNTAX|\r"
    ∷ asks "0012ST02D1A\r" 11 "0017ST06_RANGEa\r"
    ∷ asks "0012SM034D7u\r" 11 "0017SM06_RANGEZ\r"
    ∷ asks "0012SM054D1D1f\r" 12 "0017SM06_LOGIC[\r"
    ∷ asks "0010MV00D\r" 0 "0011MV031e0N\r"
    ∷ asks "0010T200g\r" 0 "0011T20520.00]\r"
    ∷ asks "0012SM064D1DT2|\r" 0 "0013SM00D\r"
    ∷ asks "0010SM00A\r" 0 "0011SM064D1DT2{\r"
    ∷ sets (Reads 0 (decimals 123456 14)) 0
    ∷ sets (Reads 1 (decimals 123456 14)) 0
    ∷ sets (Reads 8 (below 4000 2)) 0
    ∷ sets (Status 3) 0
    ∷ sets (Reads 2 (decimals 1 0)) 15
    ∷ sets (Reads 6 (decimals 1 0)) 15
    ∷ sets (Reads 7 (decimals 1 0)) 15
    ∷ sets (Reads 9 (decimals 20 0)) 15
    ∷ sets (Faulty 7) 15
    ∷ sets (UnderRange 2) 15
    ∷ sets (Status 4) 15
    ∷ streams 29 1 ""
    ∷ streams 30 0 "1.23456e-9;1.23456e-9;-40.00q\r"
    ∷ []

abbrev pub hot_texts : List String
hot_texts = "001" ∷ "mbar" ∷ "1.00" ∷ "1" ∷ "1" ∷ "0" ∷ "D1e-3" ∷ "4D1DT2" ∷ "3" ∷ []

-- their upper ends differ
abbrev pub upper_ends : List Course
upper_ends =
    course_on Vsh (asks "0012ST05D1e-2H\r" 0 "0013ST00K\r" ∷ []) ("001" ∷ "mbar" ∷ "1.00" ∷ "1" ∷ "1" ∷ "0" ∷ "D1e-2" ∷ "0" ∷ "0" ∷ [])
    ∷ course_on Vsm (asks "0012ST05D1e-2H\r" 11 "0017ST06_RANGEa\r" ∷ []) ("001" ∷ "mbar" ∷ "1.00" ∷ "1" ∷ "1" ∷ "0" ∷ "D1e-3" ∷ "0" ∷ "0" ∷ [])
    ∷ []

abbrev pub cases : List Case
cases = order ++ settings ++ over_v1 ++ lines

abbrev pub courses : List Course
courses = unlocking ∷ last_wins ∷ cathode ∷ transition ∷ longest ∷ faulty ∷ refused_bench ∷ course_on Vsh hot_steps hot_texts ∷ course_on Vsm hot_steps hot_texts ∷ upper_ends
