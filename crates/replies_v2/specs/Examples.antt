-- Document 01, "The master's side", and document 02, "Hot cathode gauges": worked cases of the V2 reply reader, their answers taken from the papers.
use Rattle.std.specs.Prelude.{Bool, ◌&&◌, List, [], ◌∷◌, ◌++◌, ℕ}
use Prim.Native.String.{String}
use Rattle.buffer.specs.Byte.{same_text}
use Rattle.buffer.specs.Quoted.{bytes}
use Rattle.sources.specs.declared.Profile.{Profile}
use Rattle.sources.specs.declared.Profile.TheVariants.{Standard, Vsh, Vsm}
use Rattle.settings.specs.Limits.{limits_of}
use Rattle.settings.specs.declared.Key.TheVariants.{DA, DU, C1, CM, ST, SM}
use Rattle.settings.specs.declared.Setting.TheVariants.{Address, Factor}
use Rattle.requests.specs.declared.Command.TheVariants.{MV, T2, FN, FS, Of}
use Rattle.requests.specs.declared.RequestV2.{RequestV2}
use Rattle.requests.specs.declared.RequestV2.TheVariants as ask
use Rattle.replies_v2.specs.ReplyV2.{read_v2, read_list, read_shown_v2}

-- the profile, the address and the request that the reader is told, the bytes, what they are read as, and the list beside it
pub record Case : Type 0 where
  pub profile : Profile
  pub address : ℕ
  pub request : RequestV2
  pub frame : List ℕ
  pub shown : List ℕ
  pub list : List ℕ

abbrev pub reads_on : Profile → RequestV2 → String → List ℕ → List ℕ → Case
reads_on p r frame shown list = record { profile = p; address = 1; request = r; frame = bytes frame ++ (13 ∷ []); shown = shown; list = list }

abbrev pub reads : RequestV2 → String → List ℕ → Case
reads r frame shown = record { profile = Standard; address = 1; request = r; frame = bytes frame ++ (13 ∷ []); shown = shown; list = [] }

abbrev pub cases : List Case
cases =
    reads (ask.Read MV) "0011MV079.734e2h" (0 ∷ 1 ∷ bytes "9.734e2")
    -- of the decimal form, though not as written
    ∷ reads (ask.Read MV) "0011MV05973.4O" (0 ∷ 1 ∷ bytes "9.734e2")
    -- source 0 is above zero
    ∷ reads (ask.Read MV) "0011MV010v" (11 ∷ [])
    ∷ reads (ask.Read MV) "0011MV04-1e0|" (11 ∷ [])
    ∷ reads (ask.Read MV) "0011MV04+1e0z" (10 ∷ [])
    -- `UR` and `OR` are MV's
    ∷ reads (ask.Read MV) "0011MV02URn" (0 ∷ 2 ∷ [])
    ∷ reads (ask.Read MV) "0011MV02ORh" (0 ∷ 3 ∷ [])
    ∷ reads (ask.Read T2) "0011T202URQ" (10 ∷ [])
    -- an error text counts with access 7 only
    ∷ reads (ask.Read MV) "0011MV06ERROR1F" (10 ∷ [])
    ∷ reads (ask.Read MV) "0017MV06ERROR1L" (0 ∷ 9 ∷ bytes "ERROR1")
    -- the six texts are read whatever the request
    ∷ reads (ask.Read (Of DU)) "0017DU06ERROR1B" (0 ∷ 9 ∷ bytes "ERROR1")
    ∷ reads (ask.Read MV) "0017MV06LENGTHS" (0 ∷ 9 ∷ bytes "LENGTH")
    ∷ reads (ask.Read MV) "0017MV06_LOGIC^" (0 ∷ 9 ∷ bytes "_LOGIC")
    ∷ reads (ask.Read MV) "0017MV06NO_DEF\\" (0 ∷ 9 ∷ bytes "NO_DEF")
    ∷ reads (ask.Read MV) "0017MV06SYNTAXx" (0 ∷ 9 ∷ bytes "SYNTAX")
    ∷ reads (ask.Read MV) "0017MV06_RANGE]" (0 ∷ 9 ∷ bytes "_RANGE")
    -- not in the table
    ∷ reads (ask.Read MV) "0017MV06_SEDISh" (10 ∷ [])
    -- access 7 without data
    ∷ reads (ask.Read MV) "0017MV00K" (10 ∷ [])
    -- another command, although access is 7
    ∷ reads (ask.Read MV) "0017T206ERROR1o" (14 ∷ [])
    -- 3 answers a write
    ∷ reads (ask.Read MV) "0013MV00G" (14 ∷ [])
    -- the request's echo
    ∷ reads (ask.Read MV) "0010MV00D" (14 ∷ [])
    -- LEN before 14, 10 and 11
    ∷ reads (ask.Read MV) "0011MV089.734e2i" (6 ∷ [])
    -- a V1 frame, also one with a wrong checksum
    ∷ reads (ask.Read MV) "001M982122V" (2 ∷ [])
    ∷ reads (ask.Read MV) "001M982122W" (2 ∷ [])
    -- 3 before 4, 4 before 5
    ∷ reads (ask.Read MV) "0001MV010v" (3 ∷ [])
    ∷ reads (ask.Read MV) "0001MV010u" (4 ∷ [])
    ∷ reads (ask.Read MV) "0021MV031e0O" (5 ∷ [])
    -- a write of DA is answered from the old address
    ∷ reads (ask.Set (Address 5)) "0013DA00i" (0 ∷ 8 ∷ [])
    ∷ record { profile = Standard; address = 5; request = ask.Set (Address 5); frame = bytes "0013DA00i" ++ (13 ∷ []); shown = 5 ∷ []; list = [] }
    -- write and default replies carry no data
    ∷ reads (ask.Set (Factor 100)) "0013C1041.00[" (10 ∷ [])
    ∷ reads (ask.Restore (Of C1)) "0015C100Z" (0 ∷ 8 ∷ [])
    -- C1 factory reply
    ∷ reads (ask.Read (Of C1)) "0011C1041.00Y" (0 ∷ 7 ∷ bytes "C11.00")
    -- a digit, but FN is 1 or 2
    ∷ reads (ask.Read FN) "0011FN010g" (11 ∷ [])
    ∷ reads (ask.Read FN) "0011FN013j" (11 ∷ [])
    ∷ reads (ask.Read FN) "0011FN012i" (0 ∷ 5 ∷ 2 ∷ [])
    ∷ reads (ask.Read FN) "0011FN0201Y" (10 ∷ [])
    ∷ reads (ask.Read FS) "0011FS010l" (0 ∷ 6 ∷ 0 ∷ [])
    ∷ reads (ask.Read FS) "0011FS014p" (11 ∷ [])
    ∷ reads (ask.Read (Of CM)) "0011CM012e" (11 ∷ [])
    ∷ reads (ask.Read T2) "0011T20527.91n" (0 ∷ 4 ∷ bytes "27.91")
    ∷ reads (ask.Read T2) "0011T206-40.00M" (0 ∷ 4 ∷ bytes "-40.00")
    ∷ reads (ask.Read T2) "0011T206-40.01N" (11 ∷ [])
    ∷ reads (ask.Read T2) "0011T206125.01U" (11 ∷ [])
    -- not whole hundredths
    ∷ reads (ask.Read T2) "0011T20627.915d" (11 ∷ [])
    -- F above T: each number is 1 to 20
    ∷ reads (ask.Read (Of ST)) "0011ST05F15T5C" (0 ∷ 7 ∷ bytes "STF1.5e1T5e0")
    ∷ reads (ask.Read (Of ST)) "0011ST04F0T5L" (11 ∷ [])
    ∷ reads (ask.Read (Of ST)) "0011ST05F0T1en" (10 ∷ [])
    ∷ reads (ask.Read (Of ST)) "0011ST02D5D" (0 ∷ 7 ∷ bytes "STD5e0")
    -- the factory value, on the lower limit
    ∷ reads (ask.Read (Of ST)) "0011ST04D1e0W" (0 ∷ 7 ∷ bytes "STD1e0")
    -- the list stands beside the answer
    ∷ record { profile = Standard; address = 1; request = ask.Read (Of SM); frame = bytes "0011SM064D7DT2A" ++ (13 ∷ []); shown = 0 ∷ 7 ∷ bytes "SM4"; list = 7 ∷ 8 ∷ [] }
    ∷ record { profile = Standard; address = 1; request = ask.Read (Of SM); frame = bytes "0011SM154D1D2D6D7DT2DT6t" ++ (13 ∷ []); shown = 0 ∷ 7 ∷ bytes "SM4"; list = 1 ∷ 2 ∷ 6 ∷ 7 ∷ 8 ∷ 9 ∷ [] }
    ∷ reads (ask.Read (Of SM)) "0011SM014w" (0 ∷ 7 ∷ bytes "SM4")
    -- a repeat or a listed `0`, after 10 and 11
    ∷ reads (ask.Read (Of SM)) "0011SM054D7D7q" (12 ∷ [])
    ∷ reads (ask.Read (Of SM)) "0011SM034D0m" (12 ∷ [])
    ∷ reads (ask.Read (Of SM)) "0011SM174D7D7D7D7D7D7D7D7V" (12 ∷ [])
    ∷ reads (ask.Read (Of SM)) "0011SM074D7D7D9p" (11 ∷ [])
    ∷ reads (ask.Read (Of SM)) "0011SM064D7D7XJ" (10 ∷ [])
    ∷ reads (ask.Read (Of SM)) "0011SM030D7p" (10 ∷ [])
    ∷ reads (ask.Read (Of DA)) "0011DA03017B" (11 ∷ [])
    ∷ reads (ask.Read (Of DU)) "0011DU03Pa O" (10 ∷ [])
    -- ST by the profile: the third, VSH, VSM
    ∷ reads (ask.Read (Of ST)) "0011ST05D1e-3H" (11 ∷ [])
    ∷ reads_on Vsh (ask.Read (Of ST)) "0011ST05D1e-3H" (0 ∷ 7 ∷ bytes "STD1e-3") []
    ∷ reads_on Vsm (ask.Read (Of ST)) "0011ST05D1e-3H" (0 ∷ 7 ∷ bytes "STD1e-3") []
    ∷ reads (ask.Read (Of ST)) "0011ST05D5e-3L" (11 ∷ [])
    ∷ reads_on Vsh (ask.Read (Of ST)) "0011ST05D5e-3L" (0 ∷ 7 ∷ bytes "STD5e-3") []
    ∷ reads_on Vsm (ask.Read (Of ST)) "0011ST05D5e-3L" (11 ∷ []) []
    ∷ reads_on Vsh (ask.Read (Of ST)) "0011ST04D1e0W" (11 ∷ []) []
    ∷ reads_on Vsm (ask.Read (Of ST)) "0011ST04D1e0W" (11 ∷ []) []
    -- the `F` form, whatever its numbers
    ∷ reads (ask.Read (Of ST)) "0011ST10F5e0T1.5e1X" (0 ∷ 7 ∷ bytes "STF5e0T1.5e1")
    ∷ reads_on Vsh (ask.Read (Of ST)) "0011ST10F5e0T1.5e1X" (10 ∷ []) []
    ∷ reads_on Vsm (ask.Read (Of ST)) "0011ST10F5e0T1.5e1X" (10 ∷ []) []
    ∷ reads (ask.Read (Of ST)) "0011ST10F1e-3T2e-3Q" (11 ∷ [])
    ∷ reads_on Vsh (ask.Read (Of ST)) "0011ST10F1e-3T2e-3Q" (10 ∷ []) []
    ∷ reads_on Vsm (ask.Read (Of ST)) "0011ST10F1e-3T2e-3Q" (10 ∷ []) []
    -- SM by the profile's sources
    ∷ reads_on Standard (ask.Read (Of SM)) "0011SM034D7t" (0 ∷ 7 ∷ bytes "SM4") (7 ∷ [])
    ∷ reads_on Vsh (ask.Read (Of SM)) "0011SM034D7t" (11 ∷ []) []
    ∷ reads_on Vsm (ask.Read (Of SM)) "0011SM034D7t" (11 ∷ []) []
    ∷ reads_on Standard (ask.Read (Of SM)) "0011SM064D1DT2{" (0 ∷ 7 ∷ bytes "SM4") (1 ∷ 8 ∷ [])
    ∷ reads_on Vsh (ask.Read (Of SM)) "0011SM064D1DT2{" (0 ∷ 7 ∷ bytes "SM4") (1 ∷ 8 ∷ [])
    ∷ reads_on Vsm (ask.Read (Of SM)) "0011SM064D1DT2{" (0 ∷ 7 ∷ bytes "SM4") (1 ∷ 8 ∷ [])
    ∷ reads (ask.Read (Of SM)) "0011SM054D1D1e" (12 ∷ [])
    ∷ reads_on Vsh (ask.Read (Of SM)) "0011SM054D1D1e" (12 ∷ []) []
    ∷ reads_on Vsm (ask.Read (Of SM)) "0011SM054D1D1e" (12 ∷ []) []
    ∷ []

abbrev pub right : Case → Bool
right c = same_text (read_shown_v2 (read_v2 (limits_of c.profile) c.address c.request c.frame)) c.shown && same_text (read_list (limits_of c.profile) c.address c.request c.frame) c.list
